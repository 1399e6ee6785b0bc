use Rattle.std.proofs.Common.{◌∙◌, ap, inl, refl, sym}
use Rattle.std.proofs.lemmas.Bool.{false≢true}
use Rattle.bus_ticks.specs.declared.profile.Class.TheVariants.{Any}
use Rattle.text_draft.specs.Rules.{is_same_class}
use Rattle.text_draft.proofs.GroundLaws.{none_rests, shown_rests, unshown_rests}
use Rattle.text_draft.proofs.TallyLaws.{own_class, same_class}
use Rattle.text_draft.proofs.grounds.rests_on_word.Goals as goal

pub returns-then-is_same_class : goal.returns-then-is_same_class
returns-then-is_same_class c = (λ e. inl (same_class c.args.class Any (sym c.is_same_class.ensures ∙ c.if-is_same_class.true)), λ rests. refl)

pub returns-in_default : goal.returns-in_default
returns-in_default c = (
  λ e. absurd (false≢true e),
  λ rests. absurd (none_rests c.args.image.now c.args.at c.args.class
      (λ any. false≢true (sym c.if-is_same_class.false ∙ c.is_same_class.ensures ∙ ap (λ k. is_same_class k Any) any ∙ own_class Any))
      c.in_default.ensures.only rests),
)

pub returns-in-Some-shown_by_pc : goal.returns-in-Some-shown_by_pc
returns-in-Some-shown_by_pc c =
    shown_rests c.args.image.now c.args.at c.args.class
    (λ any. false≢true (sym c.if-is_same_class.false ∙ c.is_same_class.ensures ∙ ap (λ k. is_same_class k Any) any ∙ own_class Any))
    c.in-Some.instr c.in-Some.ensures.some c.in-Some.ensures.only c.in-Some-shown_by_pc.shown c.is_same_class-in-Some-shown_by_pc.result
    c.in-Some-shown_by_pc.ensures.some c.in-Some-shown_by_pc.ensures.only c.is_same_class-in-Some-shown_by_pc.ensures

pub returns-in-None : goal.returns-in-None
returns-in-None c = (
  λ e. absurd (false≢true e),
  λ rests. absurd (unshown_rests c.args.image.now c.args.at c.args.class
      (λ any. false≢true (sym c.if-is_same_class.false ∙ c.is_same_class.ensures ∙ ap (λ k. is_same_class k Any) any ∙ own_class Any))
      c.in-Some.instr c.in-Some.ensures.some c.in-Some.ensures.only c.in-None.ensures.only rests),
)
