use Rattle.std.proofs.Common.{◌≡◌, ◌∙◌, None, Some, refl, sym, rules}
use Rattle.std.proofs.lemmas.Bool.{false≢true}
use Rattle.text_draft.proofs.RuleLaws.{is_shown, one_base, shows_at}
use Rattle.text_draft.proofs.rules.shows.Goals as goal

pub returns-in_default : goal.returns-in_default
returns-in_default c = (λ e i has. absurd (c.in_default.not-Some i (c.instr_at.ensures.only i has)), λ s. refl)

pub returns-in_default-base_used : goal.returns-in_default-base_used
returns-in_default-base_used c = (
  λ e. shows_at c.args.image.now c.args.at c.args.class c.in-Some.instr c.in-Some.ensures.only
      (λ r used pc. absurd (c.in_default-base_used.not-Some r (c.base_used.ensures ∙ used))),
  λ s. refl,
)

pub returns-then-not-is_pc : goal.returns-then-not-is_pc
returns-then-not-is_pc c = (
  λ e. shows_at c.args.image.now c.args.at c.args.class c.in-Some.instr c.in-Some.ensures.only
      (λ r used pc. absurd (one_base _ c.in-Some-base_used.register r (sym c.in-Some-base_used.ensures) used (sym c.is_pc.ensures ∙ search rules) pc)),
  λ s. refl,
)

pub returns-in-Some-shown_by_pc : goal.returns-in-Some-shown_by_pc
returns-in-Some-shown_by_pc c =
    is_shown c.args.image.now c.args.at c.args.class c.in-Some-shown_by_pc.shown c.in-Some.instr c.in-Some-base_used.register c.in-Some.ensures.some c.in-Some.ensures.only
    (sym c.in-Some-base_used.ensures) (sym c.is_pc.ensures ∙ search rules) c.in-Some-shown_by_pc.ensures.some c.in-Some-shown_by_pc.ensures.only
    c.is_same_class.result c.is_same_class.ensures

pub returns-in-None : goal.returns-in-None
returns-in-None c = (
  λ e. absurd (false≢true e),
  λ s. absurd (let no : None ≡ Some c.args.class = c.in-None.ensures.only c.args.class (s c.in-Some.instr c.in-Some.ensures.some c.in-Some-base_used.register (sym c.in-Some-base_used.ensures) (sym c.is_pc.ensures ∙ search rules)) in cc),
)
