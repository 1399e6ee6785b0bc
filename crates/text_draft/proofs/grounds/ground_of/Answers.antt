use Rattle.std.proofs.Common.{◌∙◌, ap, inl, inr, refl, sym}
use Rattle.std.proofs.lemmas.Bool.{false≢true}
use Rattle.text_draft.specs.Grounds.{by_claim}
use Rattle.text_draft.proofs.grounds.ground_of.Goals as goal

pub returns-then-rests_on_word : goal.returns-then-rests_on_word
returns-then-rests_on_word c = inl (refl, c.rests_on_word.ensures.0 c.if-rests_on_word.true)

pub returns : goal.returns
returns c =
    inr (
      c.by_claim.ensures ∙ ap by_claim c.has_class.ensures,
      λ rests. false≢true (sym c.if-rests_on_word.false ∙ c.rests_on_word.ensures.1 rests),
    )
