use Rattle.std.proofs.Common.{◌≡◌, Some, sym, ◌∙◌, subst}
use Rattle.control_flow.specs.Free.{IsFreeWord}
use Rattle.control_flow.proofs.free_edges.has_free_word.Goals as goal

pub returns-in-Some : goal.returns-in-Some
returns-in-Some c = (
  (λ yes. (c.in-Some.word, sym c.in-Some.ensures.value, c.is_free_word.ensures.0 yes)),
  λ h.
      let both : Some h.0 ≡ Some c.in-Some.word = sym h.1 ∙ sym c.in-Some.ensures.value in
      let same : h.0 ≡ c.in-Some.word = cc in
      c.is_free_word.ensures.1 (subst IsFreeWord same h.2),
)
