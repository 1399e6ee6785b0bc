use Rattle.std.proofs.Common.{⊎_elim, ap, ◌∙◌}
use Rattle.text_draft.specs.Ends.{action_end}
use Rattle.text_draft.proofs.WayLaws.{same_action}
use Rattle.text_draft.proofs.ends.end_at.Goals as goal

pub returns-in-Some-clause-only : goal.returns-in-Some-clause-only
returns-in-Some-clause-only c = λ end h.
    ⊎_elim
    (λ none. absurd (cc (none.0, c.in-Some.ensures.some.word_is)))
    (λ some.
    let same = same_action c.in-Some.action some.0 (c.in-Some.ensures.only some.0 some.1) in
    c.action_end.ensures ∙ ap action_end same ∙ some.2)
    h
