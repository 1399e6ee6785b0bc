use Rattle.std.proofs.Common.{◌∙◌, ap}
use Rattle.arm2_decode.specs.Names.{is_always}
use Rattle.control_flow.specs.declared.actions.Action.{Action}
use Rattle.text_draft.proofs.WayLaws.{same_action}
use Rattle.text_draft.proofs.ways.is_branch.Goals as goal

pub returns-in_default-clause-no : goal.returns-in_default-clause-no
returns-in_default-clause-no c = λ h.
    let same = same_action c.in-Some.action h.action (c.in-Some.ensures.only h.action h.has) in
    absurd (c.in_default.not-Branch h.offset (ap (λ (r : Action). r.kind) same ∙ h.branches))

pub returns-else-is_always-clause-no : goal.returns-else-is_always-clause-no
returns-else-is_always-clause-no c = λ h.
    let same = same_action c.in-Some.action h.action (c.in-Some.ensures.only h.action h.has) in
    c.is_always.ensures ∙ ap (λ (r : Action). is_always r.cond) same ∙ h.always
