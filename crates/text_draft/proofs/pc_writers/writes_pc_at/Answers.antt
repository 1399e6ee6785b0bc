use Rattle.std.proofs.Common.{◌∙◌, ap}
use Rattle.std.specs.Prelude.{not}
use Rattle.arm2_decode.specs.Names.{is_never}
use Rattle.control_flow.specs.declared.actions.Action.{Action}
use Rattle.text_draft.proofs.WayLaws.{same_action}
use Rattle.text_draft.proofs.pc_writers.writes_pc_at.Goals as goal

pub returns-in-Writer-clause-no : goal.returns-in-Writer-clause-no
returns-in-Writer-clause-no c = λ h.
    let same = same_action c.in-Some.action h.action (c.in-Some.ensures.only h.action h.has) in
    ap not (c.is_never.ensures ∙ ap (λ (r : Action). is_never r.cond) same ∙ h.carried)

pub returns-in_default-clause-no : goal.returns-in_default-clause-no
returns-in_default-clause-no c = λ h.
    let same = same_action c.in-Some.action h.action (c.in-Some.ensures.only h.action h.has) in
    absurd (c.in_default.not-Writer (ap (λ (r : Action). r.kind) same ∙ h.writes))
