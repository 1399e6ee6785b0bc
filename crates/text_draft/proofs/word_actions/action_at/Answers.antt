use Rattle.std.proofs.Common.{Some, ap, sym}
use Rattle.control_flow.specs.declared.actions.Action.{Action}
use Rattle.control_flow.proofs.EdgeLemmas.{one_action_at}
use Rattle.text_draft.proofs.word_actions.action_at.Goals as goal

pub returns-in-Some-clause-only : goal.returns-in-Some-clause-only
returns-in-Some-clause-only c = λ action has.
    ap (λ (a : Action). Some a)
    (one_action_at c.args.image.now c.args.at c.action_of.result action
    (record { word = c.in-Some.word; word_is = sym c.in-Some.ensures.value; is = c.action_of.ensures.value }) has)
