use Rattle.std.proofs.Common.{◌∙◌, ap, subst, sym}
use Rattle.arm2_decode.specs.declared.names.Register.{Register}
use Rattle.control_flow.specs.declared.actions.Action.{Action}
use Rattle.control_flow.proofs.EdgeLemmas.{one_action}
use Rattle.statement.specs.Stated.{class_at}
use Rattle.known_places.specs.Words.{StaysIn}
use Rattle.known_places.proofs.table.follows.Goals as goal

pub returns : goal.returns
returns c = λ seen action is.
    let st = c.args.handler.now.statement in
    let same = one_action c.args.word c.action_of-base.result action c.action_of-base.ensures.value is in
    subst (λ class. StaysIn class c.args.word c.args.address c.args.known.now)
    (c.class_at-class.ensures ∙ ap (λ (a : Action). class_at st c.args.address a.base) same)
    (c.stays_in.ensures seen)
