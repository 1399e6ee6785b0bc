use Rattle.std.proofs.Common.{◌∙◌, ap, subst}
use Rattle.control_flow.specs.Kinds.{IsAction}
use Rattle.control_flow.specs.declared.actions.Action.{Action}
use Rattle.control_flow.proofs.EdgeLemmas.{one_action}
use Rattle.statement.specs.Stated.{class_at}
use Rattle.known_places.specs.Outside.{WordGoesOutside}
use Rattle.known_places.proofs.AroundLemmas.{some_as}
use Rattle.known_places.proofs.outside.outside_of.Goals as goal

pub returns : goal.returns
returns c =
    let st = c.args.handler.now.statement in
    some_as (WordGoesOutside c.class_at-class.result c.args.word c.args.address c.args.known.now)
    (λ range. (action : Action) → IsAction c.args.word action
    → WordGoesOutside (class_at st c.args.address action.base) c.args.word c.args.address c.args.known.now range)
    c.goes_outside.result
    (λ range goes action is.
    let same = one_action c.args.word c.action_of-base.result action c.action_of-base.ensures.value is in
    subst (λ class. WordGoesOutside class c.args.word c.args.address c.args.known.now range)
    (c.class_at-class.ensures ∙ ap (λ (a : Action). class_at st c.args.address a.base) same) goes)
    c.goes_outside.ensures
