use Rattle.std.proofs.lemmas.Result.{IfOk-weaker}
use Rattle.text_draft.proofs.Explored.{reached_keys}
use Rattle.text_draft.proofs.reach.reach.Goals as goal

pub returns-clause-reached : goal.returns-clause-reached
returns-clause-reached c =
    IfOk-weaker c.reached_from.result _ _
    (λ reached keys. reached_keys c.args.image.now c.args.begun.now c.args.entry c.in_ok-found.found.seen c.in_ok-found.found.order.items
    reached.addresses.items c.in_ok-found.ensures.found c.in_ok-found.ensures.reached keys)
    c.reached_from.ensures.keys
