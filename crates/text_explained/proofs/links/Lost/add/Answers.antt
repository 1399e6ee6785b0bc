use Rattle.text_explained.proofs.LinkLaws.{one_found}
use Rattle.text_explained.proofs.links.Lost.add.Goals as goal

pub returns-in_ok-push-clause-found : goal.returns-in_ok-push-clause-found
returns-in_ok-push-clause-found c =
    rw c.in_ok-push.ensures.items
    (one_found c.args.self.now.seen c.insert.new.self c.args.self.now.order.items c.args.place.now c.in_ok-insert.field-0 c.requires c.in_ok-insert.ensures.updates
    c.in_ok-insert.ensures.len c.if-branch.true)
