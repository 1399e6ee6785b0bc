use Rattle.std.proofs.Common.{arith}
use Rattle.text_draft.proofs.Explored.{search_begun, search_done, search_more}
use Rattle.text_draft.proofs.reach.explore.Goals as goal

pub loop-next-init : goal.loop-next-init
loop-next-init c = record {
  found = c.in_ok-found.ensures.found;
  search = search_begun c.args.image.now c.args.begun.now c.args.entry c.in_ok-found.found.order.items c.in_ok-found.ensures.begun;
}

pub loop-next-preserved : goal.loop-next-preserved
loop-next-preserved c = record {
  found = c.in_ok-look_at.ensures.found;
  search =
      search_more c.args.image.now c.args.begun.now c.args.entry c.loop-next.found.order.items c.look_at.new.self.order.items c.loop-next.next
      c.index-at.result.now c.loop-next.invariant.search (omega (arith, c.len.ensures, c.if-next-len.false))
      c.index-at.ensures c.in_ok-look_at.ensures.grows;
}

pub returns-then-next-len-clause-reached : goal.returns-then-next-len-clause-reached
returns-then-next-len-clause-reached c =
    search_done c.args.image.now c.args.begun.now c.args.entry c.loop-next.found.seen c.loop-next.found.order.items c.loop-next.next
    c.loop-next.invariant.found c.loop-next.invariant.search (omega (arith, c.len.ensures, c.if-next-len.true))

pub returns-clause-reached : goal.returns-clause-reached
returns-clause-reached c =
    search_done c.args.image.now c.args.begun.now c.args.entry c.loop-next.found.seen c.loop-next.found.order.items c.loop-next.next
    c.loop-next.invariant.found c.loop-next.invariant.search
    (omega (arith, c.loop-next.invariant.found.few, c.loop-next-test.false))
