use Rattle.std.proofs.Common.{◌<◌, ◌≤◌, length, arith}
use Rattle.std.specs.BTreeSet.{btree_set_len}
use Rattle.text_explained.proofs.LinkLaws.{few_found, search_begun, search_done, search_more}
use Rattle.text_explained.proofs.links.lost_places.Goals as goal

pub loop-next-init : goal.loop-next-init
loop-next-init c = record {
  well = c.edges.ensures.well_formed;
  found = c.in_ok-follow.ensures.found;
  search =
      search_begun c.args.handler.now.image.now c.args.handler.now.statement c.args.handler.now.graph c.args.by c.new-2.result.items c.follow.new.self.order.items c.edges.result.now c.new-2.ensures.items c.edges.ensures.value
      c.in_ok-follow.ensures.grows;
}

pub loop-next-smaller : goal.loop-next-smaller
loop-next-smaller c =
    let i = c.loop-next.invariant in
    let few : btree_set_len c.loop-next.lost.seen ≤ 16384 =
    few_found c.args.handler.now.image.now c.args.handler.now.statement c.args.handler.now.graph c.args.by i.well c.loop-next.lost.seen c.loop-next.lost.order.items c.loop-next.next i.found c.len.ensures.ordered i.search in
    omega (arith, few, c.len.ensures.len, c.loop-next-test.true)

pub loop-next-preserved : goal.loop-next-preserved
loop-next-preserved c =
    let i = c.loop-next.invariant in
    let lt : c.loop-next.next < length c.loop-next.lost.order.items = omega (arith, c.len.ensures.len, c.loop-next-test.true, i.found.count) in
    record {
      well = i.well;
      found = c.in_ok-follow-2.ensures.found;
      search =
          search_more c.args.handler.now.image.now c.args.handler.now.statement c.args.handler.now.graph c.args.by c.loop-next.lost.order.items c.follow-in-loop-next.new.self.order.items c.loop-next.next c.index.result.now c.edges_from-edges.result.now i.search lt
          c.index.ensures c.edges_from-edges.ensures c.in_ok-follow-2.ensures.grows;
    }

pub returns : goal.returns
returns c =
    let i = c.loop-next.invariant in
    let le : length c.loop-next.lost.order.items ≤ c.loop-next.next = omega (arith, c.len.ensures.len, c.loop-next-test.false, i.found.count) in
    search_done c.args.handler.now.image.now c.args.handler.now.statement c.args.handler.now.graph c.args.by c.loop-next.lost.order.items c.loop-next.next i.search le
