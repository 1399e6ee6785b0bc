use Rattle.std.proofs.Common.{◌∙◌, ◌+◌, ◌-◌, ◌<◌, ◌++◌, ap, length, subst, sym}
use Rattle.text_graph.specs.Chains.{chain}
use Rattle.text_graph.specs.Stretches.{end_of, leads_on, stretch_from}
use Rattle.text_graph.proofs.ChainLaws.{chain_last, chain_more}
use Rattle.text_graph.proofs.NodeLaws.{way}
use Rattle.text_graph.proofs.StraightLaws.{next_none, next_parts}
use Rattle.text_graph.proofs.stretches.stretch_from.Goals as goal

pub returns-in-None : goal.returns-in-None
returns-in-None c =
    let flow = c.args.drawn.graph.now in
    let tree = c.args.drawn.tree.now in
    let off = next_none flow tree c.loop.number (sym c.next_of.ensures ∙ c.in-None.is) in
    chain_last (leads_on flow tree) (end_of flow tree) _ c.loop.counter c.loop.number c.loop.numbers.items c.push.new.self.items (stretch_from flow tree c.args.first)
    c.loop.invariant.same c.loop-test.true off c.in_ok-push.ensures.items

pub loop-preserved : goal.loop-preserved
loop-preserved c =
    let flow = c.args.drawn.graph.now in
    let tree = c.args.drawn.tree.now in
    let most = length c.places-end.result.now in
    let next = c.in-Some.next in
    let parts = next_parts flow tree c.loop.number next (sym c.next_of.ensures ∙ c.in-Some.is) in
    let inside : end_of flow tree c.loop.number < length flow.places = (way flow tree c.loop.number parts.0).inside in
    record {
      last = c.loop.invariant.last;
      inside = subst (λ n. n < length flow.places) parts.1 inside;
      same =
          ap (λ n. c.push.new.self.items ++ chain (leads_on flow tree) (end_of flow tree) (most - (c.loop.counter + 1)) n) (sym parts.1)
          ∙ chain_more (leads_on flow tree) (end_of flow tree) most c.loop.counter c.loop.number c.loop.numbers.items c.push.new.self.items (stretch_from flow tree c.args.first)
          c.loop.invariant.same c.loop-test.true parts.0 c.in_ok-push.ensures.items;
    }
