use Rattle.std.proofs.Common.{◌≡◌, get_or, true, false, subst, sym, arith, rules}
use Rattle.std.proofs.lemmas.Bool.{false≢true}
use Rattle.loop_bounds.proofs.Steps.{passed}
use Rattle.loop_bounds.specs.declared.order.Colour.{Colour}
use Rattle.loop_bounds.specs.declared.order.Colour.TheVariants.{White}
use Rattle.loop_bounds.proofs.order.find_order.Goals.{then-eq+in_ok-visit, else-eq}
use Rattle.loop_bounds.specs.Edges.{exit_of}
use Rattle.loop_bounds.specs.Search.{IsSearched}
use Rattle.loop_bounds.proofs.Visit.{search_begins, is_order}
use Rattle.loop_bounds.proofs.order.find_order.Goals as goal

pub loop-node-init : goal.loop-node-init
loop-node-init c = search_begins c.args.firsts.now c.args.edges.now c.requires c.in_ok-search.search c.in_ok-search.ensures.begun

pub returns-clause-order : goal.returns-clause-order
returns-clause-order c =
    let ended : c.loop-node.node ≡ exit_of c.args.firsts.now = omega arith in
    is_order c.args.firsts.now c.args.edges.now c.requires c.loop-node.search (subst (IsSearched c.args.firsts.now c.args.edges.now c.loop-node.search) ended c.loop-node.invariant)

pub new-requires : goal.new-requires
new-requires c = c.requires.some

pub visit-requires-clause-grouped : goal.visit-requires-clause-grouped
visit-requires-clause-grouped c = c.requires

pub visit-requires-clause-searched : goal.visit-requires-clause-searched
visit-requires-clause-searched c = c.loop-node.invariant

pub visit-requires-clause-inside : goal.visit-requires-clause-inside
visit-requires-clause-inside c = c.loop-node-test.true

pub visit-requires-clause-white : goal.visit-requires-clause-white
visit-requires-clause-white c =
    let is : c.index.result.now ≡ White = search rules in
    sym (subst (λ (d : Colour). d ≡ get_or c.loop-node.search.colours.items c.loop-node.node d) is c.index.ensures)

pub loop-node-preserved : goal.loop-node-preserved
loop-node-preserved c = elim c.if-eq.branch [
  | then-eq+in_ok-visit w ↦ rw w.search-is w.in_ok-visit.ensures.searched
  | else-eq w ↦ rw w.search-is
      (passed c.args.firsts.now c.args.edges.now c.requires c.loop-node.search c.loop-node.node c.loop-node-test.true c.loop-node.invariant c.index.result.now c.index.ensures
      (λ white. let same : false ≡ true = rw white at w.if-eq.ensures in absurd (false≢true same)))
]
