use Rattle.text_draft.specs.Exploring.{IsFound}
use Rattle.text_draft.proofs.Explored.{IsSearch}
use Rattle.text_draft.proofs.reach.explore.Given as goal

abbrev pub invariant-loop-next : goal.invariant-loop-next
invariant-loop-next l = record {
  found : IsFound l.found.seen l.found.order.items;
  search : IsSearch l.image l.begun l.entry l.found.order.items l.next;
}
