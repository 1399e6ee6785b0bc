use Rattle.std.proofs.Common.{take}
use Rattle.std.specs.Prelude.{Contains}
use Rattle.text_draft.specs.Exploring.{HasRoom, IsFound}
use Rattle.word_shapes.specs.Growing.{Grows}
use Rattle.text_draft.proofs.reach.Exploration.add_roots.Given as goal

abbrev pub invariant-loop-to : goal.invariant-loop-to
invariant-loop-to l = record {
  found : IsFound l.self.seen l.self.order.items;
  grows : Grows HasRoom (Contains (take l.to-index l.routines)) l.fn.self.order.items l.self.order.items;
}
