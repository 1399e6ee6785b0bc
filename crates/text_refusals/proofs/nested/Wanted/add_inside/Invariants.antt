use Rattle.std.proofs.Common.{◌≡◌, ◌<◌, ℕ, get_or}
use Rattle.std.specs.Prelude.{Contains}
use Rattle.statement.specs.declared.stated.Loop.{Loop}
use Rattle.loop_bounds.specs.Instance.{instance_of}
use Rattle.text_refusals.specs.Nested.{HasPlace, HavePlace, KeepsAll}
use Rattle.text_refusals.proofs.nested.Wanted.add_inside.Given as goal

abbrev pub invariant-loop-stated : goal.invariant-loop-stated
invariant-loop-stated l = record {
  have : HavePlace l.self.graph.now l.self.loops.now l.self.place.now l.initial.found.items → HavePlace l.self.graph.now l.self.loops.now l.self.place.now l.found.items;
  kept : KeepsAll l.initial.found.items l.found.items;
  all : (k : ℕ) (s : Loop) → k < l.stated-index → get_or l.self.loops.now.list k s ≡ s → HasPlace l.self.graph.now l.self.place.now (instance_of l.self.loops.now.apart s l.list) → Contains l.found.items (record { list = l.list; stated = s });
}
