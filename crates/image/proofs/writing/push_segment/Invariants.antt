use Rattle.std.proofs.Common.{◌≡◌, ◌++◌, flat_map, map, take}
use Rattle.byteorder.specs.Endian.{little_bytes}
use Rattle.image.proofs.writing.push_segment.Given as goal

abbrev pub invariant-loop-entry : goal.invariant-loop-entry
invariant-loop-entry l = l.bytes.items ≡ l.initial.bytes.items ++ flat_map (little_bytes 4) (map (λ e. e.1) (take l.entry-index l.run))
