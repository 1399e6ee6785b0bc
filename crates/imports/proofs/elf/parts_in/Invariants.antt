use Rattle.std.proofs.Common.{◌≡◌, ◌++◌, drop, map}
use Rattle.std.specs.Prelude.{find}
use Rattle.imports.specs.Elf.{is_outside, part_in}
use Rattle.imports.specs.Imported.{part_of}
use Rattle.imports.proofs.elf.parts_in.Given as goal

-- the segments before this one are these parts, and none of them is outside of the file
abbrev pub invariant-loop-segment : goal.invariant-loop-segment
invariant-loop-segment l = record {
  parts : map part_of l.parts.items ++ map (part_in l.bytes) (drop l.segment-index l.segments) ≡ map (part_in l.bytes) l.segments;
  inside : find (is_outside l.bytes) (drop l.segment-index l.segments) ≡ find (is_outside l.bytes) l.segments;
}
