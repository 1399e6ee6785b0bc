use Rattle.std.proofs.Common.{◌≡◌, drop, map}
use Rattle.objasm.specs.Names.{meanings_of}
use Rattle.objasm.specs.Parts.{part_of}
use Rattle.objasm.specs.PlainLines.{behind, stops_text}
use Rattle.objasm.proofs.plain_lines.put_stops.Given as goal

abbrev pub invariant-loop-index : goal.invariant-loop-index
invariant-loop-index l =
    behind l.out.items (stops_text (meanings_of l.names) l.kind (map part_of (drop l.index l.tokens)))
    ≡ behind l.fn.out.items (stops_text (meanings_of l.names) l.kind (map part_of l.tokens))
