use Rattle.std.proofs.Common.{◌≡◌, ◌++◌, drop, map}
use Rattle.objasm.specs.Names.{meanings_of}
use Rattle.objasm.specs.Parts.{part_of}
use Rattle.objasm.specs.PlainLines.{parts_text}
use Rattle.objasm.proofs.plain_lines.put_parts.Given as goal

abbrev pub invariant-loop-token : goal.invariant-loop-token
invariant-loop-token l =
    l.out.items ++ parts_text (meanings_of l.names) (map part_of (drop l.token-index l.tokens))
    ≡ l.fn.out.items ++ parts_text (meanings_of l.names) (map part_of l.tokens)
