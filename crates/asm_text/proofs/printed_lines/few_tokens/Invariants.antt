use Rattle.std.proofs.Common.{◌≡◌, ◌+◌, ◌≤◌, ◌++◌, length, map}
use Rattle.asm_text.specs.Pieces.{pieces, piece_of}
use Rattle.asm_text.proofs.printed_lines.few_tokens.Given as goal

abbrev pub invariant-loop-token : goal.invariant-loop-token
invariant-loop-token l = (map piece_of l.few.items ++ pieces l.rest ≡ pieces l.fn.text) × (length l.few.items + length l.rest ≤ 64)

abbrev pub decreases-loop-token : goal.decreases-loop-token
decreases-loop-token l = length l.rest
