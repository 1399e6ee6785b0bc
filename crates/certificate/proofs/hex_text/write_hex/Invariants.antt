use Rattle.std.proofs.Common.{◌≡◌, ◌+◌, ◌≤◌, ◌++◌, length, drop}
use Rattle.asm_text.specs.Hex.{hex}
use Rattle.certificate.proofs.hex_text.write_hex.Given as goal

abbrev pub invariant-loop-left : goal.invariant-loop-left
invariant-loop-left l = record {
  room : length (hex l.left) ≤ l.at;
  within : l.at ≤ l.end;
  len : l.at + length (hex l.n) ≡ l.end + length (hex l.left);
  text : hex l.left ++ drop l.at l.buf ≡ hex l.n ++ drop l.end l.fn.buf;
}

abbrev pub decreases-loop-left : goal.decreases-loop-left
decreases-loop-left l = l.left
