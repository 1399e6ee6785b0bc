use Rattle.std.proofs.Common.{◌≡◌, ◌<◌, ◌^◌, suc, take}
use Rattle.asm_text.specs.Hex.{hex}
use Rattle.certificate.proofs.numbers.hex_at.Given as goal

abbrev pub invariant-loop-byte : goal.invariant-loop-byte
invariant-loop-byte l = record {
  small : l.number < 2 ^ 26;
  so_far : hex l.number ≡ take (suc l.byte-index) l.fn.word;
}
