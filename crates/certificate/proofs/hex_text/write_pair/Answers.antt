use Rattle.std.proofs.Common.{◌≡◌, ◌+◌, ◌%◌, set, arith, length-set}
use Rattle.std.proofs.lemmas.List.{set_comm, drop-set}
use Rattle.asm_text.specs.Hex.{hex_digit}
use Rattle.certificate.proofs.PairLaws.{pair_at}
use Rattle.certificate.proofs.hex_text.write_pair.Goals as goal

pub returns : goal.returns
returns c =
    let p = pair_at c.args.byte c.requires.0 in
    let at = c.args.at in
    let buf = c.args.buf.now in
    let e : at + 1 + 1 ≡ at + 2 = omega arith in
    rw (p.0, p.1, set_comm buf at (at + 1) _ _ (λ x. omega arith), drop-set (set buf (at + 1) (hex_digit (c.args.byte % 16))) at _ (omega (arith, length-set buf (at + 1) (hex_digit (c.args.byte % 16)))), drop-set buf (at + 1) _ (omega arith), e)
