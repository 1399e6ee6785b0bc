use Rattle.std.proofs.Common.{◌≡◌, arith}
use Rattle.arm2_decode.specs.Allowed.{bit_of, multiply_clash}
use Rattle.arm2_decode.specs.Names.{register_number}
use Rattle.assembler.proofs.CodeLaws.{allowed_word}
use Rattle.assembler.proofs.encoded.product_word.Goals as goal

pub invariant_of-operation : goal.invariant_of-operation
invariant_of-operation c =
    let zero : c.multiply_clash.result ≡ 0 = omega arith in
    rw (← c.number-rd.ensures.number, ← c.number-rn.ensures.number, ← c.number-rs.ensures.number, ← c.number-rm.ensures.number, ← c.multiply_clash.ensures) (record { allocated = zero })

pub returns : goal.returns
returns c =
    let p = c.args.product in
    let zero : c.multiply_clash.result ≡ 0 = omega arith in
    let why : c.multiply_clash.result ≡ multiply_clash (bit_of p.accumulate) (register_number p.rd) (register_number p.rn) (register_number p.rs) (register_number p.rm) =
    rw (← c.number-rd.ensures.number, ← c.number-rn.ensures.number, ← c.number-rs.ensures.number, ← c.number-rm.ensures.number) c.multiply_clash.ensures in
    allowed_word c.multiply_clash.result _ c.word_of.result _ why zero c.word_of.ensures
