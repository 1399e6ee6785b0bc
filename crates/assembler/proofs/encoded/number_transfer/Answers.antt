use Rattle.std.proofs.Common.{◌≡◌, ◌∙◌, sym, arith}
use Rattle.std.proofs.lemmas.Bool.{lt-ltb}
use Rattle.arm2_decode.specs.Allowed.{bit_of, single_clash}
use Rattle.arm2_decode.specs.Names.{register_number}
use Rattle.assembler.proofs.CodeLaws.{allowed_word, in_range_word}
use Rattle.assembler.proofs.encoded.number_transfer.Goals as goal

pub invariant_of-operation-clause-allocated : goal.invariant_of-operation-clause-allocated
invariant_of-operation-clause-allocated c =
    let f = c.single_fields.ensures in
    let t = c.args.transfer in
    let zero : c.single_clash.result ≡ 0 = omega arith in
    let why : c.single_clash.result
    ≡ single_clash (bit_of t.address.before) (bit_of t.byte) (bit_of t.address.write_back) (bit_of t.load) (register_number t.address.rn) (register_number t.rd) =
    rw (← f.before, ← f.byte, ← f.write_back, ← f.load, ← f.rn, ← f.rd) c.single_clash.ensures in
    sym why ∙ zero

pub returns : goal.returns
returns c =
    let f = c.single_fields.ensures in
    let t = c.args.transfer in
    let zero : c.single_clash.result ≡ 0 = omega arith in
    let why : c.single_clash.result
    ≡ single_clash (bit_of t.address.before) (bit_of t.byte) (bit_of t.address.write_back) (bit_of t.load) (register_number t.address.rn) (register_number t.rd) =
    rw (← f.before, ← f.byte, ← f.write_back, ← f.load, ← f.rn, ← f.rd) c.single_clash.ensures in
    in_range_word _ _ _ (lt-ltb c.args.n 4096 (omega arith)) (allowed_word c.single_clash.result _ c.word_of.result _ why zero c.word_of.ensures)
