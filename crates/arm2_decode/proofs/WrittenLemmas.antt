-- What writes R15: by the bars of its word, no multiply and no base that is written does.
use Rattle.std.proofs.Common.{◌≡◌, ℕ, Bool, true, false, ◌&&◌, ◌||◌, ◌==◌, if◌then◌else◌, refl, arith}
use Rattle.arm2_decode.specs.Allowed.{bit_of}
use Rattle.arm2_decode.specs.Names.{is_pc, register_number}
use Rattle.arm2_decode.specs.Transfers.{is_listed, writes_base}
use Rattle.arm2_decode.specs.Writers.{writes, writes_pc}
use Rattle.arm2_decode.specs.declared.instr.Operation.{Operation}
use Rattle.arm2_decode.specs.declared.instr.Operation.TheVariants as operation
use Rattle.arm2_decode.specs.declared.names.Register.TheVariants.{R15}

-- what is barred in the second place does not hold
second_barred : (a b c d e : Bool) → ◌≡◌ {A = ℕ} (if a || b || c || d || e then 3 else 0) 0 → b ≡ false
second_barred a false c d e h = refl
second_barred true true c d e h = absurd (omega (arith, h))
second_barred false true c d e h = absurd (omega (arith, h))

base_barred : (before write_back pc loaded : Bool) (rest : ℕ) → ◌≡◌ {A = ℕ} (if pc && writes_base (bit_of before == 1) (bit_of write_back == 1) then 6 else rest) 0 → (loaded || (writes_base before write_back && pc)) ≡ loaded
base_barred before write_back pc true rest h = refl
base_barred true true false false rest h = refl
base_barred true false pc false rest h = refl
base_barred false true false false rest h = refl
base_barred false false false false rest h = refl
base_barred true true true false rest h = absurd (omega (arith, h))
base_barred false true true false rest h = absurd (omega (arith, h))
base_barred false false true false rest h = absurd (omega (arith, h))

block_base_barred : (pc write_back loaded : Bool) (rest : ℕ) → ◌≡◌ {A = ℕ} (if pc then 7 else rest) 0 → (loaded || (write_back && pc)) ≡ loaded
block_base_barred pc write_back true rest h = refl
block_base_barred pc false false rest h = refl
block_base_barred false true false rest h = refl
block_base_barred true true false rest h = absurd (omega (arith, h))

-- past the bar of the offset in R15
offset_passed : (pc : Bool) (rest : ℕ) → ◌≡◌ {A = ℕ} (if pc then 5 else rest) 0 → rest ≡ 0
offset_passed true rest h = absurd (omega (arith, h))
offset_passed false rest h = h

pub pc_writers : (o : Operation) → writes o R15 ≡ writes_pc o
pc_writers (operation.Multiply x) =
    second_barred (register_number x.rd == register_number x.rm) (is_pc x.rd) (is_pc x.rm) (is_pc x.rs)
    ((bit_of x.accumulate == 1) && is_pc x.rn) x.allocated
pc_writers (operation.DataRegister x) = refl
pc_writers (operation.DataRegisterShift x) = refl
pc_writers (operation.DataImmediate x) = refl
pc_writers (operation.SingleImmediate x) =
    base_barred x.before x.write_back (is_pc x.rn) (x.load && is_pc x.rd) _ x.allocated
pc_writers (operation.SingleRegister x) =
    base_barred x.before x.write_back (is_pc x.rn) (x.load && is_pc x.rd) _ (offset_passed (is_pc x.rm) _ x.allocated)
pc_writers (operation.Block x) = block_base_barred (is_pc x.rn) x.write_back (x.load && is_listed x.list R15) _ x.allocated
pc_writers (operation.Branch x) = refl
pc_writers (operation.Swi x) = refl
pc_writers (operation.UndefinedTransfer x) = refl
pc_writers (operation.CoprocessorTransfer x) = refl
pc_writers (operation.Coprocessor x) = refl
