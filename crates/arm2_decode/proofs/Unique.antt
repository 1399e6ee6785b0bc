-- A word has one answer: one instruction, or one number of why there is none.
use Rattle.std.proofs.Common.{ℕ, ◌≡◌, sym, ◌∙◌, arith}
use Rattle.arm2_decode.specs.declared.instr.Instr.{Instr}
use Rattle.arm2_decode.specs.declared.instr.Unallocated.{Unallocated}
use Rattle.arm2_decode.specs.Names.{cond_number}
use Rattle.arm2_decode.specs.Table.{Means, IsUnallocated}
use Rattle.arm2_decode.proofs.NameLemmas.{same_cond}
use Rattle.arm2_decode.proofs.OnlyLemmas.{one_meaning, allowed}

pub one_instr : (word : ℕ) → (i j : Instr) → Means word i → Means word j → i ≡ j
one_instr word i j h m = one_meaning word i j h m

pub never_both : (word : ℕ) → (i : Instr) → (u : Unallocated) → Means word i → IsUnallocated word u → ⊥
never_both word i u h m = omega (arith, m.why, m.some, allowed word (cond_number i.cond) i.operation h)

same_unallocated : (u v : Unallocated) → u.cond ≡ v.cond → u.why ≡ v.why → u ≡ v
same_unallocated u v p q = λ i. record { cond = p i; why = q i }

pub one_unallocated : (word : ℕ) → (u v : Unallocated) → IsUnallocated word u → IsUnallocated word v → u ≡ v
one_unallocated word u v h m =
    same_unallocated u v (same_cond u.cond v.cond (h.cond ∙ sym m.cond)) (h.why ∙ sym m.why)
