use Rattle.std.proofs.Common.{◌≡◌, ℕ, Ok, Err, Result, ap}
use Rattle.std.specs.Prelude.{IfErr, IfOk}
use Rattle.arm2_decode.specs.declared.instr.Instr.{Instr}
use Rattle.arm2_decode.specs.declared.instr.Unallocated.{Unallocated}
use Rattle.arm2_decode.specs.Table.{IsUnallocated, Means}
use Rattle.arm2_decode.proofs.Unique.{never_both, one_instr}
use Rattle.arm2_decode.proofs.law.decode_encoded.Goals as goal

one_answer : (instr : Instr) (word : ℕ) → Means word instr → (answer : Result Instr Unallocated) → IfOk answer (Means word) → IfErr answer (IsUnallocated word) → answer ≡ Ok instr
one_answer instr word means (Ok other) found none = ap Ok (one_instr word other instr found means)
one_answer instr word means (Err u) found none = absurd (never_both word instr u means none)

pub returns : goal.returns
returns c = one_answer
