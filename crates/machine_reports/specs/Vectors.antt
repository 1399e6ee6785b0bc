-- What the report of test vectors prints, and why it is refused.
use Rattle.std.specs.Prelude.{◌≡◌, ◌⊎◌, ℕ, Bool, true, false, List}
use Rattle.test_vectors.specs.Vector.{IsVectorArray}
use Rattle.handlers.specs.declared.fault.ReportFault.{ReportFault}
use Rattle.handlers.specs.declared.fault.ReportFault.TheVariants.{Memory, Device}

-- an array of so many vectors; the answer is always yes
abbrev pub IsVectorsReport : (count : ℕ) → (answer : Bool) → List ℕ → Type 0
IsVectorsReport count true text = IsVectorArray count text
IsVectorsReport count false text = ⊥

-- nothing is refused but for lack of memory, or by the output
abbrev pub IsVectorsFault : ReportFault → Type 0
IsVectorsFault fault = (fault ≡ Memory) ⊎ (fault ≡ Device)
