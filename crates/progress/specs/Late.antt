-- Of an output that shows its lines late: what is said of the output in it.
use Rattle.std.specs.Prelude.{ℕ, List, Option, None, if◌then◌else◌}
use Rattle.progress.specs.declared.late.LateOutput.{LateOutput}

abbrev pub late_failures : {O T : Type 0} → (O → ℕ) → LateOutput O T → ℕ
late_failures failures late = failures late.out

-- what was taken, where each line is shown at once; else nothing is said of it
abbrev pub late_taken : {O T : Type 0} → (O → Option (List ℕ)) → LateOutput O T → Option (List ℕ)
late_taken taken late = if late.at_once then taken late.out else None
