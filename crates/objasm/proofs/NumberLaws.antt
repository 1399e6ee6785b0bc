-- A number that is capped as it is read.
use Rattle.std.proofs.Common.{◌≡◌, ℕ}
use Rattle.std.specs.Prelude.{Option}
use Rattle.asm_text.specs.Numbers.{capped, fits}
use Rattle.asm_text.proofs.Capped.{capped_fits}

pub fits_again : (o : Option ℕ) → fits (capped o) ≡ fits o
fits_again o = capped_fits o
