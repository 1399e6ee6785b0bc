-- What visits of FIQ's handler add to the bound of a handler that they interrupt.
use Rattle.std.specs.Prelude.{ℕ, ◌+◌, ◌*◌}
use Rattle.bus_ticks.specs.declared.profile.Profile.{Profile}
use Rattle.bus_ticks.specs.Worst.{fiq_entry}

-- the bound of the interrupted handler, and so many times that of FIQ's handler with the price of taking FIQ
abbrev pub visits_bound : Profile → (irq fiq k : ℕ) → ℕ
visits_bound profile irq fiq k = irq + k * (fiq + fiq_entry profile)
