-- Two values of the time fields are the same where their fields are.
use Rattle.std.proofs.Common.{◌≡◌, ◌∙◌, ℕ, ◌<◌, ◌/◌, ◌%◌, ◌==◌, ap}
use Rattle.std.specs.Coded.{le_prop}
use Rattle.bus_ticks.specs.declared.profile.RomTimes.{RomTimes}
use Rattle.memc.specs.declared.memory.ControlFields.{ControlFields}
use Rattle.memc.specs.Memory.{control_of}

times_same : (low high : ℕ) (p q : low < 4) (r s : high < 4) → ◌≡◌ {A = RomTimes} (record { low = low; high = high; low_in_range = p; high_in_range = r }) (record { low = low; high = high; low_in_range = q; high_in_range = s })
times_same low high p q r s =
    ap (λ (x : low < 4). let t : RomTimes = record { low = low; high = high; low_in_range = x; high_in_range = r } in t) (le_prop p q)
    ∙ ap (λ (x : high < 4). let t : RomTimes = record { low = low; high = high; low_in_range = q; high_in_range = x } in t) (le_prop r s)

-- the fields as the code reads them
pub control_same : (address : ℕ) (p : address / 16 % 4 < 4) (r : address / 64 % 4 < 4) →
    ◌≡◌ {A = ControlFields}
    (record { rom_times = record { low = address / 16 % 4; high = address / 64 % 4; low_in_range = p; high_in_range = r }; video_dma = address / 1024 % 2 == 1; sound_dma = address / 2048 % 2 == 1; system = address / 4096 % 2 == 1 })
    (control_of address)
control_same address p r = ap (λ (t : RomTimes). let f : ControlFields = record { rom_times = t; video_dma = address / 1024 % 2 == 1; sound_dma = address / 2048 % 2 == 1; system = address / 4096 % 2 == 1 } in f) (times_same (address / 16 % 4) (address / 64 % 4) p _ r _)
