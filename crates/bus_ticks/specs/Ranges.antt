-- What the fifteen numbers of a cycle profile have to meet. In order they are n, s, quad, rom 0 to 3, the
-- devices slow, medium, fast and synchronous, control, unfitted, internal, burst.
use Rattle.std.specs.Prelude.{ℕ, ◌≤◌, ◌<◌, max, List, All, take, slice_index}

-- a price in ticks
abbrev pub IsPrice : ℕ → Type 0
IsPrice ticks = (1 ≤ ticks) × (ticks < 256)

-- the greatest of four numbers
abbrev pub greatest : ℕ → ℕ → ℕ → ℕ → ℕ
greatest a b c d = max (max a b) (max c d)

-- the first fourteen are prices; a burst may also cost nothing
pub record AreInRange (numbers : List ℕ) : Type 0 where
  pub prices : All IsPrice (take 14 numbers)
  pub burst : slice_index numbers 14 < 256

-- the dearest of the four prices of ROM, and of the four of devices
abbrev pub rom_number : List ℕ → ℕ
rom_number numbers =
    greatest (slice_index numbers 3) (slice_index numbers 4) (slice_index numbers 5) (slice_index numbers 6)

abbrev pub device_number : List ℕ → ℕ
device_number numbers =
    greatest (slice_index numbers 7) (slice_index numbers 8) (slice_index numbers 9) (slice_index numbers 10)

-- s ≤ quad ≤ n, and neither n nor ROM nor control is dearer than the dearest device
pub record AreOrdered (numbers : List ℕ) : Type 0 where
  pub s_first : slice_index numbers 1 ≤ slice_index numbers 2
  pub quad_second : slice_index numbers 2 ≤ slice_index numbers 0
  pub n_below : slice_index numbers 0 ≤ device_number numbers
  pub rom_below : rom_number numbers ≤ device_number numbers
  pub control_below : slice_index numbers 11 ≤ device_number numbers
