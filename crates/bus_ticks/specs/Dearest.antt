-- Which accesses cost the most, in ticks.
use Rattle.std.specs.Prelude.{ℕ, ◌≡◌, ◌<◌, ◌%◌, Bool}
use Rattle.bus_ticks.specs.declared.space.TheConstants.{SPACE_END}
use Rattle.bus_ticks.specs.declared.profile.Profile.{Profile}
use Rattle.bus_ticks.specs.declared.profile.RomTimes.{RomTimes}
use Rattle.bus_ticks.specs.declared.profile.Class.{Class}
use Rattle.bus_ticks.specs.Prices.{choice, rom_price}
use Rattle.bus_ticks.specs.Ranges.{greatest}
use Rattle.bus_ticks.specs.Worst.{AtTimes, IsOf, IsBlockOf, transfer_price, leave_price}
use Rattle.bus_ticks.specs.Worst.{worst_rom, worst_transfer, worst_leave}

-- i is the place, counted from 0, of the first of four numbers that is the greatest
pub record IsDearestOf (a b c d : ℕ) (i : ℕ) : Type 0 where
  pub few : i < 4
  pub dearest : choice i a b c d ≡ greatest a b c d
  pub lowest : (j : ℕ) → j < i → choice j a b c d < greatest a b c d

-- time fields at which each fetch and each load of Rom costs the most
abbrev pub AreDearest : Profile → RomTimes → Type 0
AreDearest p rom = (x : ℕ) → rom_price p x rom ≡ worst_rom p

-- all words are of the class, and no transfer of as many of the class costs more
pub record IsDearestBlock (p : Profile) (class : Class) (words : ℕ) (store : Bool)
    (b : AtTimes) : Type 0 where
  pub of_class : IsBlockOf class words b
  pub price : transfer_price p words store b ≡ worst_transfer p class words store

-- a multiple of 4 in the class: with Rom's time fields at their dearest, no jump into the class costs more
-- than one to it
pub record IsDearestLeave (p : Profile) (class : Class) (address : ℕ) : Type 0 where
  pub whole : address % 4 ≡ 0
  pub below : address < SPACE_END
  pub is_of : IsOf class address
  pub price : (rom : RomTimes) → AreDearest p rom
      → leave_price p (record { address = address; rom = rom }) ≡ worst_leave p class
