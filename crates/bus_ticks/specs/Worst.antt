-- The greatest prices over all accesses of a class, in ticks.
use Rattle.std.specs.Prelude.{ℕ, ◌+◌, ◌-◌, ◌*◌, ◌/◌, ◌≤◌, ◌<◌, ◌≡◌, Bool, if◌then◌else◌, max}
use Rattle.bus_ticks.specs.declared.space.TheConstants.{FIQ_VECTOR, SPACE_END}
use Rattle.bus_ticks.specs.declared.profile.Profile.{Profile}
use Rattle.bus_ticks.specs.declared.profile.RomTimes.{RomTimes}
use Rattle.bus_ticks.specs.declared.profile.Class.{Class}
use Rattle.bus_ticks.specs.declared.profile.Class.TheVariants.{Ram, Rom, Io, Any}
use Rattle.bus_ticks.specs.declared.profile.Class.TheVariants.{Slow, Medium, Fast, Synchronous}
use Rattle.bus_ticks.specs.Prices.{ahead_of, class_of, by_class, fetch_n, ram_price, fetch_s, speed_of}
use Rattle.bus_ticks.specs.Prices.{transfer, word_address}
use Rattle.bus_ticks.specs.Ranges.{greatest}

-- a device of the speed
abbrev pub IsDevice : (speed : ℕ) → ℕ → Type 0
IsDevice speed x = (class_of x ≡ Io) × (speed_of x ≡ speed)

-- an address of the class; each is of Any
abbrev pub IsOf : Class → ℕ → Type 0
IsOf Any x = Unit {0}
IsOf Ram x = class_of x ≡ Ram
IsOf Rom x = class_of x ≡ Rom
IsOf Io x = class_of x ≡ Io
IsOf Slow x = IsDevice 0 x
IsOf Medium x = IsDevice 1 x
IsOf Fast x = IsDevice 2 x
IsOf Synchronous x = IsDevice 3 x

-- a class of devices of one speed
abbrev pub IsSpeed : Class → Type 0
IsSpeed Ram = ⊥
IsSpeed Rom = ⊥
IsSpeed Io = ⊥
IsSpeed Any = ⊥
IsSpeed Slow = Unit {0}
IsSpeed Medium = Unit {0}
IsSpeed Fast = Unit {0}
IsSpeed Synchronous = Unit {0}

-- where an access begins, and the time fields while it lasts
pub record AtTimes : Type 0 where
  pub address : ℕ
  pub rom : RomTimes

-- all words of the block are of the class
pub record IsBlockOf (class : Class) (words : ℕ) (b : AtTimes) : Type 0 where
  pub below : b.address < SPACE_END
  pub each : (i : ℕ) → i < words → IsOf class (word_address b.address i)

-- a target of the class
pub record IsTargetOf (class : Class) (t : AtTimes) : Type 0 where
  pub below : t.address < SPACE_END
  pub is_of : IsOf class t.address

-- no price exceeds top, and something has it
pub record IsGreatest {A : Type 0} (P : A → Type 0) (price : A → ℕ) (top : ℕ) : Type 0 where
  pub none_above : (x : A) → P x → price x ≤ top
  pub reached : (x : A) × P x × (price x ≡ top)

-- any time fields of Rom
abbrev pub IsAnyTimes : RomTimes → Type 0
IsAnyTimes rom = Unit {0}

abbrev pub transfer_price : Profile → ℕ → Bool → AtTimes → ℕ
transfer_price p words store b = transfer p b.address words store b.rom

-- the fetch at a target, and the one that follows
abbrev pub leave_price : Profile → AtTimes → ℕ
leave_price p t = fetch_n p t.address t.rom + fetch_s p (ahead_of t.address 4) t.rom

-- ROM at its dearest time field, and the dearest device
abbrev pub worst_rom : Profile → ℕ
worst_rom p = greatest p.rom_0 p.rom_1 p.rom_2 p.rom_3

abbrev pub worst_io : Profile → ℕ
worst_io p = greatest p.slow p.medium p.fast p.synchronous

-- the fetches at an address, with Rom at its dearest field
abbrev pub worst_fetch_n : Profile → ℕ → ℕ
worst_fetch_n p x = by_class (class_of x) p.n (worst_rom p) p.unfitted

abbrev pub worst_fetch_s : Profile → ℕ → ℕ
worst_fetch_s p x = by_class (class_of x) (ram_price p x) (worst_rom p) p.unfitted

-- the greatest price of a transfer of k words: in Ram at most (k + 2) / 4 words after the first are at
-- multiples of 16
abbrev pub worst_transfer : Profile → Class → ℕ → Bool → ℕ
worst_transfer p Ram k store = p.n + (k - 1) * p.s + (k + 2) / 4 * (p.quad - p.s)
worst_transfer p Rom k store = if store then k * p.control else k * worst_rom p
worst_transfer p Io k store = k * worst_io p
worst_transfer p Any k store = k * worst_io p
worst_transfer p Slow k store = k * p.slow
worst_transfer p Medium k store = k * p.medium
worst_transfer p Fast k store = k * p.fast
worst_transfer p Synchronous k store = k * p.synchronous

-- the greatest price of the two fetches at a target: the second may be of the class that follows, which after
-- the last synchronous device is Rom
abbrev pub worst_leave : Profile → Class → ℕ
worst_leave p Ram = p.n + max p.quad p.unfitted
worst_leave p Rom = worst_rom p + max (worst_rom p) p.quad
worst_leave p Io = p.unfitted + max p.unfitted (worst_rom p)
worst_leave p Any =
    max (max (p.n + max p.quad p.unfitted) (worst_rom p + max (worst_rom p) p.quad))
    (p.unfitted + max p.unfitted (worst_rom p))
worst_leave p Slow = p.unfitted + p.unfitted
worst_leave p Medium = p.unfitted + p.unfitted
worst_leave p Fast = p.unfitted + p.unfitted
worst_leave p Synchronous = p.unfitted + max p.unfitted (worst_rom p)

-- taking FIQ before the instruction at an address: the fetch 8 bytes on, and the two at FIQ's vector
abbrev pub fiq_entry_price : Profile → AtTimes → ℕ
fiq_entry_price p t =
    fetch_s p (ahead_of t.address 8) t.rom + (fetch_n p FIQ_VECTOR t.rom + fetch_s p (FIQ_VECTOR + 4) t.rom)

-- the greatest price of taking FIQ: the first fetch may be of any class, and the vector is in Ram
abbrev pub fiq_entry : Profile → ℕ
fiq_entry p = max p.quad (max (worst_rom p) p.unfitted) + (p.n + p.quad)
