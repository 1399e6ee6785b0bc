-- The prices of accesses, in ticks of the 8 MHz processor (a cycle profile shaped on the N and S cycles of
-- the VL86C010 data sheet).
use Rattle.std.specs.Prelude.{ℕ, zero, suc, ◌+◌, ◌*◌, ◌/◌, ◌%◌, Bool, nat_lt, ◌==◌, ◌&&◌, if◌then◌else◌}
use Rattle.bus_ticks.specs.declared.space.TheConstants.{HIGH_ROM_START, IO_START, ROM_START, SPACE_END}
use Rattle.bus_ticks.specs.declared.profile.Profile.{Profile}
use Rattle.bus_ticks.specs.declared.profile.RomTimes.{RomTimes}
use Rattle.bus_ticks.specs.declared.profile.Class.{Class}
use Rattle.bus_ticks.specs.declared.profile.Class.TheVariants.{Ram, Rom, Io, Any}
use Rattle.bus_ticks.specs.declared.profile.Class.TheVariants.{Slow, Medium, Fast, Synchronous}

-- Ram 0000000 to 2FFFFFF; Io 3000000 to 33FFFFF; Rom 3400000 to 3FFFFFF
abbrev pub class_of : ℕ → Class
class_of x = if nat_lt x IO_START then Ram else (if nat_lt x ROM_START then Io else Rom)

-- a choice by the class of an address, which is Ram, Rom or Io
abbrev pub by_class : {A : Type 0} → Class → A → A → A → A
by_class Ram ram rom io = ram
by_class Rom ram rom io = rom
by_class Io ram rom io = io
by_class Any ram rom io = io
by_class Slow ram rom io = io
by_class Medium ram rom io = io
by_class Fast ram rom io = io
by_class Synchronous ram rom io = io

-- the fourth of four numbers is taken for every number from 3 on
abbrev pub choice : ℕ → ℕ → ℕ → ℕ → ℕ → ℕ
choice i a b c d = if i == 0 then a else (if i == 1 then b else (if i == 2 then c else d))

-- an access to ROM, by the time field of its half
abbrev pub rom_price : Profile → ℕ → RomTimes → ℕ
rom_price p x rom =
    choice (if nat_lt x HIGH_ROM_START then rom.low else rom.high) p.rom_0 p.rom_1 p.rom_2 p.rom_3

-- the speed of a device, by address bits 20 and 19: 0 slow, 1 medium, 2 fast, 3 synchronous (VL86C410 data
-- sheet)
abbrev pub speed_of : ℕ → ℕ
speed_of x = x / 0x80000 % 4

-- the class of the devices of a speed
abbrev pub speed_class : (speed : ℕ) → Class
speed_class speed =
    if speed == 0 then Slow else (if speed == 1 then Medium else (if speed == 2 then Fast else Synchronous))

-- the narrowest class of an address: Ram, Rom, or that of the devices of one speed
abbrev pub narrowest_class : ℕ → Class
narrowest_class x = by_class (class_of x) Ram Rom (speed_class (speed_of x))

-- an access to a device, by its speed
abbrev pub io_price : Profile → ℕ → ℕ
io_price p x = choice (speed_of x) p.slow p.medium p.fast p.synchronous

-- an access to Ram that follows the one before
abbrev pub ram_price : Profile → ℕ → ℕ
ram_price p x = if x % 16 == 0 then p.quad else p.s

-- a fetch that does not follow the access before it
abbrev pub fetch_n : Profile → ℕ → RomTimes → ℕ
fetch_n p x rom = by_class (class_of x) p.n (rom_price p x rom) p.unfitted

-- a fetch that follows the access before it
abbrev pub fetch_s : Profile → ℕ → RomTimes → ℕ
fetch_s p x rom = by_class (class_of x) (ram_price p x) (rom_price p x rom) p.unfitted

-- one word of a transfer: in Ram the first word costs n, and each other follows; a store in Rom goes to a
-- control register
abbrev pub word_price : Profile → ℕ → Bool → Bool → RomTimes → ℕ
word_price p x first store rom =
    by_class
    (class_of x)
    (if first then p.n else ram_price p x)
    (if store then p.control else rom_price p x rom)
    (io_price p x)

-- the number is the address of a word: a multiple of 4 below 4000000
abbrev pub is_word_address : ℕ → Bool
is_word_address n = n % 4 == 0 && nat_lt n SPACE_END

-- an address some bytes on: addresses wrap (ARM data sheet, 26 bits of R15)
abbrev pub ahead_of : ℕ → ℕ → ℕ
ahead_of a by = (a + by) % SPACE_END

-- the address of word number i of a block: a multiple of 4, wrapped at 4000000
abbrev pub word_address : ℕ → ℕ → ℕ
word_address address i = 4 * (address / 4 + i) % SPACE_END

-- the first words of a transfer, together
unfoldable pub transfer : Profile → ℕ → ℕ → Bool → RomTimes → ℕ
transfer p address zero store rom = 0
transfer p address (suc k) store rom =
    transfer p address k store rom + word_price p (word_address address k) (k == 0) store rom
