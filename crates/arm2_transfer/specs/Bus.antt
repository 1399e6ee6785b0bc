-- What the words of a transfer do to memory and to the devices (VL86C010 data sheet for bytes and for the
-- rotation of a load, not for what devices take and return, nor for the port).
use Rattle.std.specs.Prelude.{ℕ, ◌*◌, ◌%◌, ◌^◌, Bool, if◌then◌else◌, slice_index, slice_set}
use Rattle.std.specs.Int.{w32, to_le_bytes, from_le_bytes, rotate_right}
use Rattle.memc.specs.declared.spots.Spot.{Spot}
use Rattle.memc.specs.declared.spots.Spot.TheVariants.{Ram, Rom, Io, Vidc, Control, Translator, Ignored}
use Rattle.memc.specs.Memory.{word_at, stored, with_control, translated}
use Rattle.ioc.specs.Registers.{is_register, read_at, write_at}
use Rattle.vidc.specs.Video.{written}
use Rattle.arm2_transfer.specs.declared.bus.Bus.{Bus}

-- the bus once a word was stored at a spot
abbrev pub put : Spot → ℕ → Bus → Bus
put (Ram place) word bus = record bus { memc = stored (Ram place) word bus.memc }
put (Rom address) word bus = bus
put (Io address) word bus = record bus { ioc = write_at address word bus.ioc }
put (Vidc address) word bus = record bus { vidc = written word bus.vidc }
put (Control address) word bus = record bus { memc = with_control address bus.memc }
put (Translator address) word bus = record bus { memc = translated address bus.memc }
put (Ignored address) word bus = bus

-- the word that a load sees at a spot; among the devices it is the port wherever IOC has no register
abbrev pub seen : Bus → (port : ℕ) → Spot → ℕ
seen bus port (Ram place) = word_at bus.memc (Ram place)
seen bus port (Rom address) = word_at bus.memc (Rom address)
seen bus port (Io address) = if is_register address then read_at address bus.ioc else port
seen bus port (Vidc address) = 0
seen bus port (Control address) = 0
seen bus port (Translator address) = 0
seen bus port (Ignored address) = 0

-- ## Bytes: the lane of a byte in its word is the two low bits of its address, the lowest byte in lane 0

-- a byte in all four lanes of the bus
abbrev pub in_all_lanes : ℕ → ℕ
in_all_lanes byte = byte * 0x0101_0101

-- a word with the byte in one lane replaced
abbrev pub with_byte : (lane byte : ℕ) → ℕ → ℕ
with_byte lane byte word = from_le_bytes w32 (slice_set (to_le_bytes w32 word) lane byte)

-- the bus once a byte was stored: RAM keeps the other bytes of the word, a device sees the byte in all lanes
abbrev pub put_byte : Spot → (address byte : ℕ) → Bus → Bus
put_byte (Ram place) address byte bus =
    put (Ram place) (with_byte (address % 4) byte (word_at bus.memc (Ram place))) bus
put_byte spot address byte bus = put spot (in_all_lanes byte) bus

-- what a load makes of the word that it sees: the byte in the addressed lane, or the word turned right until
-- that byte is lowest
abbrev pub byte_in : (lane : ℕ) → ℕ → ℕ
byte_in lane word = slice_index (to_le_bytes w32 word) lane

abbrev pub turned : (lane : ℕ) → ℕ → ℕ
turned lane word = rotate_right w32 word (8 * lane)

abbrev pub made_of : (byte : Bool) → (address : ℕ) → ℕ → ℕ
made_of byte address word = if byte then byte_in (address % 4) word else turned (address % 4) word

-- what a single store puts on the bus: a byte is the lowest of the register
abbrev pub put_single : (byte : Bool) → Spot → (address value : ℕ) → Bus → Bus
put_single byte spot address value bus =
    if byte then put_byte spot address (value % 2 ^ 8) bus else put spot value bus
