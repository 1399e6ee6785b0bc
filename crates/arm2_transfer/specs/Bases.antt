-- What a load or a store that is carried out leaves in its base register, and the word that a store writes
-- for it (VL86C010 data sheet, single data transfer and block data transfer; it is silent on two rules: a
-- single store writes the old base, and only the register of the base's own bank counts as a block's base).
use Rattle.std.specs.Prelude.{◌≡◌, ℕ, ◌+◌, ◌*◌, ◌==◌, Bool, true, false, not, ◌&&◌, List, [], ◌∷◌, Ok}
use Rattle.std.specs.List.{list_any, position_or_len}
use Rattle.bus_ticks.specs.Prices.{word_address}
use Rattle.memc.specs.Memory.{located}
use Rattle.memc.specs.declared.spots.Spot.{Spot}
use Rattle.arm2_decode.specs.declared.instr.Block.{Block}
use Rattle.arm2_decode.specs.declared.names.Register.{Register}
use Rattle.arm2_decode.specs.Names.{register_number}
use Rattle.arm2_decode.specs.Transfers.{registers_in, word_count, writes_base}
use Rattle.arm2_effect.specs.Modes.{register_in, slot_of, is_user}
use Rattle.arm2_transfer.specs.declared.bus.Bus.{Bus}
use Rattle.arm2_transfer.specs.declared.single_fields.Single.{Single}
use Rattle.arm2_transfer.specs.Bus.{made_of, put, put_single, seen}
use Rattle.arm2_transfer.specs.Registers.{given, moved_by}
use Rattle.arm2_transfer.specs.Moved.{Moved}
use Rattle.arm2_transfer.specs.Single.{address_for, has_user_rights}
use Rattle.arm2_transfer.specs.Block.{lowest_of, mode_for}
use Rattle.arm2_effect.specs.Operands.{current_in, current_mode}

-- what the base's register, by the mode before the instruction, holds after it
abbrev pub base_left : Register → (before after : List ℕ) → ℕ
base_left rn before after = register_in (current_mode before) (register_number rn) after

-- What a transfer leaves in its base register: the loaded word, where it loads that register; else the moved
-- base, where it writes it back; else the base as it was.
pub record LeavesBase (loads writes : Bool) (IsLoaded : ℕ → Type 0) (base moved left : ℕ) : Type 0 where
  pub loaded : loads ≡ true → IsLoaded left
  pub written_back : loads ≡ false → writes ≡ true → left ≡ moved
  pub kept : loads ≡ false → writes ≡ false → left ≡ base

-- ## Single transfers

abbrev pub address_at : Single → List ℕ → ℕ
address_at x regs = address_for x (current_in x.rn regs)

-- where the word goes or comes from
abbrev pub IsSpot : Single → List ℕ → Bus → Spot → Type 0
IsSpot x regs bus spot =
    located bus.memc (address_at x regs) (has_user_rights x (current_mode regs)) (not x.load) ≡ Ok spot

-- whether the register that is loaded or stored is the base register
abbrev pub is_own_base : Single → Bool
is_own_base x = register_number x.rd == register_number x.rn

-- what a load makes of the word that it sees
abbrev pub IsLoadedWord : Single → (port : ℕ) → List ℕ → Bus → (value : ℕ) → Type 0
IsLoadedWord x port regs bus value =
    (spot : Spot) × IsSpot x regs bus spot × (value ≡ made_of x.byte (address_at x regs) (seen bus port spot))

-- a store puts a value on the bus
abbrev pub PutsWord : Single → List ℕ → Bus → (value : ℕ) → (after : Bus) → Type 0
PutsWord x regs bus value after =
    (spot : Spot) × IsSpot x regs bus spot × (after ≡ put_single x.byte spot (address_at x regs) value bus)

-- a single transfer and its base, for any base but R15, which moves on with each instruction and is stored
-- with its PSR
pub record SingleBase (x : Single) (port : ℕ) (regs : List ℕ) (bus : Bus) (m : Moved) : Type 0 where
  pub leaves : LeavesBase (x.load && is_own_base x) (writes_base x.before x.write_back)
      (IsLoadedWord x port regs bus) (current_in x.rn regs) (moved_by x.up (current_in x.rn regs) x.offset)
      (base_left x.rn regs m.regs)
  pub stores_old : x.load ≡ false → is_own_base x ≡ true → PutsWord x regs bus (current_in x.rn regs) m.bus

-- ## Blocks

-- the base moved by as many words as the block moves
abbrev pub base_moved : Block → List ℕ → ℕ
base_moved x regs = moved_by x.up (current_in x.rn regs) (4 * word_count x.list)

abbrev pub lowest_at : Block → List ℕ → ℕ
lowest_at x regs = lowest_of x (current_in x.rn regs) (word_count x.list)

-- where word number i goes or comes from, by the memory controller as it is before the first is moved
abbrev pub IsWordSpot : Block → List ℕ → Bus → (i : ℕ) → Spot → Type 0
IsWordSpot x regs bus i spot =
    located bus.memc (word_address (lowest_at x regs) i) (is_user (current_mode regs)) (not x.load) ≡ Ok spot

-- Whether a register of the list is the base register. Where S asks for User's registers and the base is R13
-- of IRQ, the R13 of the list is another.
abbrev pub is_base : Block → List ℕ → Register → Bool
is_base x regs register =
    slot_of (mode_for x (current_mode regs)) (register_number register)
    == slot_of (current_mode regs) (register_number x.rn)

abbrev pub loads_base : Block → List ℕ → Bool
loads_base x regs = x.load && list_any (is_base x regs) (registers_in x.list)

-- the word that a load sees for its base: that at the base's place in the list
abbrev pub IsBaseWord : Block → (port : ℕ) → List ℕ → Bus → (value : ℕ) → Type 0
IsBaseWord x port regs bus value =
    (spot : Spot) × IsWordSpot x regs bus (position_or_len (is_base x regs) (registers_in x.list)) spot
    × (value ≡ seen bus port spot)

-- What a store writes for a register of its list: the base as it was, where it is the lowest of the list or
-- is not written back; the moved base, where it comes later and is; and any other register as it is.
pub record Stores (x : Block) (regs : List ℕ) (first : Bool) (register : Register) (word : ℕ) : Type 0 where
  pub lowest_base : is_base x regs register ≡ true → first ≡ true → word ≡ current_in x.rn regs
  pub later_base : is_base x regs register ≡ true → first ≡ false → x.write_back ≡ true
      → word ≡ base_moved x regs
  pub kept_base : is_base x regs register ≡ true → x.write_back ≡ false → word ≡ current_in x.rn regs
  pub other : is_base x regs register ≡ false → word ≡ given (mode_for x (current_mode regs)) register regs

-- the bus once the words of some registers were put on it, from number i on; `start` is the bus before word 0
abbrev pub PutsWords : Block → List ℕ → (start : Bus) → (i : ℕ) → List Register → (old new : Bus) → Type 0
PutsWords x regs start i [] old new = new ≡ old
PutsWords x regs start i (register ∷ rest) old new =
    (spot : Spot) × (word : ℕ) × IsWordSpot x regs start i spot × Stores x regs (i == 0) register word
    × PutsWords x regs start (i + 1) rest (put spot word old) new

-- a block transfer and its base, which is never R15: a word with that base is unallocated
pub record BlockBase (x : Block) (port : ℕ) (regs : List ℕ) (bus : Bus) (m : Moved) : Type 0 where
  pub leaves : LeavesBase (loads_base x regs) x.write_back (IsBaseWord x port regs bus)
      (current_in x.rn regs) (base_moved x regs) (base_left x.rn regs m.regs)
  pub stores : x.load ≡ false → PutsWords x regs bus 0 (registers_in x.list) bus m.bus
