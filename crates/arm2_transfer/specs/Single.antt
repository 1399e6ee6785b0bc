-- Single transfers (VL86C010 data sheet, single data transfer, but for what a store of the base and the
-- address exception do).
use Rattle.std.specs.Prelude.{ℕ, Bool, false, not, ◌||◌, nat_lt, if◌then◌else◌, List, Result, Ok}
use Rattle.std.specs.Prelude.{Err}
use Rattle.bus_ticks.specs.declared.space.TheConstants.{SPACE_END}
use Rattle.memc.specs.Memory.{located}
use Rattle.memc.specs.declared.spots.Spot.{Spot}
use Rattle.arm2_decode.specs.declared.instr.SingleImmediate.{SingleImmediate}
use Rattle.arm2_decode.specs.declared.instr.SingleRegister.{SingleRegister}
use Rattle.arm2_decode.specs.Transfers.{asks_for_user, writes_base}
use Rattle.arm2_decode.specs.declared.names.Register.{Register}
use Rattle.arm2_effect.specs.declared.modes.Mode.{Mode}
use Rattle.arm2_effect.specs.declared.step_end.Kind.TheVariants.{Plain}
use Rattle.arm2_effect.specs.Modes.{r15_in, is_user}
use Rattle.arm2_effect.specs.Operands.{first_of, current_mode, shifted_by_amount}
use Rattle.arm2_decode.specs.Names.{is_pc}
use Rattle.arm2_effect.specs.ProgramCounter.{address_of, mode_of}
use Rattle.arm2_transfer.specs.declared.bus.Bus.{Bus}
use Rattle.arm2_transfer.specs.declared.words.TransferFault.{TransferFault}
use Rattle.arm2_transfer.specs.declared.single_fields.Single.{Single}
use Rattle.arm2_transfer.specs.Bus.{seen, made_of, put_single}
use Rattle.arm2_transfer.specs.Words.{or_fault}
use Rattle.arm2_transfer.specs.Registers.{address_by, moved_by, given, with_loaded, with_base}
use Rattle.arm2_transfer.specs.Registers.{passed}
use Rattle.arm2_transfer.specs.Moved.{Moved, out_of_space, faulted, load_accesses, store_accesses}

-- the address, from the base
abbrev pub address_for : Single → (base : ℕ) → ℕ
address_for x base = address_by x.before x.up base x.offset

-- whether the access has the rights of User: in User mode, and where it asks for them
abbrev pub has_user_rights : Single → Mode → Bool
has_user_rights x mode = is_user mode || asks_for_user x.before x.write_back

-- R15 one instruction on, and the moved base in its register of the current mode where it is written back
abbrev pub base_after : Single → (base : ℕ) → List ℕ → List ℕ
base_after x base regs =
    with_base (writes_base x.before x.write_back) (current_mode regs) x.rn
    (moved_by x.up base x.offset) (passed regs)

-- a load's registers: the word comes after the base is written back, so that it stays where both name one
-- register
unfoldable pub single_loaded : Single → (base port : ℕ) → Spot → List ℕ → Bus → List ℕ
single_loaded x base port spot regs bus =
    let r = r15_in regs in
    let word = made_of x.byte (address_for x base) (seen bus port spot) in
    with_loaded false (mode_of r) r x.rd word (base_after x base regs)

-- a load
unfoldable pub single_loads : Single → (base port : ℕ) → Spot → List ℕ → Bus → Moved
single_loads x base port spot regs bus =
    let after = single_loaded x base port spot regs bus in
    record {
      kind = Plain;
      accesses =
          load_accesses (address_of (r15_in regs)) (address_for x base) 1 (is_pc x.rd)
          (address_of (r15_in after));
      regs = after;
      bus = bus;
    }

-- a store: the value is that of before the write-back
unfoldable pub single_stores : Single → (base : ℕ) → Spot → List ℕ → Bus → Moved
single_stores x base spot regs bus =
    let r = r15_in regs in
    record {
      kind = Plain;
      accesses = store_accesses (address_of r) (address_for x base) 1;
      regs = base_after x base regs;
      bus = put_single x.byte spot (address_for x base) (given (mode_of r) x.rd regs) bus;
    }

-- a transfer whose word is at hand
unfoldable pub single_carried_out : Single → (base port : ℕ) → Spot → List ℕ → Bus → Moved
single_carried_out x base port spot regs bus =
    if x.load then single_loads x base port spot regs bus else single_stores x base spot regs bus

-- a transfer by what the memory controller says of its word
unfoldable pub single_by : Single → (base port : ℕ) → Result Spot TransferFault → List ℕ → Bus → Moved
single_by x base port (Err fault) regs bus = faulted fault regs bus
single_by x base port (Ok spot) regs bus = single_carried_out x base port spot regs bus

-- a transfer by its base: an address of 2 ^ 26 or more is an exception
unfoldable pub single_at : Single → (base port : ℕ) → List ℕ → Bus → Moved
single_at x base port regs bus =
    if nat_lt (address_for x base) SPACE_END then
    single_by x base port
    (or_fault
    (located bus.memc (address_for x base) (has_user_rights x (current_mode regs))
    (not x.load))) regs bus
    else out_of_space regs bus

-- a single transfer: R15 as the base is two words on, without its PSR and mode
abbrev pub single_moved : Single → (port : ℕ) → List ℕ → Bus → Moved
single_moved x port regs bus = single_at x (first_of 8 x.rn regs) port regs bus

-- the fields of a single transfer
abbrev single : (before up byte write_back load : Bool) → (rn rd : Register) → (offset : ℕ) → Single
single before up byte write_back load rn rd offset =
    record {
      before = before;
      up = up;
      byte = byte;
      write_back = write_back;
      load = load;
      rn = rn;
      rd = rd;
      offset = offset;
    }

-- with the offset in the word
abbrev pub of_immediate : SingleImmediate → Single
of_immediate x = single x.before x.up x.byte x.write_back x.load x.rn x.rd x.offset

-- with the offset in a register, shifted by an amount in the word
abbrev pub of_register : SingleRegister → List ℕ → Single
of_register x regs =
    single
    x.before
    x.up
    x.byte
    x.write_back
    x.load
    x.rn
    x.rd
    (shifted_by_amount x.shift x.amount x.rm regs).value
