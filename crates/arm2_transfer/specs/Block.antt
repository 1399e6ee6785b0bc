-- Block transfers (VL86C010 data sheet, block data transfer, where it speaks).
use Rattle.std.specs.Prelude.{ℕ, ◌+◌, ◌-◌, ◌*◌, ◌/◌, ◌%◌, ◌^◌, Bool, not, ◌&&◌, nat_lt, if◌then◌else◌, List}
use Rattle.std.specs.Prelude.{[], ◌∷◌, Result, Ok, Err}
use Rattle.bus_ticks.specs.declared.space.TheConstants.{SPACE_END}
use Rattle.arm2_decode.specs.declared.instr.Block.{Block}
use Rattle.arm2_decode.specs.declared.names.Register.TheVariants.{R15}
use Rattle.arm2_decode.specs.Names.{register_number}
use Rattle.arm2_decode.specs.Transfers.{is_listed, registers_in, word_count}
use Rattle.arm2_effect.specs.declared.modes.Mode.{Mode}
use Rattle.arm2_effect.specs.declared.modes.Mode.TheVariants.{User}
use Rattle.arm2_effect.specs.declared.step_end.Kind.TheVariants.{Plain}
use Rattle.arm2_effect.specs.Modes.{r15_in, register_in, is_user}
use Rattle.arm2_effect.specs.ProgramCounter.{address_of, mode_of}
use Rattle.arm2_transfer.specs.declared.bus.Bus.{Bus}
use Rattle.arm2_transfer.specs.declared.words.Move.{Move}
use Rattle.arm2_transfer.specs.declared.words.TransferFault.{TransferFault}
use Rattle.arm2_transfer.specs.declared.span.Span.{Span}
use Rattle.arm2_transfer.specs.Bus.{put, seen}
use Rattle.arm2_transfer.specs.Words.{words_from, verdict_of}
use Rattle.arm2_transfer.specs.Registers.{moved_by, given, with_loaded, with_base, passed}
use Rattle.arm2_transfer.specs.Moved.{Moved, out_of_space, faulted, load_accesses, store_accesses}
use Rattle.arm2_effect.specs.Operands.{current_mode}

-- the lowest address of IA, IB, DA and DB, of 32 bits and without its two low bits
abbrev pub lowest_of : Block → (base k : ℕ) → ℕ
lowest_of x base k =
    (if x.up then (if x.before then (base + 4) % 2 ^ 32 else base)
    else
    (if x.before then (base + (2 ^ 32 - 4 * k)) % 2 ^ 32
    else (base + (2 ^ 32 - 4 * k + 4)) % 2 ^ 32)) / 4 * 4

-- where a block of so many registers lies, and the base after it
abbrev pub span_of : Block → (base k : ℕ) → Span
span_of x base k = record { lowest = lowest_of x base k; words = k; base = moved_by x.up base (4 * k) }

-- whose registers are moved: with S those of User, unless R15 is loaded
abbrev pub mode_for : Block → Mode → Mode
mode_for x mode = if x.user && not (x.load && is_listed x.list R15) then User else mode

-- whose registers are moved, by the mode in these
abbrev pub block_mode : Block → List ℕ → Mode
block_mode x regs = mode_for x (current_mode regs)

-- the registers with the base written back, where W is set
abbrev pub written_back : Block → Span → List ℕ → List ℕ
written_back x span regs = with_base x.write_back (current_mode regs) x.rn span.base regs

-- the words of some moves, from the registers of a mode
abbrev pub put_all : Mode → List ℕ → List Move → Bus → Bus
put_all mode regs [] bus = bus
put_all mode regs (move ∷ rest) bus =
    put_all mode regs rest (put move.spot (given mode move.register regs) bus)

-- the words of a store: the registers before the base is written back have the first of them, and those after
-- it the others. So a base that is the lowest is stored as it was, and a later one as it becomes
unfoldable pub block_put : Mode → (before after : List ℕ) → List Move → Bus → Bus
block_put mode before after [] bus = bus
block_put mode before after (move ∷ rest) bus =
    put_all mode after rest (put move.spot (given mode move.register before) bus)

-- the words of some moves in the registers of a mode
abbrev pub load_all : (psr : Bool) → Mode → (r : ℕ) → Bus → (port : ℕ) → List Move → List ℕ → List ℕ
load_all psr mode r bus port [] regs = regs
load_all psr mode r bus port (move ∷ rest) regs =
    load_all psr mode r bus port rest (with_loaded psr mode r move.register (seen bus port move.spot) regs)

-- a load: the words come after the base is written back, so that a loaded base stays
unfoldable pub block_loads : Block → Span → (port : ℕ) → List Move → List ℕ → Bus → Moved
block_loads x span port moves regs bus =
    let r = r15_in regs in
    let written = with_base x.write_back (mode_of r) x.rn span.base (passed regs) in
    let after = load_all x.user (block_mode x regs) r bus port moves written in
    record {
      kind = Plain;
      accesses =
          load_accesses (address_of r) span.lowest span.words (is_listed x.list R15)
          (address_of (r15_in after));
      regs = after;
      bus = bus;
    }

-- a store
unfoldable pub block_stores : Block → Span → List Move → List ℕ → Bus → Moved
block_stores x span moves regs bus =
    let after = written_back x span regs in
    record {
      kind = Plain;
      accesses = store_accesses (address_of (r15_in regs)) span.lowest span.words;
      regs = passed after;
      bus = block_put (block_mode x regs) regs after moves bus;
    }

-- a transfer whose words are at hand
unfoldable pub block_carried_out : Block → Span → (port : ℕ) → List Move → List ℕ → Bus → Moved
block_carried_out x span port moves regs bus =
    if x.load then block_loads x span port moves regs bus else block_stores x span moves regs bus

-- a transfer by what the memory controller says of its words
unfoldable pub block_by : Block → Span → (port : ℕ) → Result (List Move) TransferFault → List ℕ → Bus → Moved
block_by x span port (Err fault) regs bus = faulted fault regs bus
block_by x span port (Ok moves) regs bus = block_carried_out x span port moves regs bus

-- a transfer by where it lies: a lowest address of 2 ^ 26 or more is an exception
unfoldable pub block_at : Block → Span → (port : ℕ) → List ℕ → Bus → Moved
block_at x span port regs bus =
    if nat_lt span.lowest SPACE_END then
    block_by x span port
    (verdict_of
    (words_from bus.memc (is_user (current_mode regs)) (not x.load) span.lowest 0
    (registers_in x.list))) regs bus
    else out_of_space regs bus

-- a block transfer
unfoldable pub block_moved : Block → (port : ℕ) → List ℕ → Bus → Moved
block_moved x port regs bus =
    let base = register_in (current_mode regs) (register_number x.rn) regs in
    block_at x (span_of x base (word_count x.list)) port regs bus
