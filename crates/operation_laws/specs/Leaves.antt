-- What each instruction leaves in the registers and on the bus, where its condition holds and it ends as most
-- instructions do, with neither an exception nor a stop; before time passes, and without its accesses and ticks
-- (VL86C010 data sheet, but where the definitions of arm2_effect and arm2_transfer say otherwise). The law of
-- bases after transfers, in arm2_transfer, follows from it.
use Rattle.std.specs.Prelude.{◌≡◌, ℕ, ◌<◌, Bool, true, false, not, ◌&&◌, ◌||◌, if◌then◌else◌, List, length}
use Rattle.std.specs.Prelude.{Ok, ◌==◌}
use Rattle.std.specs.List.{list_any, position_or_len}
use Rattle.bus_ticks.specs.Prices.{ahead_of}
use Rattle.bus_ticks.specs.declared.space.TheConstants.{SPACE_END}
use Rattle.memc.specs.Memory.{located}
use Rattle.memc.specs.declared.spots.Spot.{Spot}
use Rattle.shifter.specs.declared.shifts.Shifted.{Shifted}
use Rattle.arm2_decode.specs.Names.{is_compare, is_pc, register_number}
use Rattle.arm2_decode.specs.Transfers.{is_listed, registers_in, writes_base}
use Rattle.arm2_decode.specs.Writers.{data_writes_pc}
use Rattle.arm2_decode.specs.declared.instr.Block.{Block}
use Rattle.arm2_decode.specs.declared.instr.Branch.{Branch}
use Rattle.arm2_decode.specs.declared.instr.Multiply.{Multiply}
use Rattle.arm2_decode.specs.declared.instr.Operation.{Operation}
use Rattle.arm2_decode.specs.declared.instr.Operation.TheVariants as row
use Rattle.arm2_decode.specs.declared.names.Opcode.{Opcode}
use Rattle.arm2_decode.specs.declared.names.Register.{Register}
use Rattle.arm2_decode.specs.declared.names.Register.TheVariants.{R14, R15}
use Rattle.arm2_effect.specs.declared.step_end.Kind.TheVariants.{Plain}
use Rattle.arm2_effect.specs.Effects.{skipped}
use Rattle.arm2_effect.specs.Modes.{r15_in, slot_of}
use Rattle.arm2_effect.specs.Operands.{current_mode, first_of, rotated_byte, shifted_by_amount}
use Rattle.arm2_effect.specs.Operands.{shifted_by_register}
use Rattle.arm2_effect.specs.Operations.{product_of}
use Rattle.arm2_effect.specs.Outcomes.{flags_after, outcome_of}
use Rattle.arm2_effect.specs.ProgramCounter.{address_of, branch_target, flags_of, r15_ahead}
use Rattle.arm2_transfer.specs.declared.bus.Bus.{Bus}
use Rattle.arm2_transfer.specs.declared.single_fields.Single.{Single}
use Rattle.arm2_transfer.specs.Bases.{IsWordSpot, PutsWords, base_moved, lowest_at}
use Rattle.arm2_transfer.specs.Block.{block_mode}
use Rattle.arm2_transfer.specs.Bus.{made_of, put_single, seen}
use Rattle.arm2_transfer.specs.Moved.{Moved}
use Rattle.arm2_transfer.specs.Operations.{operation_moved}
use Rattle.arm2_transfer.specs.Registers.{given, moved_by}
use Rattle.arm2_transfer.specs.Single.{address_for, has_user_rights, of_immediate, of_register}
use Rattle.operation_laws.specs.Left.{LeavesRegisters, Kept, Flagged, Restored, is_at}

-- the next instruction's address
abbrev pub next_of : List ℕ → ℕ
next_of regs = ahead_of (address_of (r15_in regs)) 4

-- no register but R15 is written
abbrev pub Passes : (before after : List ℕ) → Type 0
Passes before after = LeavesRegisters (λ place. false) (λ place word. ⊥) (next_of before) Kept before after

-- ## Data processing, multiplies and branches

-- Rd has the value, but of a compare; in R15 it is where to go. Flags that are set are those of the operation;
-- with Rd = R15 the PSR and the mode are bits of the value, in User mode the flags alone.
abbrev pub LeavesData : Opcode → (sets_flags : Bool) → (rn rd : Register) → (by : ℕ) → Shifted
    → (before after : List ℕ) → Type 0
LeavesData opcode sets_flags rn rd by operand before after =
    let out = outcome_of opcode (first_of by rn before) operand (flags_of (r15_in before)) in
    LeavesRegisters
    (λ place. not (is_compare opcode) && is_at before rd place)
    (λ place word. word ≡ out.value)
    (if data_writes_pc opcode rd then address_of out.value else next_of before)
    (if sets_flags then (if is_pc rd then Restored out.value else Flagged (flags_after out)) else Kept)
    before after

-- Rd has the low 32 bits of the product; with S, N and Z are set, and C and V stay
abbrev pub LeavesMultiply : Multiply → (before after : List ℕ) → Type 0
LeavesMultiply x before after =
    LeavesRegisters
    (is_at before x.rd)
    (λ place word. word ≡ (product_of x before).value)
    (next_of before)
    (if x.sets_flags then Flagged (flags_after (product_of x before)) else Kept)
    before after

-- a call leaves the PSR, the mode and the address of the next instruction in R14
abbrev pub LeavesBranch : Branch → (before after : List ℕ) → Type 0
LeavesBranch x before after =
    LeavesRegisters
    (λ place. x.link && is_at before R14 place)
    (λ place word. word ≡ r15_ahead (r15_in before) 4)
    (branch_target (address_of (r15_in before)) x.offset)
    Kept
    before after

-- ## Single transfers

-- R15 as the base is the address alone, two words on
abbrev pub base_of : Single → List ℕ → ℕ
base_of x regs = first_of 8 x.rn regs

abbrev pub single_address : Single → List ℕ → ℕ
single_address x regs = address_for x (base_of x regs)

-- the word that a load takes from a spot
abbrev pub word_from : Single → (port : ℕ) → List ℕ → Bus → Spot → ℕ
word_from x port regs bus spot = made_of x.byte (single_address x regs) (seen bus port spot)

-- Rd of a load has the word, and a base that is written back is moved (no instruction has one register for
-- both). R15 takes only the word's address. A store puts Rd as it was before the base moved; R15 is three words
-- on, with its PSR.
pub record LeavesSingle (x : Single) (port : ℕ) (before : List ℕ) (bus : Bus) (m : Moved) : Type 0 where
  pub in_space : single_address x before < SPACE_END
  pub spot : Spot
  pub is_spot : located bus.memc (single_address x before) (has_user_rights x (current_mode before)) (not x.load)
      ≡ Ok spot
  pub registers : LeavesRegisters
      (λ place. (x.load && is_at before x.rd place)
      || (writes_base x.before x.write_back && is_at before x.rn place))
      (λ place word.
      word ≡ (if x.load && is_at before x.rd place then word_from x port before bus spot
      else moved_by x.up (base_of x before) x.offset))
      (if x.load && is_pc x.rd then address_of (word_from x port before bus spot) else next_of before)
      Kept
      before m.regs
  pub bus_left : m.bus
      ≡ (if x.load then bus
      else put_single x.byte spot (single_address x before) (given (current_mode before) x.rd before) bus)

-- ## Blocks

-- the register, in the bank that the block moves, is at this place among all
abbrev pub moves_at : Block → List ℕ → (place : ℕ) → Register → Bool
moves_at x regs place register = slot_of (block_mode x regs) (register_number register) == place

abbrev pub loads_at : Block → List ℕ → (place : ℕ) → Bool
loads_at x regs place = x.load && list_any (moves_at x regs place) (registers_in x.list)

abbrev pub loads_pc : Block → Bool
loads_pc x = x.load && is_listed x.list R15

-- the word that a load takes for the register at this place: that at the register's position in the list
abbrev pub IsListedWord : Block → (port : ℕ) → List ℕ → Bus → (place word : ℕ) → Type 0
IsListedWord x port regs bus place word =
    (spot : Spot) × IsWordSpot x regs bus (position_or_len (moves_at x regs place) (registers_in x.list)) spot
    × (word ≡ seen bus port spot)

-- a loaded register has its word, whether or not it is the base; else a base that is written back is moved
pub record IsBlockWord (x : Block) (port : ℕ) (regs : List ℕ) (bus : Bus) (place word : ℕ) : Type 0 where
  pub loaded : loads_at x regs place ≡ true → IsListedWord x port regs bus place word
  pub base : loads_at x regs place ≡ false → word ≡ base_moved x regs

-- No register but those that a load lists and a base that is written back is written. With S and without R15
-- the listed registers are User's, and the base is the current mode's. With S and R15 loaded the PSR and the
-- mode come in, in User mode the flags alone; the place of R15 is 26. A store puts its words on the bus.
pub record LeavesBlock (x : Block) (port : ℕ) (before : List ℕ) (bus : Bus) (m : Moved) : Type 0 where
  pub in_space : lowest_at x before < SPACE_END
  pub r15_word : ℕ
  pub is_r15_word : loads_pc x ≡ true → IsListedWord x port before bus 26 r15_word
  pub registers : LeavesRegisters
      (λ place. loads_at x before place || (x.write_back && is_at before x.rn place))
      (IsBlockWord x port before bus)
      (if loads_pc x then address_of r15_word else next_of before)
      (if loads_pc x && x.user then Restored r15_word else Kept)
      before m.regs
  pub loads : x.load ≡ true → m.bus ≡ bus
  pub stores : x.load ≡ false → PutsWords x before bus 0 (registers_in x.list) bus m.bus

-- ## Any instruction

-- the bus stays as it is
abbrev pub OnRegisters : (LeavesThem : (before after : List ℕ) → Type 0) → (before : List ℕ) → Bus → Moved
    → Type 0
OnRegisters LeavesThem before bus m = LeavesThem before m.regs × (m.bus ≡ bus)

-- an instruction, on registers and a bus, leaves those of m; the last four always end in an exception
abbrev pub Leaves : Operation → (port : ℕ) → (before : List ℕ) → Bus → Moved → Type 0
Leaves (row.Multiply x) port before bus m = OnRegisters (LeavesMultiply x) before bus m
Leaves (row.DataRegister x) port before bus m =
    OnRegisters
    (LeavesData x.opcode x.sets_flags x.rn x.rd 8 (shifted_by_amount x.shift x.amount x.rm before)) before bus m
Leaves (row.DataRegisterShift x) port before bus m =
    OnRegisters
    (LeavesData x.opcode x.sets_flags x.rn x.rd 12 (shifted_by_register x.shift x.rs x.rm before)) before bus m
Leaves (row.DataImmediate x) port before bus m =
    OnRegisters
    (LeavesData x.opcode x.sets_flags x.rn x.rd 8 (rotated_byte x.value x.rotation before)) before bus m
Leaves (row.SingleImmediate x) port before bus m = LeavesSingle (of_immediate x) port before bus m
Leaves (row.SingleRegister x) port before bus m = LeavesSingle (of_register x before) port before bus m
Leaves (row.Block x) port before bus m = LeavesBlock x port before bus m
Leaves (row.Branch x) port before bus m = OnRegisters (LeavesBranch x) before bus m
Leaves (row.Swi x) port before bus m = ⊥
Leaves (row.UndefinedTransfer x) port before bus m = ⊥
Leaves (row.CoprocessorTransfer x) port before bus m = ⊥
Leaves (row.Coprocessor x) port before bus m = ⊥

-- whatever is carried out plainly leaves what its rule says, and a failed condition passes on
abbrev pub OperationLaw : Type 0
OperationLaw =
    (o : Operation) (port : ℕ) (before : List ℕ) (bus : Bus) → length before ≡ 27
    → (operation_moved o port before bus).kind ≡ Plain
    → Leaves o port before bus (operation_moved o port before bus)

abbrev pub SkipLaw : Type 0
SkipLaw = (before : List ℕ) → length before ≡ 27 → Passes before (skipped before).regs

-- a branch always ends so
abbrev pub BranchesPlainly : Type 0
BranchesPlainly =
    (x : Branch) (port : ℕ) (before : List ℕ) (bus : Bus)
    → (operation_moved (row.Branch x) port before bus).kind ≡ Plain
