-- What a word does: to the flow of control, and besides its fetches (VL86C010 data sheet, by the table of
-- instruction words, but for the cycles, of which a multiply has its most).
use Rattle.std.specs.Prelude.{◌≡◌, ℕ, ◌≤◌, Bool, true, false}
use Rattle.std.specs.Prelude.{if◌then◌else◌, ◌⊎◌, Option, Some, None, option_map}
use Rattle.arm2_decode.specs.Table.{Means, IsUnallocated}
use Rattle.arm2_decode.specs.Writers.{moved, writes_pc}
use Rattle.arm2_decode.specs.declared.instr.Instr.{Instr}
use Rattle.arm2_decode.specs.declared.instr.Unallocated.{Unallocated}
use Rattle.arm2_decode.specs.declared.instr.Operation.{Operation}
use Rattle.arm2_decode.specs.declared.instr.Operation.TheVariants as operation
use Rattle.arm2_decode.specs.declared.names.Cond.{Cond}
use Rattle.arm2_decode.specs.declared.names.Register.{Register}
use Rattle.arm2_decode.specs.declared.transfers.Moved.{Moved}
use Rattle.shifter.specs.declared.shifts.TheConstants.{MOST_MULTIPLY_CYCLES}
use Rattle.control_flow.specs.declared.actions.Kind.{Kind}
use Rattle.control_flow.specs.declared.actions.Kind.TheVariants as kind
use Rattle.control_flow.specs.declared.actions.Work.{Work}
use Rattle.control_flow.specs.declared.actions.Work.TheVariants as work
use Rattle.control_flow.specs.declared.actions.Action.{Action}

-- ## The flow of control

-- a word that writes R15 where the test holds
abbrev pub writer_if : Bool → Kind
writer_if writes = if writes then kind.Writer else kind.Plain

abbrev pub kind_of : Operation → Kind
kind_of (operation.Multiply x) = writer_if (writes_pc (operation.Multiply x))
kind_of (operation.DataRegister x) = writer_if (writes_pc (operation.DataRegister x))
kind_of (operation.DataRegisterShift x) = writer_if (writes_pc (operation.DataRegisterShift x))
kind_of (operation.DataImmediate x) = writer_if (writes_pc (operation.DataImmediate x))
kind_of (operation.SingleImmediate x) = writer_if (writes_pc (operation.SingleImmediate x))
kind_of (operation.SingleRegister x) = writer_if (writes_pc (operation.SingleRegister x))
kind_of (operation.Block x) = writer_if (writes_pc (operation.Block x))
kind_of (operation.Branch x) = if x.link then kind.Call x.offset else kind.Branch x.offset
kind_of (operation.Swi x) = kind.Trap
kind_of (operation.UndefinedTransfer x) = kind.Trap
kind_of (operation.CoprocessorTransfer x) = kind.Trap
kind_of (operation.Coprocessor x) = kind.Trap

-- a word that writes R15, other than a branch or a call
abbrev pub is_writer : Kind → Bool
is_writer kind.Plain = false
is_writer (kind.Branch offset) = false
is_writer (kind.Call offset) = false
is_writer kind.Writer = true
is_writer kind.Trap = false
is_writer kind.Unallocated = false

-- ## Besides the fetches

abbrev pub transfer_work : Bool → ℕ → Work
transfer_work load words = if load then work.Load words else work.Store words

abbrev pub is_multiply : Operation → Bool
is_multiply (operation.Multiply x) = true
is_multiply (operation.DataRegister x) = false
is_multiply (operation.DataRegisterShift x) = false
is_multiply (operation.DataImmediate x) = false
is_multiply (operation.SingleImmediate x) = false
is_multiply (operation.SingleRegister x) = false
is_multiply (operation.Block x) = false
is_multiply (operation.Branch x) = false
is_multiply (operation.Swi x) = false
is_multiply (operation.UndefinedTransfer x) = false
is_multiply (operation.CoprocessorTransfer x) = false
is_multiply (operation.Coprocessor x) = false

-- of what neither loads nor stores: a multiply takes its most, and a shift by a register's amount one
abbrev pub internal_cycles : Operation → ℕ
internal_cycles (operation.Multiply x) = MOST_MULTIPLY_CYCLES
internal_cycles (operation.DataRegister x) = 0
internal_cycles (operation.DataRegisterShift x) = 1
internal_cycles (operation.DataImmediate x) = 0
internal_cycles (operation.SingleImmediate x) = 0
internal_cycles (operation.SingleRegister x) = 0
internal_cycles (operation.Block x) = 0
internal_cycles (operation.Branch x) = 0
internal_cycles (operation.Swi x) = 0
internal_cycles (operation.UndefinedTransfer x) = 0
internal_cycles (operation.CoprocessorTransfer x) = 0
internal_cycles (operation.Coprocessor x) = 0

-- by what it moves, if it moves anything
abbrev pub work_by : Operation → Option Moved → Work
work_by o None = work.Internal (internal_cycles o)
work_by o (Some m) = transfer_work m.load m.words

abbrev pub work_of : Operation → Work
work_of o = work_by o (moved o)

-- a block has 1 to 16 words
abbrev pub IsWork : Work → Type 0
IsWork (work.Internal cycles) = cycles ≤ MOST_MULTIPLY_CYCLES
IsWork (work.Load words) = (1 ≤ words) × (words ≤ 16)
IsWork (work.Store words) = (1 ≤ words) × (words ≤ 16)

-- ## Words

abbrev pub action : Cond → Kind → Work → Option Register → Action
action c k w base = record { cond = c; kind = k; work = w; base = base }

-- the base register of a load or a store
abbrev pub base_of : Operation → Option Register
base_of o = option_map (λ m. m.base) (moved o)

abbrev pub instr_action : Instr → Action
instr_action i = action i.cond (kind_of i.operation) (work_of i.operation) (base_of i.operation)

abbrev pub unallocated_action : Unallocated → Action
unallocated_action u = action u.cond kind.Unallocated (work.Internal 0) None

-- when a word is carried out and what it then does; it is an instruction or unallocated
abbrev pub IsAction : ℕ → Action → Type 0
IsAction word a =
    ((i : Instr) × Means word i × (a ≡ instr_action i))
    ⊎ ((u : Unallocated) × IsUnallocated word u × (a ≡ unallocated_action u))
