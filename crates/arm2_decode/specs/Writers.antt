-- What operations move between registers and memory, and which registers they write (VL86C010 data sheet, by
-- the table of instruction words).
use Rattle.std.specs.Prelude.{Bool, false, not, ◌&&◌, ◌||◌, Option, Some, None, is_some}
use Rattle.arm2_decode.specs.Names.{is_compare, is_pc, is_same}
use Rattle.arm2_decode.specs.Transfers.{is_listed, word_count, writes_base}
use Rattle.arm2_decode.specs.declared.instr.Operation.{Operation}
use Rattle.arm2_decode.specs.declared.instr.Operation.TheVariants as operation
use Rattle.arm2_decode.specs.declared.names.Opcode.{Opcode}
use Rattle.arm2_decode.specs.declared.names.Register.{Register}
use Rattle.arm2_decode.specs.declared.names.Register.TheVariants.{R15}
use Rattle.arm2_decode.specs.declared.transfers.Moved.{Moved}

-- ## Loads and stores

-- one word or byte
abbrev pub one_moved : (load : Bool) → (base : Register) → Moved
one_moved load base = record { load = load; words = 1; base = base }

-- loads and stores move words, and no other operation does
abbrev pub moved : Operation → Option Moved
moved (operation.Multiply x) = None
moved (operation.DataRegister x) = None
moved (operation.DataRegisterShift x) = None
moved (operation.DataImmediate x) = None
moved (operation.SingleImmediate x) = Some (one_moved x.load x.rn)
moved (operation.SingleRegister x) = Some (one_moved x.load x.rn)
moved (operation.Block x) = Some (record { load = x.load; words = word_count x.list; base = x.rn })
moved (operation.Branch x) = None
moved (operation.Swi x) = None
moved (operation.UndefinedTransfer x) = None
moved (operation.CoprocessorTransfer x) = None
moved (operation.Coprocessor x) = None

abbrev pub is_transfer : Operation → Bool
is_transfer o = is_some (moved o)

-- ## Writers

-- data processing writes Rd, unless it compares
abbrev pub data_writes : Opcode → (rd register : Register) → Bool
data_writes o rd register = is_same rd register && not (is_compare o)

-- a load of one word or byte writes Rd, and a load or a store of one may write its base
abbrev pub single_writes : (load writes_rn : Bool) → (rn rd register : Register) → Bool
single_writes load writes_rn rn rd register =
    (load && is_same rd register) || (writes_rn && is_same rn register)

-- it writes the register, other than as a branch, a call or an exception does
abbrev pub writes : Operation → Register → Bool
writes (operation.Multiply x) register = is_same x.rd register
writes (operation.DataRegister x) register = data_writes x.opcode x.rd register
writes (operation.DataRegisterShift x) register = data_writes x.opcode x.rd register
writes (operation.DataImmediate x) register = data_writes x.opcode x.rd register
writes (operation.SingleImmediate x) register =
    single_writes x.load (writes_base x.before x.write_back) x.rn x.rd register
writes (operation.SingleRegister x) register =
    single_writes x.load (writes_base x.before x.write_back) x.rn x.rd register
writes (operation.Block x) register =
    (x.load && is_listed x.list register) || (x.write_back && is_same x.rn register)
writes (operation.Branch x) register = false
writes (operation.Swi x) register = false
writes (operation.UndefinedTransfer x) register = false
writes (operation.CoprocessorTransfer x) register = false
writes (operation.Coprocessor x) register = false

abbrev pub data_writes_pc : Opcode → Register → Bool
data_writes_pc o rd = is_pc rd && not (is_compare o)

-- so R15; a multiply's Rd and a base that is written are never R15
abbrev pub writes_pc : Operation → Bool
writes_pc (operation.Multiply x) = false
writes_pc (operation.DataRegister x) = data_writes_pc x.opcode x.rd
writes_pc (operation.DataRegisterShift x) = data_writes_pc x.opcode x.rd
writes_pc (operation.DataImmediate x) = data_writes_pc x.opcode x.rd
writes_pc (operation.SingleImmediate x) = x.load && is_pc x.rd
writes_pc (operation.SingleRegister x) = x.load && is_pc x.rd
writes_pc (operation.Block x) = x.load && is_listed x.list R15
writes_pc (operation.Branch x) = false
writes_pc (operation.Swi x) = false
writes_pc (operation.UndefinedTransfer x) = false
writes_pc (operation.CoprocessorTransfer x) = false
writes_pc (operation.Coprocessor x) = false
