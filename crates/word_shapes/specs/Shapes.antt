-- Shapes of words (VL86C010 data sheet, by the table of instruction words, but for which shapes are returns,
-- jumps into tables of branches, kept return addresses, and addresses that are put into R14).
use Rattle.std.specs.Prelude.{ℕ, Bool, false, not, ◌&&◌, ◌||◌, ◌==◌}
use Rattle.arm2_decode.specs.Names.{is_add, is_link, is_lsl, is_mov, is_never, is_pc, is_stack, is_sub}
use Rattle.arm2_decode.specs.Writers.{writes_pc}
use Rattle.arm2_decode.specs.declared.instr.DataRegister.{DataRegister}
use Rattle.arm2_decode.specs.declared.instr.Instr.{Instr}
use Rattle.arm2_decode.specs.declared.instr.Operation.{Operation}
use Rattle.arm2_decode.specs.declared.instr.Operation.TheVariants as operation
use Rattle.arm2_decode.specs.declared.names.Opcode.{Opcode}
use Rattle.arm2_decode.specs.declared.names.Register.{Register}

-- ## Conditions

-- the instruction may be carried out, and its operation has the shape: one under NV never is
abbrev pub may_do : (Operation → Bool) → Instr → Bool
may_do shape i = not (is_never i.cond) && shape i.operation

-- ## Parts of a word

-- the operand is shifted to the left by so many bits; by none, it is the register as it is
abbrev pub is_lsl_by : ℕ → DataRegister → Bool
is_lsl_by amount x = is_lsl x.shift && (x.amount == amount)

-- data processing whose operand is a register, shifted by a number, and of which the test holds
abbrev pub is_data_register : (DataRegister → Bool) → Operation → Bool
is_data_register test (operation.Multiply x) = false
is_data_register test (operation.DataRegister x) = test x
is_data_register test (operation.DataRegisterShift x) = false
is_data_register test (operation.DataImmediate x) = false
is_data_register test (operation.SingleImmediate x) = false
is_data_register test (operation.SingleRegister x) = false
is_data_register test (operation.Block x) = false
is_data_register test (operation.Branch x) = false
is_data_register test (operation.Swi x) = false
is_data_register test (operation.UndefinedTransfer x) = false
is_data_register test (operation.CoprocessorTransfer x) = false
is_data_register test (operation.Coprocessor x) = false

-- ## Returns

-- MOV of R14, not shifted
abbrev pub copies_link : DataRegister → Bool
copies_link x = is_mov x.opcode && is_link x.rm && is_lsl_by 0 x

-- SUB from R14
abbrev pub subtracts_from_link : Opcode → Register → Bool
subtracts_from_link o rn = is_sub o && is_link rn

-- what a word that writes R15 to return looks like: MOV of R14, SUB of a number from R14, or a load by R13 with
-- at most a number, or of a block
abbrev pub is_return : Operation → Bool
is_return (operation.Multiply x) = false
is_return (operation.DataRegister x) = copies_link x
is_return (operation.DataRegisterShift x) = false
is_return (operation.DataImmediate x) = subtracts_from_link x.opcode x.rn
is_return (operation.SingleImmediate x) = is_stack x.rn
is_return (operation.SingleRegister x) = false
is_return (operation.Block x) = is_stack x.rn
is_return (operation.Branch x) = false
is_return (operation.Swi x) = false
is_return (operation.UndefinedTransfer x) = false
is_return (operation.CoprocessorTransfer x) = false
is_return (operation.Coprocessor x) = false

-- ## Writers of R15

-- it writes R15, other than a branch or a call, and does not look like a return
abbrev pub is_odd_writer : Operation → Bool
is_odd_writer o = writes_pc o && not (is_return o)

-- ADD PC,PC,Rx,LSL #2: a table of branches follows it
abbrev pub is_table_jump : Operation → Bool
is_table_jump = is_data_register (λ x. is_add x.opcode && is_pc x.rn && is_pc x.rd && is_lsl_by 2 x)

-- MOV R14,PC: control comes back to the second word after it
abbrev pub keeps_return_address : Operation → Bool
keeps_return_address =
    is_data_register (λ x. is_mov x.opcode && is_link x.rd && is_pc x.rm && is_lsl_by 0 x)

-- ## Flags

-- a word that writes R15 restores the flags with it: data processing with S, or a block with ^
abbrev pub restores_flags : Operation → Bool
restores_flags (operation.Multiply x) = false
restores_flags (operation.DataRegister x) = x.sets_flags
restores_flags (operation.DataRegisterShift x) = x.sets_flags
restores_flags (operation.DataImmediate x) = x.sets_flags
restores_flags (operation.SingleImmediate x) = false
restores_flags (operation.SingleRegister x) = false
restores_flags (operation.Block x) = x.user
restores_flags (operation.Branch x) = false
restores_flags (operation.Swi x) = false
restores_flags (operation.UndefinedTransfer x) = false
restores_flags (operation.CoprocessorTransfer x) = false
restores_flags (operation.Coprocessor x) = false

abbrev pub leaves_flags : Operation → Bool
leaves_flags o = not (restores_flags o)

-- ## Addresses put into R14

-- ADD or SUB of PC into R14, as ADR makes them
abbrev pub offsets_pc : Opcode → (rn rd : Register) → Bool
offsets_pc o rn rd = (is_add o || is_sub o) && (is_pc rn && is_link rd)

-- such an operation, with a number or with a register, shifted or not; or a load of R14 from a word or a byte
-- so many bytes from PC
abbrev pub sets_link_by_pc : Operation → Bool
sets_link_by_pc (operation.Multiply x) = false
sets_link_by_pc (operation.DataRegister x) = offsets_pc x.opcode x.rn x.rd
sets_link_by_pc (operation.DataRegisterShift x) = offsets_pc x.opcode x.rn x.rd
sets_link_by_pc (operation.DataImmediate x) = offsets_pc x.opcode x.rn x.rd
sets_link_by_pc (operation.SingleImmediate x) = x.load && is_link x.rd && is_pc x.rn
sets_link_by_pc (operation.SingleRegister x) = false
sets_link_by_pc (operation.Block x) = false
sets_link_by_pc (operation.Branch x) = false
sets_link_by_pc (operation.Swi x) = false
sets_link_by_pc (operation.UndefinedTransfer x) = false
sets_link_by_pc (operation.CoprocessorTransfer x) = false
sets_link_by_pc (operation.Coprocessor x) = false

-- such an ADD or SUB, or MOV R14,PC
abbrev pub makes_address : Operation → Bool
makes_address (operation.Multiply x) = false
makes_address (operation.DataRegister x) =
    offsets_pc x.opcode x.rn x.rd || keeps_return_address (operation.DataRegister x)
makes_address (operation.DataRegisterShift x) = offsets_pc x.opcode x.rn x.rd
makes_address (operation.DataImmediate x) = offsets_pc x.opcode x.rn x.rd
makes_address (operation.SingleImmediate x) = false
makes_address (operation.SingleRegister x) = false
makes_address (operation.Block x) = false
makes_address (operation.Branch x) = false
makes_address (operation.Swi x) = false
makes_address (operation.UndefinedTransfer x) = false
makes_address (operation.CoprocessorTransfer x) = false
makes_address (operation.Coprocessor x) = false
