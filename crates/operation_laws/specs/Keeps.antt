-- What any instruction leaves as it is, where its condition holds and it ends with neither an exception nor a
-- stop (VL86C010 data sheet).
use Rattle.std.specs.Prelude.{◌≡◌, ℕ, Bool, false, ◌&&◌, ◌||◌, List, length}
use Rattle.arm2_decode.specs.Names.{is_link, is_pc, register_number}
use Rattle.arm2_decode.specs.Writers.{writes}
use Rattle.arm2_decode.specs.declared.instr.Operation.{Operation}
use Rattle.arm2_decode.specs.declared.instr.Operation.TheVariants as row
use Rattle.arm2_decode.specs.declared.names.Register.{Register}
use Rattle.arm2_effect.specs.declared.step_end.Kind.TheVariants.{Plain}
use Rattle.arm2_effect.specs.Modes.{register_in}
use Rattle.arm2_effect.specs.Operands.{current_in, current_mode}
use Rattle.arm2_transfer.specs.declared.bus.Bus.{Bus}
use Rattle.arm2_transfer.specs.Operations.{operation_moved}
use Rattle.operation_laws.specs.Leaves.{loads_pc}

-- the PSR and the mode of a word come into R15, and with them maybe another bank of registers
abbrev pub restores : Operation → Bool
restores (row.DataRegister x) = x.sets_flags && is_pc x.rd
restores (row.DataRegisterShift x) = x.sets_flags && is_pc x.rd
restores (row.DataImmediate x) = x.sets_flags && is_pc x.rd
restores (row.Block x) = loads_pc x && x.user
restores (row.Multiply x) = false
restores (row.SingleImmediate x) = false
restores (row.SingleRegister x) = false
restores (row.Branch x) = false
restores (row.Swi x) = false
restores (row.UndefinedTransfer x) = false
restores (row.CoprocessorTransfer x) = false
restores (row.Coprocessor x) = false

-- a call writes R14
abbrev pub links : Operation → Bool
links (row.Branch x) = x.link
links (row.Multiply x) = false
links (row.DataRegister x) = false
links (row.DataRegisterShift x) = false
links (row.DataImmediate x) = false
links (row.SingleImmediate x) = false
links (row.SingleRegister x) = false
links (row.Block x) = false
links (row.Swi x) = false
links (row.UndefinedTransfer x) = false
links (row.CoprocessorTransfer x) = false
links (row.Coprocessor x) = false

-- the instruction may change the register
abbrev pub changes : Operation → Register → Bool
changes o register = writes o register || (links o && is_link register)

-- As many registers; the mode, unless another is restored; and in the bank of the mode before, each register but
-- R15 that it does not change.
pub record KeepsOthers (o : Operation) (before after : List ℕ) : Type 0 where
  pub as_many : length after ≡ length before
  pub mode : restores o ≡ false → current_mode after ≡ current_mode before
  pub others : (r : Register) → is_pc r ≡ false → changes o r ≡ false
      → register_in (current_mode before) (register_number r) after ≡ current_in r before

abbrev pub KeepLaw : Type 0
KeepLaw =
    (o : Operation) (port : ℕ) (before : List ℕ) (bus : Bus) → length before ≡ 27
    → (operation_moved o port before bus).kind ≡ Plain
    → KeepsOthers o before (operation_moved o port before bus).regs
