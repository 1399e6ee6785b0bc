-- What any instruction does whose condition holds (VL86C010 data sheet, but where the definitions of its
-- kind say otherwise).
use Rattle.std.specs.Prelude.{ℕ, List}
use Rattle.arm2_decode.specs.declared.instr.Operation.{Operation}
use Rattle.arm2_decode.specs.declared.instr.Operation.TheVariants.{Multiply, DataRegister, DataRegisterShift}
use Rattle.arm2_decode.specs.declared.instr.Operation.TheVariants.{DataImmediate, SingleImmediate}
use Rattle.arm2_decode.specs.declared.instr.Operation.TheVariants.{SingleRegister, Block, Branch, Swi}
use Rattle.arm2_decode.specs.declared.instr.Operation.TheVariants.{UndefinedTransfer, CoprocessorTransfer}
use Rattle.arm2_decode.specs.declared.instr.Operation.TheVariants.{Coprocessor}
use Rattle.arm2_effect.specs.Operations.{operation_effect}
use Rattle.arm2_transfer.specs.declared.bus.Bus.{Bus}
use Rattle.arm2_transfer.specs.Moved.{Moved, on_bus}
use Rattle.arm2_transfer.specs.Single.{single_moved, of_immediate, of_register}
use Rattle.arm2_transfer.specs.Block.{block_moved}

-- it leaves the bus as it is
abbrev pub bus_kept : Operation → List ℕ → Bus → Moved
bus_kept o regs bus = on_bus bus (operation_effect o regs)

-- loads and stores move words; every other instruction leaves the bus as it is
abbrev pub operation_moved : Operation → (port : ℕ) → List ℕ → Bus → Moved
operation_moved (Multiply x) port regs bus = bus_kept (Multiply x) regs bus
operation_moved (DataRegister x) port regs bus = bus_kept (DataRegister x) regs bus
operation_moved (DataRegisterShift x) port regs bus = bus_kept (DataRegisterShift x) regs bus
operation_moved (DataImmediate x) port regs bus = bus_kept (DataImmediate x) regs bus
operation_moved (SingleImmediate x) port regs bus = single_moved (of_immediate x) port regs bus
operation_moved (SingleRegister x) port regs bus = single_moved (of_register x regs) port regs bus
operation_moved (Block x) port regs bus = block_moved x port regs bus
operation_moved (Branch x) port regs bus = bus_kept (Branch x) regs bus
operation_moved (Swi x) port regs bus = bus_kept (Swi x) regs bus
operation_moved (UndefinedTransfer x) port regs bus = bus_kept (UndefinedTransfer x) regs bus
operation_moved (CoprocessorTransfer x) port regs bus = bus_kept (CoprocessorTransfer x) regs bus
operation_moved (Coprocessor x) port regs bus = bus_kept (Coprocessor x) regs bus
