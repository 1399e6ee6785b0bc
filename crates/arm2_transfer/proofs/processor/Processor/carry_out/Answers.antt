use Rattle.arm2_decode.specs.declared.instr.Operation.TheVariants as row
use Rattle.arm2_transfer.proofs.MovedCases.{changes_nothing}
use Rattle.arm2_transfer.proofs.processor.Processor.carry_out.Goals as goal

pub returns-in-SingleImmediate-clause-stopped : goal.returns-in-SingleImmediate-clause-stopped
returns-in-SingleImmediate-clause-stopped c = changes_nothing (row.SingleImmediate c.in-SingleImmediate.fields) _ _ _ c.single_immediate.ensures

pub returns-in-SingleRegister-clause-stopped : goal.returns-in-SingleRegister-clause-stopped
returns-in-SingleRegister-clause-stopped c = changes_nothing (row.SingleRegister c.in-SingleRegister.fields) _ _ _ c.single_register.ensures

pub returns-in-Block-clause-stopped : goal.returns-in-Block-clause-stopped
returns-in-Block-clause-stopped c = changes_nothing (row.Block c.in-Block.transfer) _ _ _ c.block_moved.ensures
