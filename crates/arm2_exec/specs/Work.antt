-- What the code of a step answers.
use Rattle.std.specs.Prelude.{ℕ, Option}
use Rattle.arm2_effect.specs.declared.exceptions.Vector.{Vector}
use Rattle.arm2_effect.specs.declared.step_end.Done.{Done}
use Rattle.arm2_transfer.specs.declared.processor.Processor.{Processor}
use Rattle.arm2_transfer.specs.Moved.{Moved, IsMoved}
use Rattle.arm2_exec.specs.Step.{ObeysFetched, Works}

-- the answer and the processor after it are those of one thing that the word, or the step, may do
pub record Obeyed (word : Option ℕ) (before : Processor) (done : Done) (after : Processor) : Type 0 where
  pub moved : Moved
  pub obeys : ObeysFetched word before.port before.registers before.bus moved
  pub is : IsMoved before done after moved

pub record Worked (interrupt : Option Vector) (before : Processor) (done : Done) (after : Processor)
    : Type 0 where
  pub moved : Moved
  pub works : Works interrupt before.port before.registers before.bus moved
  pub is : IsMoved before done after moved
