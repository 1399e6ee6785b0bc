use Rattle.std.proofs.Common.{refl}
use Rattle.text_trace.specs.TraceText.{registers_text}
use Rattle.machine_reports.proofs.steps_to.write_registers_to.Goals as goal

pub returns : goal.returns
returns c = (
  registers_text c.run_to-ran.new.machine.regs,
  record { steps = c.run_to-ran.ensures.0; runs = c.run_to-ran.ensures.1; shows = refl },
  c.in_ok-write_registers.ensures,
)
