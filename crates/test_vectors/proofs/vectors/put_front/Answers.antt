use Rattle.std.proofs.Common.{ℕ, List, ap}
use Rattle.test_vectors.specs.Writing.{front_text}
use Rattle.test_vectors.proofs.ChainLaws.{as_text, two}
use Rattle.test_vectors.proofs.vectors.put_front.Goals as goal

pub returns : goal.returns
returns g c = (
  c.put_name.ensures.0,
  c.put_name.ensures.1,
  as_text g.O.Output.taken g.O.Output.failures (two g.O.Output.taken g.O.Output.failures c.put.ensures (two g.O.Output.taken g.O.Output.failures c.put_name.ensures.2 (two g.O.Output.taken g.O.Output.failures c.put-2.ensures c.put_registers.ensures)))
      (ap (λ (regs : List ℕ). front_text c.put_name.ensures.0 regs) c.registers.ensures),
)
