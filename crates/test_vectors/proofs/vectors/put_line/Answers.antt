use Rattle.std.proofs.Common.{◌++◌, ℕ, List, ap, codes}
use Rattle.test_vectors.proofs.ChainLaws.{as_text, two}
use Rattle.test_vectors.proofs.vectors.put_line.Goals as goal

pub returns : goal.returns
returns g c = (
  c.disassemble-line.result,
  c.disassemble-line.ensures,
  as_text g.O.Output.taken g.O.Output.failures (two g.O.Output.taken g.O.Output.failures c.put.ensures c.put-2.ensures) (ap (λ (t : List ℕ). codes " " ++ t) c.items.ensures.bytes),
)
