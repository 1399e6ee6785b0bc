use Rattle.std.proofs.Common.{◌∙◌, ◌++◌, ℕ, List, Option, ap, codes, refl, subst}
use Rattle.std.specs.Fmt.{decimal}
use Rattle.arm2_exec.specs.Step.{address_in}
use Rattle.assembler.specs.ShownLines.{IsShown}
use Rattle.test_vectors.specs.Vector.{IsName}
use Rattle.test_vectors.proofs.ChainLaws.{as_text, two}
use Rattle.test_vectors.proofs.vectors.put_name.Goals as goal

pub returns-in-Some : goal.returns-in-Some
returns-in-Some g c =
    let at = address_in c.args.machine.now.regs in
    let line = c.put_line.ensures.0 in
    let shown = subst (λ (a : ℕ). IsShown c.in-Some.word a line) c.address.ensures.address c.put_line.ensures.1 in
    let name = decimal c.args.number ++ (codes " " ++ line) in (
      name,
      subst (λ (w : Option ℕ). IsName c.args.number w at name) c.in-Some.ensures (line, shown, refl),
      as_text g.O.Output.taken g.O.Output.failures (two g.O.Output.taken g.O.Output.failures c.put.ensures c.put_line.ensures.2)
          (ap (λ (t : List ℕ). t ++ (codes " " ++ line)) (c.as_bytes.ensures.value ∙ c.format.ensures.text)),
    )

pub returns-in-None : goal.returns-in-None
returns-in-None g c =
    let at = address_in c.args.machine.now.regs in
    let name = decimal c.args.number in (
      name,
      subst (λ (w : Option ℕ). IsName c.args.number w at name) c.in-None.ensures refl,
      as_text g.O.Output.taken g.O.Output.failures c.put.ensures (c.as_bytes.ensures.value ∙ c.format.ensures.text),
    )
