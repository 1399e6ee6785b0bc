use Rattle.std.proofs.Common.{◌∙◌, ◌++◌, ℕ, ap, codes}
use Rattle.json_trace.specs.Json.{ended}
use Rattle.arm2_effect.specs.declared.modes.Mode.TheVariants.{User, Fiq, Irq, Svc}
use Rattle.test_vectors.specs.Vector.{bank, r15_members}
use Rattle.test_vectors.proofs.TextLaws.{registers_put}
use Rattle.test_vectors.proofs.ChainLaws.{as_text, two}
use Rattle.test_vectors.proofs.states.put_registers.Goals as goal

pub returns : goal.returns
returns g c =
    let regs = c.args.registers.now in
    as_text g.O.Output.taken g.O.Output.failures
    (two g.O.Output.taken g.O.Output.failures c.put.ensures (two g.O.Output.taken g.O.Output.failures c.put_bank.ensures (two g.O.Output.taken g.O.Output.failures c.put_bank-2.ensures (two g.O.Output.taken g.O.Output.failures c.put_bank-3.ensures (two g.O.Output.taken g.O.Output.failures c.put_bank-4.ensures c.put_r15.ensures)))))
    (ap (λ (r : ℕ). codes "{" ++ (ended (bank User regs 0 15) ++ (ended (bank Fiq regs 8 7) ++ (ended (bank Irq regs 13 2) ++ (ended (bank Svc regs 13 2) ++ ended (r15_members r)))))) c.get.ensures.word
    ∙ registers_put regs)
