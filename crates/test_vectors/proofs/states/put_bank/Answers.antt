use Rattle.std.proofs.Common.{◌∙◌, ℕ, ap}
use Rattle.arm2_effect.specs.Modes.{register_in}
use Rattle.test_vectors.proofs.TextLaws.{bank_next}
use Rattle.test_vectors.proofs.ChainLaws.{as_text, two}
use Rattle.test_vectors.proofs.states.put_bank.Goals as goal

pub loop-k-preserved : goal.loop-k-preserved
loop-k-preserved g c =
    as_text g.O.Output.taken g.O.Output.failures (two g.O.Output.taken g.O.Output.failures c.loop-k.invariant c.put_register.ensures)
    (bank_next c.args.mode c.args.registers.now c.args.first c.loop-k.k c.read.result
    (c.read.ensures ∙ ap (λ (n : ℕ). register_in c.args.mode n c.args.registers.now) c.of.ensures))
