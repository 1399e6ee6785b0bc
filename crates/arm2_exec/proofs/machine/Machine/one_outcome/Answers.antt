use Rattle.std.proofs.Common.{◌∙◌, sym}
use Rattle.arm2_exec.proofs.StepLemmas.{outcome_of_none, outcome_of_word}
use Rattle.arm2_exec.proofs.machine.Machine.one_outcome.Goals as goal

pub returns-in-Some : goal.returns-in-Some
returns-in-Some c =
    outcome_of_word c.args.self.now c.args.input c.in-Some.word c.decode-instruction.result (sym c.fetched.ensures ∙ c.in-Some.is) c.decode-instruction.ensures.found c.decode-instruction.ensures.unallocated

pub returns-in_default : goal.returns-in_default
returns-in_default c =
    outcome_of_none c.args.self.now c.args.input (sym c.fetched.ensures ∙ c.in_default.is)
