use Rattle.std.proofs.Common.{inl}
use Rattle.control_flow.specs.Kinds.{action}
use Rattle.control_flow.proofs.WorkLemmas.{action_fits}
use Rattle.control_flow.proofs.actions.action_of.Goals as goal

pub returns-in-Ok-clause-value : goal.returns-in-Ok-clause-value
returns-in-Ok-clause-value c = inl (c.in-Ok.instr, c.in-Ok.ensures.found, λ i. action c.in-Ok.instr.cond (c.kind_of.ensures i) (c.work_of.ensures i) (c.base_of.ensures i))

pub returns-in-Ok-clause-fits : goal.returns-in-Ok-clause-fits
returns-in-Ok-clause-fits c =
    action_fits c.args.word _ (inl (c.in-Ok.instr, c.in-Ok.ensures.found, λ i. action c.in-Ok.instr.cond (c.kind_of.ensures i) (c.work_of.ensures i) (c.base_of.ensures i)))
