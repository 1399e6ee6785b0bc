use Rattle.std.proofs.Common.{ap, ◌∙◌, arith}
use Rattle.std.specs.Prelude.{unwrap_or}
use Rattle.machine_file.proofs.InputLemmas.{so_far_none, so_far_step}
use Rattle.machine_file.proofs.events.Schedule.inputs.Goals as goal

pub loop-step-init : goal.loop-step-init
loop-step-init c =
    so_far_none c.args.self.now c.empty-lines.result c.self.inside.port c.new-inputs.result.items c.new-inputs.ensures.items (c.empty-lines.ensures tt) (ap (λ s. s.port) c.self.view_is)

pub loop-step-preserved : goal.loop-step-preserved
loop-step-preserved c =
    so_far_step
    c.args.self.now
    c.loop-step.step
    c.loop-step.lines
    c.unwrap_or-lines.result
    c.loop-step.port
    c.unwrap_or-port.result
    c.bursts_of_step.result
    c.loop-step.inputs.items
    c.push.new.self.items
    c.loop-step.invariant
    (c.unwrap_or-lines.ensures ∙ ap (λ o. unwrap_or o c.loop-step.lines) c.lines_of_step.ensures)
    (c.unwrap_or-port.ensures ∙ ap (λ o. unwrap_or o c.loop-step.port) c.port_of_step.ensures)
    c.bursts_of_step.ensures
    c.in_ok-push.ensures.items

pub returns : goal.returns
returns c =
    let steps = ap (λ s. s.steps) c.self.view_is in
    record { count = omega (arith, c.loop-step.invariant.count, steps, c.loop-step.auto.step-end, c.loop-step-test.false); each = c.loop-step.invariant.each }
