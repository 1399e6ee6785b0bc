use Rattle.std.proofs.Common.{◌≡◌, ◌∙◌, ap}
use Rattle.arm2_effect.specs.ProgramCounter.{address_of}
use Rattle.arm2_exec.specs.State.{State}
use Rattle.arm2_exec.specs.Step.{address_in}
use Rattle.arm2_exec.proofs.StepLemmas.{goes_on, going_step, stopped_step, stops}
use Rattle.arm2_exec.proofs.machine.Machine.step_traced.Goals as goal

pub returns-in-Stopped-clause-step : goal.returns-in-Stopped-clause-step
returns-in-Stopped-clause-step c =
    let p = c.self.inside.processor in
    let s : State = record { regs = p.registers; bus = p.bus; profile = p.prices.profile } in
    let from : c.address_of-from.result ≡ address_in s.regs = c.address_of-from.ensures.address ∙ ap address_of c.get.ensures.word in
    let w = rw (c.rom_times-self-inside.ensures, c.lines.ensures) at c.work-made.ensures.worked in
    rw (← c.self.view_is) (rw (from, c.set_line_state.ensures, c.line_state-lines.ensures.lines, c.line_state-lines.ensures.a2_rose) (stopped_step s c.args.input c.work-made.result.done c.work-made.new.processor w (stops c.work-made.result.done.kind c.in-Stopped.field-0 c.in-Stopped.is)))

pub returns-clause-step : goal.returns-clause-step
returns-clause-step c =
    let p = c.self.inside.processor in
    let s : State = record { regs = p.registers; bus = p.bus; profile = p.prices.profile } in
    let from : c.address_of-from.result ≡ address_in s.regs = c.address_of-from.ensures.address ∙ ap address_of c.get.ensures.word in
    let to : c.address_of.result ≡ address_in c.work-made.new.processor.registers = c.address_of.ensures.address ∙ ap address_of c.get-2.ensures.word in
    let w = rw (c.rom_times-self-inside.ensures, c.lines.ensures) at c.work-made.ensures.worked in
    rw (← c.self.view_is) (rw (from, to, c.elapse.ensures, c.burst_ticks-stretched.ensures.ticks) (going_step s c.args.input c.work-made.result.done c.work-made.new.processor w (goes_on c.work-made.result.done.kind c.in_default.not-Stopped)))
