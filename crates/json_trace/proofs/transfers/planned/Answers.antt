use Rattle.std.proofs.Common.{◌≡◌, ◌∙◌, ℕ, List, Option, ap, sym, subst}
use Rattle.json_trace.specs.Facts.{carried}
use Rattle.json_trace.specs.Planned.{planned_if}
use Rattle.json_trace.specs.StepLine.{transfers_in}
use Rattle.json_trace.specs.declared.moved_words.Transfers.{Transfers}
use Rattle.json_trace.proofs.TransferLaws.{instruction_moves, none_moves, unallocated_moves}
use Rattle.json_trace.proofs.transfers.planned.Goals as goal

pub returns-in_default : goal.returns-in_default
returns-in_default c = λ i stepped after step.
    none_moves c.args.machine.now i stepped after step (sym c.in_default.ensures)

pub returns-in-Err : goal.returns-in-Err
returns-in-Err c = λ i stepped after step.
    unallocated_moves c.args.machine.now i stepped after step c.in-Some.word (sym c.in-Some.ensures) _
    c.in-Err.ensures.unallocated

pub returns-in-Ok : goal.returns-in-Ok
returns-in-Ok c = λ i stepped after step.
    let moved =
    instruction_moves c.args.machine.now i stepped after step c.in-Some.word (sym c.in-Some.ensures) c.in-Ok.instr
    c.in-Ok.ensures.found in
    subst (λ (planned : Option Transfers). transfers_in step.moved.accesses ≡ carried stepped.kind planned)
    (sym (c.planned_if.ensures ∙ ap (λ (regs : List ℕ). planned_if c.in-Ok.instr regs) c.registers.ensures)) moved
