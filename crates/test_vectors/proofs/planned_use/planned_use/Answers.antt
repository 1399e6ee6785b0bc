use Rattle.std.proofs.Common.{◌≡◌, ◌∙◌, ◌<◌, ℕ, List, Option, ap, sym, subst, length, arith}
use Rattle.test_vectors.specs.Shape.{IsUseOf, use_if}
use Rattle.test_vectors.specs.Writing.{FewWords}
use Rattle.test_vectors.specs.declared.bus_use.BusUse.{BusUse}
use Rattle.test_vectors.proofs.UseLaws.{instruction_used, none_used, unallocated_used}
use Rattle.test_vectors.proofs.planned_use.planned_use.Goals as goal

pub returns-in_default : goal.returns-in_default
returns-in_default c =
    let long : 26 < length c.args.machine.now.regs = omega (arith, c.get-all.ensures.all, ap length c.registers-registers.ensures) in
    record {
      few = subst FewWords (sym c.straight_on.ensures) tt;
      does = λ i stepped after step.
          subst (λ (u : BusUse). IsUseOf u c.args.machine.now i stepped after step) (sym c.straight_on.ensures)
          (none_used c.args.machine.now i stepped after step long (sym c.in_default.ensures));
    }

pub returns-in-Err : goal.returns-in-Err
returns-in-Err c =
    let long : 26 < length c.args.machine.now.regs = omega (arith, c.get-all.ensures.all, ap length c.registers-registers.ensures) in
    record {
      few = subst FewWords (sym c.straight_on-in-Err.ensures) tt;
      does = λ i stepped after step.
          subst (λ (u : BusUse). IsUseOf u c.args.machine.now i stepped after step) (sym c.straight_on-in-Err.ensures)
          (unallocated_used c.args.machine.now i stepped after step long c.in-Some.word (sym c.in-Some.ensures) _
          c.in-Err.ensures.unallocated);
    }

pub returns-in-Ok : goal.returns-in-Ok
returns-in-Ok c =
    let long : 26 < length c.args.machine.now.regs = omega (arith, c.get-all.ensures.all, ap length c.registers-registers.ensures) in
    record {
      few = c.use_if.ensures.few;
      does = λ i stepped after step.
          let used =
          instruction_used c.args.machine.now i stepped after step long c.in-Some.word (sym c.in-Some.ensures) c.in-Ok.instr
          c.in-Ok.ensures.found in
          subst (λ (u : BusUse). IsUseOf u c.args.machine.now i stepped after step)
          (sym (c.use_if.ensures.does ∙ ap (λ (regs : List ℕ). use_if c.in-Ok.instr regs) c.registers-registers.ensures)) used;
    }
