use Rattle.std.proofs.Common.{◌≡◌, ◌∙◌, None, Some, ap, refl, sym}
use Rattle.arm2_effect.specs.Modes.{r15_in}
use Rattle.arm2_exec.specs.Step.{fetched, interrupt_due}
use Rattle.arm2_exec.proofs.WorkLemmas.{worked_interrupt, worked_word}
use Rattle.arm2_exec.proofs.step_work.work.Goals as goal

pub returns-in-Some : goal.returns-in-Some
returns-in-Some c =
    let p = c.args.processor.now in
    let due : interrupt_due p.bus (r15_in p.registers) ≡ Some c.in-Some.vector =
    ap (interrupt_due p.bus) (sym c.get-r15.ensures.word) ∙ sym c.interrupt_of.ensures ∙ c.in-Some.is in
    record {
      worked = worked_interrupt p c.take-done.result c.take-done.new.self _ c.in-Some.vector due c.take-done.ensures.effect;
      word = rw due refl;
    }

pub returns : goal.returns
returns c =
    let p = c.args.processor.now in
    let none : interrupt_due p.bus (r15_in p.registers) ≡ None =
    ap (interrupt_due p.bus) (sym c.get-r15.ensures.word) ∙ sym c.interrupt_of.ensures ∙ c.in_default.is in
    let word : c.fetched-word.result ≡ fetched p.bus.memc (r15_in p.registers) =
    c.fetched-word.ensures ∙ ap (fetched p.bus.memc) c.get-r15.ensures.word in
    record {
      worked = worked_word p c.obey-done.result c.obey-done.new.processor _ c.fetched-word.result none word c.obey-done.ensures;
      word = rw none word;
    }
