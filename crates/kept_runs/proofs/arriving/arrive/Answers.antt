use Rattle.std.proofs.Common.{◌∙◌, ℕ, ◌+◌, sym, ap, subst}
use Rattle.arm2_exec.specs.Run.{why_stopped}
use Rattle.kept_runs.specs.Arriving.{ArrivesAfter}
use Rattle.kept_runs.proofs.ArrivalLemmas.{is_there, one_on, stopped_there, why_none, why_some}
use Rattle.kept_runs.proofs.FitLemmas.{fit_after}
use Rattle.kept_runs.proofs.arriving.arrive.Goals as goal

pub returns-then-address-clause-arrives : goal.returns-then-address-clause-arrives
returns-then-address-clause-arrives c =
    let now = c.loop-input.machine in
    subst (λ (k : ℕ). ArrivesAfter c.args.address c.args.machine.now c.args.inputs.now k now) (sym c.loop-input.invariant.counted)
    (is_there c.args.address c.args.machine.now c.args.inputs.now c.loop-input.input-index now c.loop-input.invariant.so_far (sym c.address.ensures.address ∙ c.if-address.true))

pub returns-then-is_stopped-clause-arrives : goal.returns-then-is_stopped-clause-arrives
returns-then-is_stopped-clause-arrives c =
    let w = why_some (why_stopped c.step-stepped.result.kind) (sym c.is_stopped.ensures ∙ c.if-is_stopped.true) in
    stopped_there c.args.address c.args.machine.now c.args.inputs.now c.loop-input.input-index c.loop-input.machine c.loop-input.invariant.so_far _ c.loop-input-test.true
    c.step-stepped.result c.step-stepped.new.self c.step-stepped.ensures.step (λ there. c.if-address.false (c.address.ensures.address ∙ there)) w.0 w.1

pub loop-input-preserved : goal.loop-input-preserved
loop-input-preserved c = record {
  counted = ap (λ n. n + 1) c.loop-input.invariant.counted;
  so_far =
      one_on c.args.address c.args.machine.now c.args.inputs.now c.loop-input.input-index c.loop-input.machine c.loop-input.invariant.so_far _ c.loop-input-test.true
      c.step-stepped.result c.step-stepped.new.self c.step-stepped.ensures.step (λ there. c.if-address.false (c.address.ensures.address ∙ there))
      (why_none (why_stopped c.step-stepped.result.kind) (sym c.is_stopped.ensures ∙ c.if-is_stopped.false));
  fit = λ flow machine. fit_after c.loop-input.machine _ c.step-stepped.result c.step-stepped.new.self c.step-stepped.ensures.step flow (c.loop-input.invariant.fit flow machine);
}

pub returns-then-address-2-clause-arrives : goal.returns-then-address-2-clause-arrives
returns-then-address-2-clause-arrives c =
    let now = c.loop-input.machine in
    subst (λ (k : ℕ). ArrivesAfter c.args.address c.args.machine.now c.args.inputs.now k now) (sym c.loop-input.invariant.counted)
    (is_there c.args.address c.args.machine.now c.args.inputs.now c.loop-input.input-index now c.loop-input.invariant.so_far (sym c.address-2.ensures.address ∙ c.if-address-2.true))

pub returns-then-is_stopped-clause-machine : goal.returns-then-is_stopped-clause-machine
returns-then-is_stopped-clause-machine c =
    λ flow machine. fit_after c.loop-input.machine _ c.step-stepped.result c.step-stepped.new.self c.step-stepped.ensures.step flow (c.loop-input.invariant.fit flow machine)
