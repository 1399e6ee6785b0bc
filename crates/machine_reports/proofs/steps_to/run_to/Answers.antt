use Rattle.std.proofs.Common.{◌≡◌, ◌∙◌, ◌+◌, ℕ, List, None, ap, arith, drop, length, subst, sym}
use Rattle.std.specs.Prelude.{slice_index_or}
use Rattle.std.proofs.lemmas.List.{drop_more, take_more}
use Rattle.arm2_exec.specs.Run.{with_one_step}
use Rattle.arm2_exec.specs.declared.machine.Input.{Input}
use Rattle.arm2_exec.specs.declared.machine.Ran.{Ran}
use Rattle.bus_ticks.specs.declared.profile.Profile.{Profile}
use Rattle.machine_reports.proofs.RunToLemmas.{Going, all_made, at_start, goes_on, is_stopped, reached}
use Rattle.machine_reports.proofs.steps_to.run_to.Goals as goal

abbrev input_at : List Input → ℕ → Input
input_at inputs index =
    slice_index_or inputs index (record { bursts = 0; lines = record { 0 = 0 }; port = 0 })

pub loop-input-init : goal.loop-input-init
loop-input-init c = (
  subst (λ (ran : Ran). Going c.args.to c.args.machine.now c.args.inputs.now 0 ran c.args.machine.now)
      (sym c.new-ran.ensures) (at_start c.args.to c.args.machine.now c.args.inputs.now),
  rw c.new-ran.ensures (omega arith, omega arith, omega arith),
)

pub returns-then-address-to : goal.returns-then-address-to
returns-then-address-to c =
    let n = c.loop-input.input-index in (
      n,
      reached c.args.to c.args.machine.now c.args.inputs.now n c.loop-input.ran c.loop-input.machine
          c.loop-input.invariant.0 (sym c.address.ensures.address ∙ c.if-address-to.true),
    )

pub returns-in-Stopped : goal.returns-in-Stopped
returns-in-Stopped c =
    let inputs = c.args.inputs.now in
    let n = c.loop-input.input-index in (
      length inputs,
      is_stopped c.args.to c.args.machine.now inputs n c.loop-input.ran c.loop-input.machine
          c.loop-input.invariant.0 c.step-stepped.new.self (input_at inputs n)
          (λ at. c.if-address-to.false (c.address.ensures.address ∙ at)) (drop (n + 1) inputs)
          (record { stepped = c.step-stepped.result; word = None }) c.in-Stopped.why c.loop-input-test.true
          (drop_more inputs n _ c.loop-input-test.true) c.step-stepped.ensures.step c.in-Stopped.is,
    )

pub loop-input-preserved : goal.loop-input-preserved
loop-input-preserved c =
    let inputs = c.args.inputs.now in
    let n = c.loop-input.input-index in
    let now = c.loop-input.machine in
    let input = input_at inputs n in
    let ran = c.loop-input.ran in
    let stepped = c.step-stepped.result in
    let counted : c.count.new.self ≡ with_one_step now.profile.burst input stepped ran =
    c.count.ensures.step
    ∙ ap (λ (p : Profile). with_one_step p.burst input stepped ran) c.profile-profile.ensures in
    let on =
    goes_on c.args.to c.args.machine.now inputs n ran now c.loop-input.invariant.0 c.step-stepped.new.self input
    (λ at. c.if-address-to.false (c.address.ensures.address ∙ at)) stepped
    (take_more inputs n _ c.loop-input-test.true) c.step-stepped.ensures.step c.in_default.not-Stopped in (
      subst (λ (r : Ran). Going c.args.to c.args.machine.now inputs (n + 1) r c.step-stepped.new.self)
          (sym counted) on,
      c.count.ensures.bound n c.loop-input.invariant.1,
    )

pub returns : goal.returns
returns c =
    let n = c.loop-input.input-index in (
      n,
      all_made c.args.to c.args.machine.now c.args.inputs.now n c.loop-input.ran c.loop-input.machine
          c.loop-input.invariant.0 (omega (arith, c.loop-input-test.false)),
    )
