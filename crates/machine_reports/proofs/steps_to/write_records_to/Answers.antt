use Rattle.std.proofs.Common.{◌≡◌, ◌∙◌, ◌+◌, ℕ, List, ap, arith, drop, string_bytes, subst, sym}
use Rattle.std.specs.Prelude.{slice_index_or}
use Rattle.std.proofs.lemmas.List.{drop_more, take_more}
use Rattle.arm2_exec.specs.Run.{with_one_step}
use Rattle.arm2_exec.specs.declared.machine.Input.{Input}
use Rattle.arm2_exec.specs.declared.machine.Ran.{Ran}
use Rattle.asm_text.specs.Appended.{Appends}
use Rattle.bus_ticks.specs.declared.profile.Profile.{Profile}
use Rattle.json_trace.specs.Facts.{facts_with}
use Rattle.json_trace.proofs.RecordLaws.{FrontRecorded, front_recorded}
use Rattle.machine_reports.proofs.RunToLemmas.{Going, all_made, goes_on, reached, records_here, records_stopped}
use Rattle.machine_reports.proofs.steps_to.write_records_to.Goals as goal

abbrev input_at : List Input → ℕ → Input
input_at inputs index =
    slice_index_or inputs index (record { bursts = 0; lines = record { 0 = 0 }; port = 0 })

pub returns-then-address-to : goal.returns-then-address-to
returns-then-address-to c =
    let start = c.args.machine.now in
    let inputs = c.args.inputs.now in
    let n = c.loop-input.input-index in
    let ran = c.loop-input.ran in
    let now = c.loop-input.machine in
    let so_far = c.loop-input.invariant.0 in
    records_here c.args.to start inputs n ran now so_far (string_bytes c.args.out.now)
    (string_bytes c.loop-input.out) c.loop-input.invariant.2
    (reached c.args.to start inputs n ran now so_far (sym c.address.ensures.address ∙ c.if-address-to.true))

pub returns-in-Stopped : goal.returns-in-Stopped
returns-in-Stopped c =
    let inputs = c.args.inputs.now in
    let n = c.loop-input.input-index in
    let made = c.step_recorded-made in
    records_stopped c.args.to c.args.machine.now inputs n c.loop-input.ran c.loop-input.machine
    c.loop-input.invariant.0 made.new.machine (input_at inputs n)
    (λ at. c.if-address-to.false (c.address.ensures.address ∙ at)) (drop (n + 1) inputs) made.result.traced
    c.in-Stopped.why c.loop-input-test.true (drop_more inputs n _ c.loop-input-test.true) made.ensures.step.0
    c.in-Stopped.is (facts_with made.result made.new.machine) made.ensures.step.1 (string_bytes c.args.out.now)
    (string_bytes c.loop-input.out) (string_bytes c.put_step.new.out) c.loop-input.invariant.2
    c.in_ok-put_step.ensures

pub loop-input-preserved : goal.loop-input-preserved
loop-input-preserved c =
    let start = c.args.machine.now in
    let inputs = c.args.inputs.now in
    let n = c.loop-input.input-index in
    let now = c.loop-input.machine in
    let made = c.step_recorded-made in
    let next = made.new.machine in
    let input = input_at inputs n in
    let ran = c.loop-input.ran in
    let stepped = made.result.traced.stepped in
    let step = made.ensures.step.0 in
    let here = take_more inputs n _ c.loop-input-test.true in
    let counted : c.count.new.self ≡ with_one_step now.profile.burst input stepped ran =
    c.count.ensures.step
    ∙ ap (λ (p : Profile). with_one_step p.burst input stepped ran) c.profile-profile.ensures in
    let on =
    goes_on c.args.to start inputs n ran now c.loop-input.invariant.0 next input
    (λ at. c.if-address-to.false (c.address.ensures.address ∙ at)) stepped here step
    c.in_default.not-Stopped in
    let text =
    front_recorded start inputs n ran now next input stepped here step (facts_with made.result next)
    made.ensures.step.1 c.in_default.not-Stopped (string_bytes c.args.out.now) (string_bytes c.loop-input.out)
    (string_bytes c.put_step.new.out) c.loop-input.invariant.2 c.in_ok-put_step.ensures in (
      subst (λ (r : Ran). Going c.args.to start inputs (n + 1) r next) (sym counted) on,
      c.count.ensures.bound n c.loop-input.invariant.1,
      subst
          (λ (r : Ran). Appends (FrontRecorded start inputs (n + 1) r next) (string_bytes c.args.out.now)
          (string_bytes c.put_step.new.out))
          (sym counted) text,
    )

pub returns : goal.returns
returns c =
    let start = c.args.machine.now in
    let inputs = c.args.inputs.now in
    let n = c.loop-input.input-index in
    let ran = c.loop-input.ran in
    let now = c.loop-input.machine in
    let so_far = c.loop-input.invariant.0 in
    records_here c.args.to start inputs n ran now so_far (string_bytes c.args.out.now)
    (string_bytes c.loop-input.out) c.loop-input.invariant.2
    (all_made c.args.to start inputs n ran now so_far (omega (arith, c.loop-input-test.false)))
