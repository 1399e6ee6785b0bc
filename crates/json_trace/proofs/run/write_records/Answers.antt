use Rattle.std.proofs.Common.{◌≡◌, ◌∙◌, ◌+◌, List, ℕ, ap, drop, string_bytes, subst, sym}
use Rattle.std.specs.Prelude.{slice_index_or}
use Rattle.std.proofs.lemmas.List.{drop_more}
use Rattle.std.proofs.Math.ListN.{drop_of_length-le}
use Rattle.bus_ticks.specs.declared.profile.Profile.{Profile}
use Rattle.arm2_exec.specs.declared.machine.Input.{Input}
use Rattle.arm2_exec.specs.declared.machine.Ran.{Ran}
use Rattle.arm2_exec.specs.Run.{with_one_step}
use Rattle.arm2_exec.proofs.RunLemmas.{SoFar, at_end, at_stop, more_steps}
use Rattle.asm_text.specs.Appended.{Appends}
use Rattle.json_trace.specs.Facts.{facts_with}
use Rattle.json_trace.proofs.RecordLaws.{RecordedSoFar, records_end, records_go, records_stop}
use Rattle.json_trace.proofs.run.write_records.Goals as goal

abbrev input_at : List Input → ℕ → Input
input_at inputs index =
    slice_index_or inputs index (record { bursts = 0; lines = record { 0 = 0 }; port = 0 })

pub returns-in-Stopped : goal.returns-in-Stopped
returns-in-Stopped c =
    let inputs = c.args.inputs.now in
    let index = c.loop-input.input-index in
    let input = input_at inputs index in
    let made = c.step_recorded-made in
    let left = drop index inputs in
    let rest = drop (index + 1) inputs in
    let at_hand = drop_more inputs index _ c.loop-input-test.true in
    let start = c.args.machine.now in
    record {
      runs =
          at_stop start inputs c.loop-input.ran c.loop-input.machine made.new.machine left rest input
          made.result.traced.stepped c.in-Stopped.why c.loop-input.invariant.0 at_hand made.ensures.step.0
          c.in-Stopped.is;
      text =
          records_stop start inputs c.loop-input.ran c.loop-input.machine made.new.machine left rest input
          made.result.traced.stepped at_hand made.ensures.step.0 (facts_with made.result made.new.machine)
          made.ensures.step.1 c.in-Stopped.why (string_bytes c.args.out.now) (string_bytes c.loop-input.out)
          (string_bytes c.put_step.new.out) c.in-Stopped.is c.loop-input.invariant.1 c.in_ok-put_step.ensures;
    }

pub loop-input-preserved : goal.loop-input-preserved
loop-input-preserved c =
    let inputs = c.args.inputs.now in
    let index = c.loop-input.input-index in
    let input = input_at inputs index in
    let made = c.step_recorded-made in
    let stepped = made.result.traced.stepped in
    let start = c.args.machine.now in
    let now = c.loop-input.machine in
    let next = made.new.machine in
    let left = drop index inputs in
    let rest = drop (index + 1) inputs in
    let at_hand = drop_more inputs index _ c.loop-input-test.true in
    let runs =
    more_steps start inputs c.loop-input.ran now next left rest input stepped c.loop-input.invariant.0 at_hand
    made.ensures.step.0 c.in_default.not-Stopped in
    let text =
    records_go start inputs c.loop-input.ran now next left rest input stepped at_hand made.ensures.step.0
    (facts_with made.result next) made.ensures.step.1 (string_bytes c.args.out.now) (string_bytes c.loop-input.out)
    (string_bytes c.put_step.new.out) c.in_default.not-Stopped c.loop-input.invariant.1 c.in_ok-put_step.ensures in
    let counted : c.count.new.self ≡ with_one_step now.profile.burst input stepped c.loop-input.ran =
    c.count.ensures.step
    ∙ ap (λ (p : Profile). with_one_step p.burst input stepped c.loop-input.ran) c.profile-profile.ensures in (
      subst (λ (r : Ran). SoFar start inputs r next rest) (sym counted) runs,
      subst
          (λ (r : Ran). Appends (RecordedSoFar start inputs r next rest) (string_bytes c.args.out.now) (string_bytes c.put_step.new.out))
          (sym counted) text,
      ap (λ (r : Ran). r.stopped) counted ∙ c.loop-input.invariant.2,
      c.count.ensures.bound index c.loop-input.invariant.3,
    )

pub returns-clause-runs : goal.returns-clause-runs
returns-clause-runs c =
    let left = drop c.loop-input.input-index c.args.inputs.now in
    at_end c.args.machine.now c.args.inputs.now c.loop-input.ran c.loop-input.machine left
    c.loop-input.invariant.0 (drop_of_length-le c.args.inputs.now c.loop-input-test.false)
    c.loop-input.invariant.2

pub returns-clause-text : goal.returns-clause-text
returns-clause-text c =
    let left = drop c.loop-input.input-index c.args.inputs.now in
    records_end c.args.machine.now c.args.inputs.now c.loop-input.ran c.loop-input.machine left
    (string_bytes c.args.out.now) (string_bytes c.loop-input.out) c.loop-input.invariant.1
    (drop_of_length-le c.args.inputs.now c.loop-input-test.false)
