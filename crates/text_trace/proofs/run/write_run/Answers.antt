use Rattle.std.proofs.Common.{◌≡◌, ◌∙◌, ◌+◌, List, ℕ, ap, rules, drop, string_bytes, subst}
use Rattle.std.proofs.Common.{sym}
use Rattle.std.specs.Prelude.{slice_index_or}
use Rattle.std.proofs.lemmas.List.{drop_more, take_more}
use Rattle.std.proofs.Math.ListN.{drop_of_length-le}
use Rattle.bus_ticks.specs.declared.profile.Profile.{Profile}
use Rattle.arm2_exec.specs.declared.machine.Input.{Input}
use Rattle.arm2_exec.specs.declared.machine.Ran.{Ran}
use Rattle.arm2_exec.specs.Run.{with_one_step}
use Rattle.arm2_exec.proofs.RunLemmas.{SoFar, at_end, at_stop, more_steps}
use Rattle.asm_text.specs.Appended.{Appends}
use Rattle.text_trace.specs.TraceText.{IsTraceLine}
use Rattle.text_trace.proofs.RunLaws.{FrontRuns, front_printed, front_runs, on_err, run_refused, text_ends, text_goes}
use Rattle.text_trace.proofs.RunLaws.{text_stops}
use Rattle.text_trace.proofs.run.write_run.Goals as goal

abbrev input_at : List Input → ℕ → Input
input_at inputs index =
    slice_index_or inputs index (record { bursts = 0; lines = record { 0 = 0 }; port = 0 })

pub returns-in-Stopped : goal.returns-in-Stopped
returns-in-Stopped c =
    let inputs = c.args.inputs.now in
    let index = c.loop-input.input-index in
    let input = input_at inputs index in
    let traced = c.step_traced-traced in
    let left = drop index inputs in
    let rest = drop (index + 1) inputs in
    let at_hand = drop_more inputs index _ c.loop-input-test.true in
    let start = c.args.machine.now in
    record {
      runs =
          at_stop start inputs c.loop-input.ran c.loop-input.machine traced.new.self left rest input
          traced.result.stepped c.in-Stopped.why c.loop-input.invariant.0 at_hand traced.ensures.step
          c.in-Stopped.is;
      text =
          text_stops start inputs c.loop-input.machine traced.new.self left rest input traced.result at_hand
          traced.ensures.step c.in-Stopped.why (string_bytes c.args.out.now) (string_bytes c.loop-input.out)
          traced.ensures.word c.in-Stopped.is c.loop-input.invariant.1;
      refused = tt;
    }

pub loop-input-preserved : goal.loop-input-preserved
loop-input-preserved c =
    let inputs = c.args.inputs.now in
    let index = c.loop-input.input-index in
    let input = input_at inputs index in
    let traced = c.step_traced-traced in
    let start = c.args.machine.now in
    let now = c.loop-input.machine in
    let next = traced.new.self in
    let at_hand = drop_more inputs index _ c.loop-input-test.true in
    let runs =
    more_steps start inputs c.loop-input.ran now next (drop index inputs) (drop (index + 1) inputs) input
    traced.result.stepped c.loop-input.invariant.0 at_hand traced.ensures.step c.in_default.not-Stopped in
    let old = string_bytes c.loop-input.out in
    let line : Appends (IsTraceLine traced.result) old (string_bytes c.put_trace.new.out) = search rules in
    let stepped =
    text_goes start inputs now next (drop index inputs)
    (drop (index + 1) inputs) input traced.result at_hand traced.ensures.step
    (string_bytes c.args.out.now) (string_bytes c.loop-input.out)
    (string_bytes c.put_trace.new.out) traced.ensures.word c.in_default.not-Stopped
    c.loop-input.invariant.1 line in
    let counted : c.count.new.self ≡ with_one_step now.profile.burst input traced.result.stepped c.loop-input.ran =
    c.count.ensures.step
    ∙ ap (λ (p : Profile). with_one_step p.burst input traced.result.stepped c.loop-input.ran)
    c.profile-profile.ensures in
    let here = take_more inputs index _ c.loop-input-test.true in
    let front =
    front_runs start inputs index now next input traced.result here traced.ensures.step
    c.in_default.not-Stopped c.loop-input.ran c.loop-input.invariant.4 in
    let front_text =
    front_printed start inputs index now next input traced.result here traced.ensures.step
    c.in_default.not-Stopped
    (string_bytes c.args.out.now) (string_bytes c.loop-input.out)
    (string_bytes c.put_trace.new.out) traced.ensures.word c.loop-input.invariant.5 line in (
      subst (λ (r : Ran). SoFar start inputs r next (drop (index + 1) inputs)) (sym counted) runs,
      stepped,
      ap (λ (r : Ran). r.stopped) counted ∙ c.loop-input.invariant.2,
      c.count.ensures.bound index c.loop-input.invariant.3,
      subst (λ (r : Ran). FrontRuns start inputs (index + 1) r next) (sym counted) front,
      front_text,
      c.put_trace.ensures.right,
    )

pub returns-clause-runs : goal.returns-clause-runs
returns-clause-runs c =
    let left = drop c.loop-input.input-index c.args.inputs.now in
    at_end c.args.machine.now c.args.inputs.now c.loop-input.ran c.loop-input.machine left
    c.loop-input.invariant.0 (drop_of_length-le c.args.inputs.now c.loop-input-test.false)
    c.loop-input.invariant.2

pub returns-clause-text : goal.returns-clause-text
returns-clause-text c =
    let left = drop c.loop-input.input-index c.args.inputs.now in
    text_ends c.args.machine.now c.args.inputs.now c.loop-input.machine left (string_bytes c.args.out.now)
    (string_bytes c.loop-input.out) c.loop-input.invariant.1
    (drop_of_length-le c.args.inputs.now c.loop-input-test.false)

pub returns-in_err-put_trace-clause-refused : goal.returns-in_err-put_trace-clause-refused
returns-in_err-put_trace-clause-refused c =
    let inputs = c.args.inputs.now in
    let index = c.loop-input.input-index in
    let input = input_at inputs index in
    let traced = c.step_traced-traced in
    let here = take_more inputs index _ c.loop-input-test.true in
    let left = drop_more inputs index _ c.loop-input-test.true in
    let law =
    run_refused c.args.machine.now inputs index c.loop-input.machine traced.new.self input
    traced.result
    here traced.ensures.step c.in_default.not-Stopped (drop (index + 1) inputs) c.loop-input.ran in
    on_err c.from_residual.result _
    (law (string_bytes c.args.out.now) (string_bytes c.loop-input.out) (string_bytes c.put_trace.new.out)
    left c.loop-input.invariant.4 c.loop-input.invariant.5 c.in_err-put_trace.ensures.text)
