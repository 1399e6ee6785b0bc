use Rattle.std.proofs.Common.{◌≡◌, ◌∙◌, ◌+◌, ap, drop, subst, sym}
use Rattle.std.specs.Prelude.{slice_index_or}
use Rattle.std.proofs.lemmas.List.{drop_more}
use Rattle.std.proofs.Math.ListN.{drop_of_length-le}
use Rattle.arm2_exec.specs.declared.machine.Input.{Input}
use Rattle.bus_ticks.specs.declared.profile.Profile.{Profile}
use Rattle.arm2_exec.specs.declared.machine.Ran.{Ran}
use Rattle.arm2_exec.specs.Run.{with_one_step}
use Rattle.arm2_exec.specs.State.{State}
use Rattle.arm2_exec.proofs.RunLemmas.{SoFar, at_end, at_stop, more_steps}
use Rattle.arm2_exec.proofs.StepLemmas.{same_profile}
use Rattle.arm2_exec.proofs.machine.Machine.run.Goals as goal

pub returns-in-Stopped : goal.returns-in-Stopped
returns-in-Stopped c =
    let input = slice_index_or c.args.inputs.now c.loop-input.input-index (record { bursts = 0; lines = record { 0 = 0 }; port = 0 }) in
    at_stop c.args.self.now c.args.inputs.now c.loop-input.ran c.loop-input.self c.step-stepped.new.self (drop c.loop-input.input-index c.args.inputs.now) (drop (c.loop-input.input-index + 1) c.args.inputs.now) input
    c.step-stepped.result c.in-Stopped.why c.loop-input.invariant.0 (drop_more c.args.inputs.now c.loop-input.input-index _ c.loop-input-test.true) c.step-stepped.ensures.step c.in-Stopped.is

pub loop-input-preserved : goal.loop-input-preserved
loop-input-preserved c =
    let start = c.args.self.now in
    let inputs = c.args.inputs.now in
    let s = c.loop-input.self in
    let ran = c.loop-input.ran in
    let next = c.step-stepped.new.self in
    let stepped = c.step-stepped.result in
    let index = c.loop-input.input-index in
    let input : Input = slice_index_or inputs index (record { bursts = 0; lines = record { 0 = 0 }; port = 0 }) in
    let step = c.step-stepped.ensures.step in
    let price : c.self.inside.processor.prices.profile ≡ s.profile = ap (λ (x : State). x.profile) c.self.view_is ∙ same_profile s input stepped next step in
    let counted : c.count.new.self ≡ with_one_step s.profile.burst input stepped ran = c.count.ensures.step ∙ ap (λ (p : Profile). with_one_step p.burst input stepped ran) price in
    let goes = more_steps start inputs ran s next (drop index inputs) (drop (index + 1) inputs) input stepped c.loop-input.invariant.0 (drop_more inputs index _ c.loop-input-test.true) step c.in_default.not-Stopped in
    (subst (λ (r : Ran). SoFar start inputs r next (drop (index + 1) inputs)) (sym counted) goes, ap (λ (r : Ran). r.stopped) counted ∙ c.loop-input.invariant.1, c.count.ensures.bound index c.loop-input.invariant.2)

pub returns : goal.returns
returns c =
    at_end c.args.self.now c.args.inputs.now c.loop-input.ran c.loop-input.self (drop c.loop-input.input-index c.args.inputs.now) c.loop-input.invariant.0 (drop_of_length-le c.args.inputs.now c.loop-input-test.false) c.loop-input.invariant.1
