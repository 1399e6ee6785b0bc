use Rattle.std.proofs.Common.{◌+◌, ◌∙◌, ap, arith, get_or, length, refl, sym}
use Rattle.std.proofs.lemmas.List.{get_or_default}
use Rattle.arm2_exec.specs.declared.machine.Input.{Input}
use Rattle.kept_runs.proofs.SoFar.{begins, can_begin, can_more, elsewhere, left, more, strays, unfinished}
use Rattle.kept_runs.proofs.following.follow_whole.Goals as goal

abbrev none : Input
none = record { bursts = 0; lines = record { 0 = 0 }; port = 0 }

pub returns-then-at-entry : goal.returns-then-at-entry
returns-then-at-entry c =
    elsewhere c.args.handler.now.image.now c.args.handler.now.statement c.args.handler.now.graph c.args.handler.now.tree c.places-exit.ensures.well_formed c.requires.handler c.args.machine.now c.args.inputs.now
    c.address-at.result c.address-at.ensures.address (λ is. c.if-at-entry.true (c.address-at.ensures.address ∙ is ∙ sym c.entry.ensures.value))

pub loop-input-init : goal.loop-input-init
loop-input-init c =
    let fresh = c.requires.fresh in
    let steps = fresh.steps_are in
    let ticks = fresh.ticks_are in
    let can =
    can_begin c.args.handler.now.image.now c.args.handler.now.statement c.args.handler.now.graph c.args.handler.now.tree c.places-exit.ensures.well_formed c.requires.handler c.args.machine.now c.args.inputs.now
    c.args.follower.now c.requires.machine (sym c.address-at.ensures.address ∙ c.if-at-entry.false ∙ c.entry.ensures.value) c.requires.fresh refl in (
      begins c.args.handler.now.image.now c.args.handler.now.statement c.args.handler.now.graph c.args.handler.now.tree c.places-exit.ensures.well_formed c.requires.handler c.args.machine.now c.args.inputs.now c.args.follower.now fresh can,
      can,
      omega (arith, steps),
      omega (arith, ticks),
    )

pub take_step-requires-clause-handler : goal.take_step-requires-clause-handler
take_step-requires-clause-handler c = c.requires.handler

pub take_step-requires-clause-headers : goal.take_step-requires-clause-headers
take_step-requires-clause-headers c = c.requires.headers

pub take_step-requires-clause-can : goal.take_step-requires-clause-can
take_step-requires-clause-can c = c.loop-input.invariant.1

pub take_step-requires-clause-well_formed : goal.take_step-requires-clause-well_formed
take_step-requires-clause-well_formed c = c.places-exit.ensures.well_formed

pub returns-in-Some : goal.returns-in-Some
returns-in-Some c =
    let n = c.loop-input.input-index in
    let inputs = c.args.inputs.now in
    strays c.args.handler.now.image.now c.args.handler.now.statement c.args.handler.now.graph c.args.handler.now.tree c.places-exit.ensures.well_formed c.requires.handler c.args.machine.now c.args.inputs.now
    c.loop-input.input-index (get_or inputs n none) c.loop-input-test.true (get_or_default inputs n (get_or inputs n none) none c.loop-input-test.true)
    c.loop-input.follower c.loop-input.machine c.loop-input.invariant.1 c.loop-input.invariant.0 c.take_step.new.machine c.address-here.result c.in-Some.halt.why c.address-here.ensures.address c.in-Some.ensures.halts

pub returns-then-follower-exit : goal.returns-then-follower-exit
returns-then-follower-exit c =
    let n = c.loop-input.input-index in
    let inputs = c.args.inputs.now in
    let lt = c.loop-input-test.true in
    let goes = c.in_default.ensures in
    let steps = goes.steps_are in
    let ticks = goes.ticks_are in
    let small = goes.small in
    let spent = c.loop-input.invariant.3 in
    let count = c.loop-input.invariant.0.steps_count in record {
      run =
          left c.args.handler.now.image.now c.args.handler.now.statement c.args.handler.now.graph c.args.handler.now.tree c.places-exit.ensures.well_formed c.requires.handler c.args.machine.now c.args.inputs.now
          (c.loop-input.input-index + 1) c.take_step.new.follower c.take_step.new.machine
          (more c.args.handler.now.image.now c.args.handler.now.statement c.args.handler.now.graph c.args.handler.now.tree c.places-exit.ensures.well_formed c.requires.handler c.args.machine.now c.args.inputs.now
          c.loop-input.input-index (get_or inputs n none) c.loop-input-test.true (get_or_default inputs n (get_or inputs n none) none c.loop-input-test.true)
          c.loop-input.follower c.loop-input.machine c.loop-input.invariant.1 c.loop-input.invariant.0 c.take_step.new.follower c.take_step.new.machine c.in_default.ensures)
          (omega (arith, lt))
          (c.if-follower-exit.true ∙ ap length c.places-exit.ensures.value);
      machine = goes.machine;
      room = goes.room;
      few = omega (arith, spent, count, steps, ticks, small);
    }

pub loop-input-preserved : goal.loop-input-preserved
loop-input-preserved c =
    let n = c.loop-input.input-index in
    let inputs = c.args.inputs.now in
    let goes = c.in_default.ensures in
    let steps = goes.steps_are in
    let ticks = goes.ticks_are in
    let small = goes.small in
    let few = c.loop-input.invariant.2 in
    let spent = c.loop-input.invariant.3 in (
      more c.args.handler.now.image.now c.args.handler.now.statement c.args.handler.now.graph c.args.handler.now.tree c.places-exit.ensures.well_formed c.requires.handler c.args.machine.now c.args.inputs.now
          c.loop-input.input-index (get_or inputs n none) c.loop-input-test.true (get_or_default inputs n (get_or inputs n none) none c.loop-input-test.true)
          c.loop-input.follower c.loop-input.machine c.loop-input.invariant.1 c.loop-input.invariant.0 c.take_step.new.follower c.take_step.new.machine c.in_default.ensures,
      can_more c.args.handler.now.image.now c.args.handler.now.statement c.args.handler.now.graph c.args.handler.now.tree c.places-exit.ensures.well_formed c.requires.handler c.args.machine.now c.args.inputs.now
          c.loop-input.input-index (get_or inputs n none) c.loop-input-test.true (get_or_default inputs n (get_or inputs n none) none c.loop-input-test.true)
          c.loop-input.follower c.loop-input.machine c.loop-input.invariant.1 c.loop-input.invariant.0 c.take_step.new.follower c.take_step.new.machine c.in_default.ensures
          (λ is. c.if-follower-exit.false (is ∙ sym (ap length c.places-exit.ensures.value))),
      omega (arith, few, steps),
      omega (arith, spent, ticks, small),
    )

pub returns : goal.returns
returns c =
    unfinished c.args.handler.now.image.now c.args.handler.now.statement c.args.handler.now.graph c.args.handler.now.tree c.places-exit.ensures.well_formed c.requires.handler c.args.machine.now c.args.inputs.now
    c.loop-input.input-index c.loop-input.follower c.loop-input.machine c.loop-input.invariant.1 c.loop-input.invariant.0 c.loop-input-test.false c.loop-input.auto.input-index-end c.address.result c.address.ensures.address
