use Rattle.std.proofs.Common.{◌+◌, ◌-◌, Some, subst, sym}
use Rattle.arm2_exec.specs.declared.machine.Input.{Input}
use Rattle.debugger.specs.SessionState.{without_bursts}
use Rattle.debugger.specs.Watching.{as_shown, inputs_of}
use Rattle.debugger.proofs.WatchLaws.{SoFar, at_hand, none_left, run_breaks, run_ends, run_goes, run_stops}
use Rattle.debugger.proofs.stepping.run_watched.Goals as goal

pub returns-in_default : goal.returns-in_default
returns-in_default c =
    let i = c.loop-made.input in
    let steps = c.args.steps in
    let made = c.loop-made.made in
    rw c.ended.ensures
    (run_stops c.args.breaks.now c.args.machine.now (inputs_of c.args.first steps) c.loop-made.machine
    c.advance.new.machine (inputs_of i (steps - made)) (inputs_of (without_bursts i) (steps - (made + 1)))
    i c.loop-made.ran c.advance.new.ran c.loop-made.last
    (at_hand i steps made c.loop-made-test.true) c.loop-made.invariant.0 c.in_default.ensures.stepped)

pub returns-then-is_at_break : goal.returns-then-is_at_break
returns-then-is_at_break c =
    let i = c.loop-made.input in
    let steps = c.args.steps in
    let made = c.loop-made.made in
    rw (c.ended-then-is_at_break.ensures, c.as_shown.ensures)
    (run_breaks c.args.breaks.now c.args.machine.now (inputs_of c.args.first steps) c.loop-made.machine
    c.advance.new.machine (inputs_of i (steps - made)) (inputs_of (without_bursts i) (steps - (made + 1)))
    i c.loop-made.ran c.advance.new.ran c.loop-made.last
    (at_hand i steps made c.loop-made-test.true) c.loop-made.invariant.0
    c.in-Some.traced c.in-Some.ensures.stepped (sym c.if-is_at_break.ensures))

pub loop-made-preserved : goal.loop-made-preserved
loop-made-preserved c =
    let i = c.loop-made.input in
    let steps = c.args.steps in
    let made = c.loop-made.made in
    let inputs = inputs_of c.args.first steps in
    let machine = c.advance.new.machine in
    let on =
    run_goes c.args.breaks.now c.args.machine.now inputs c.loop-made.machine
    machine (inputs_of i (steps - made)) (inputs_of (without_bursts i) (steps - (made + 1)))
    i c.loop-made.ran c.advance.new.ran c.loop-made.last
    (at_hand i steps made c.loop-made-test.true) c.loop-made.invariant.0
    c.in-Some.traced c.in-Some.ensures.stepped (sym c.if-is_at_break.ensures) in
    let later =
    subst (λ (next : Input). SoFar c.args.breaks.now c.args.machine.now inputs machine
    (inputs_of next (steps - (made + 1))) c.advance.new.ran (Some (as_shown c.in-Some.traced)))
    (sym c.in-Some.ensures.input) on in
    rw c.as_shown.ensures (later, c.advance.ensures.bound made c.loop-made.invariant.1)

pub returns : goal.returns
returns c =
    let i = c.loop-made.input in
    rw c.ended-2.ensures
    (run_ends c.args.breaks.now c.args.machine.now (inputs_of c.args.first c.args.steps) c.loop-made.machine
    (inputs_of i (c.args.steps - c.loop-made.made)) c.loop-made.ran c.loop-made.last
    c.loop-made.invariant.0 (none_left i c.args.steps c.loop-made.made c.loop-made-test.false))
