use Rattle.std.proofs.Common.{◌+◌, ◌∙◌, List, ap, arith, drop, get_or, length, subst, sym}
use Rattle.std.proofs.lemmas.List.{get_or_default, length-drop, take_rest}
use Rattle.arm2_exec.specs.declared.machine.Input.{Input}
use Rattle.kept_runs.specs.Visited.{handled}
use Rattle.kept_runs.specs.Visiting.{Advances, IsHalt}
use Rattle.kept_runs.proofs.SoFarBoth.{unfinished_both}
use Rattle.kept_runs.proofs.VisitSteps.{begins_following, goes_there, halt_few, halts_there, leaves_there, ticks_fit}
use Rattle.kept_runs.proofs.visited.follow_both.Goals as goal

abbrev none : Input
none = record { bursts = 0; lines = record { 0 = 0 }; port = 0 }

pub loop-done-init : goal.loop-done-init
loop-done-init c = begins_following c.args.both c.requires.ready c.args.machine.now c.args.inputs.now c.args.followers c.requires.begun c.requires.can

pub overflow_add-result : goal.overflow_add-result
overflow_add-result c =
    let n = c.loop-done.done in
    let inputs = c.args.inputs.now in
    let few =
    halt_few c.args.both c.loop-done.followers c.loop-done.machine (get_or inputs n none) (drop (n + 1) inputs) c.advance.new.machine c.in-Err.field-0.steps c.in-Err.field-0.at c.in-Err.field-0.why
    (subst (λ (rest : List Input). IsHalt c.args.both c.loop-done.followers c.loop-done.machine (get_or inputs n none) rest c.advance.new.machine c.in-Err.field-0.steps c.in-Err.field-0.at c.in-Err.field-0.why) (take_rest inputs (n + 1)) c.in-Err.ensures.advances) in
    let long = length-drop (n + 1) inputs in
    let lt = c.loop-done-test.true in
    omega (arith, few, long, lt)

pub returns-in-Err : goal.returns-in-Err
returns-in-Err c =
    let n = c.loop-done.done in
    let inputs = c.args.inputs.now in
    halts_there c.args.both c.requires.ready c.args.machine.now c.args.inputs.now c.loop-done.done (get_or inputs n none) c.loop-done-test.true (get_or_default inputs n (get_or inputs n none) none c.loop-done-test.true)
    c.loop-done.followers c.loop-done.machine c.loop-done.invariant c.in-Err.field-0.steps c.in-Err.field-0.at c.in-Err.field-0.why c.advance.new.machine
    (subst (λ (rest : List Input). IsHalt c.args.both c.loop-done.followers c.loop-done.machine (get_or inputs n none) rest c.advance.new.machine c.in-Err.field-0.steps c.in-Err.field-0.at c.in-Err.field-0.why) (take_rest inputs (n + 1)) c.in-Err.ensures.advances)

pub overflow_add-result-then-followers-exit : goal.overflow_add-result-then-followers-exit
overflow_add-result-then-followers-exit c =
    let n = c.loop-done.done in
    let inputs = c.args.inputs.now in
    let long = length-drop (n + 1) inputs in
    let lt = c.loop-done-test.true in
    let small =
    ticks_fit c.args.both c.loop-done.followers c.advance.new.followers c.loop-done.machine (get_or inputs n none) (drop (n + 1) inputs) c.advance.new.machine n c.in-Ok.steps c.loop-done.invariant.counted (omega (arith, long, lt))
    (subst (λ (rest : List Input). Advances c.args.both c.loop-done.followers c.loop-done.machine (get_or inputs n none) rest c.advance.new.machine c.advance.new.followers c.in-Ok.steps) (take_rest inputs (n + 1)) c.in-Ok.ensures.advances) in
    omega (arith, small)

pub returns-then-followers-exit : goal.returns-then-followers-exit
returns-then-followers-exit c =
    let n = c.loop-done.done in
    let inputs = c.args.inputs.now in
    leaves_there c.args.both c.requires.ready c.args.machine.now c.args.inputs.now c.loop-done.done (get_or inputs n none) c.loop-done-test.true (get_or_default inputs n (get_or inputs n none) none c.loop-done-test.true)
    c.loop-done.followers c.loop-done.machine c.loop-done.invariant c.advance.new.followers c.in-Ok.steps c.advance.new.machine
    (subst (λ (rest : List Input). Advances c.args.both c.loop-done.followers c.loop-done.machine (get_or inputs n none) rest c.advance.new.machine c.advance.new.followers c.in-Ok.steps) (take_rest inputs (n + 1)) c.in-Ok.ensures.advances)
    (c.if-followers-exit.true ∙ ap length c.places-exit.ensures.value)

pub loop-done-preserved : goal.loop-done-preserved
loop-done-preserved c =
    let n = c.loop-done.done in
    let inputs = c.args.inputs.now in
    goes_there c.args.both c.requires.ready c.args.machine.now c.args.inputs.now c.loop-done.done (get_or inputs n none) c.loop-done-test.true (get_or_default inputs n (get_or inputs n none) none c.loop-done-test.true)
    c.loop-done.followers c.loop-done.machine c.loop-done.invariant c.advance.new.followers c.in-Ok.steps c.advance.new.machine
    (subst (λ (rest : List Input). Advances c.args.both c.loop-done.followers c.loop-done.machine (get_or inputs n none) rest c.advance.new.machine c.advance.new.followers c.in-Ok.steps) (take_rest inputs (n + 1)) c.in-Ok.ensures.advances)
    (λ is. c.if-followers-exit.false (is ∙ sym (ap length c.places-exit.ensures.value)))

pub returns : goal.returns
returns c =
    unfinished_both (handled c.args.both.irq.now) (handled c.args.both.fiq.now) c.requires.ready.irq_well c.requires.ready.irq c.args.machine.now c.args.inputs.now
    c.loop-done.done c.loop-done.followers c.loop-done.machine c.loop-done.invariant.can.can c.loop-done.invariant.so_far c.loop-done-test.false c.loop-done.invariant.within c.address.result c.address.ensures.address
