use Rattle.std.proofs.Common.{◌∙◌, ◌+◌, ◌-◌, List, ap, arith, subst, sym}
use Rattle.arm2_exec.specs.declared.machine.Input.{Input}
use Rattle.arm2_exec.specs.declared.machine.Ran.{Ran}
use Rattle.arm2_exec.proofs.RunLemmas.{SoFar, at_end, at_stop, more_steps}
use Rattle.arm2_exec.specs.Run.{Runs}
use Rattle.asm_text.specs.Appended.{Appends}
use Rattle.text_trace.proofs.RunLaws.{PrintedSoFar, text_ends, text_goes, text_stops}
use Rattle.debugger.specs.SessionState.{without_bursts}
use Rattle.debugger.specs.Watching.{inputs_of}
use Rattle.debugger.proofs.WatchLaws.{at_hand, none_left}
use Rattle.debugger.proofs.stepping.put_steps.Goals as goal

pub returns-in_default-clause-runs : goal.returns-in_default-clause-runs
returns-in_default-clause-runs c =
    let i = c.loop-made.input in
    let steps = c.args.steps in
    let made = c.loop-made.made in
    let start = c.args.machine.now in
    let inputs = inputs_of c.args.first steps in
    let (traced, why, makes, is, stepped) = c.in_default.ensures.stepped in
    subst (λ (r : Ran). Runs start inputs r c.advance.new.machine) (sym (c.counts.ensures ∙ stepped))
    (at_stop start inputs c.loop-made.ran c.loop-made.machine c.advance.new.machine
    (inputs_of i (steps - made)) (inputs_of (without_bursts i) (steps - (made + 1))) i traced.stepped why
    c.loop-made.invariant.0 (at_hand i steps made c.loop-made-test.true) makes.0 is)

pub returns-in_default-clause-text : goal.returns-in_default-clause-text
returns-in_default-clause-text c =
    let i = c.loop-made.input in
    let steps = c.args.steps in
    let made = c.loop-made.made in
    let (traced, why, makes, is, stepped) = c.in_default.ensures.stepped in
    text_stops c.args.machine.now (inputs_of c.args.first steps) c.loop-made.machine c.advance.new.machine
    (inputs_of i (steps - made)) (inputs_of (without_bursts i) (steps - (made + 1))) i traced
    (at_hand i steps made c.loop-made-test.true) makes.0 why c.args.out.now.items c.loop-made.out.items
    makes.1 is c.loop-made.invariant.1

pub loop-made-preserved : goal.loop-made-preserved
loop-made-preserved c =
    let i = c.loop-made.input in
    let steps = c.args.steps in
    let made = c.loop-made.made in
    let less = c.loop-made-test.true in
    let start = c.args.machine.now in
    let inputs = inputs_of c.args.first steps in
    let now = c.loop-made.machine in
    let next = c.advance.new.machine in
    let left = inputs_of i (steps - made) in
    let rest = inputs_of (without_bursts i) (steps - (made + 1)) in
    let traced = c.in-Some.traced in
    let counts = c.in-Some.ensures.stepped in
    let here = at_hand i steps made less in
    let runs =
    more_steps start inputs c.loop-made.ran now next left rest i traced.stepped c.loop-made.invariant.0 here
    counts.0.0 counts.1 in
    let text =
    text_goes start inputs now next left rest i traced here counts.0.0 c.args.out.now.items
    c.loop-made.out.items c.put_trace.new.out.items counts.0.1 counts.1 c.loop-made.invariant.1
    c.put_trace.ensures.text in
    let counted = subst (λ (r : Ran). SoFar start inputs r next rest) (sym counts.2) runs in
    let cleared = sym c.in-Some.ensures.input in
    let later : Input → List Input = λ it. inputs_of it (steps - (made + 1)) in
    let room = c.loop-made.invariant.2 in
    let line = c.put_trace.ensures.len in
    let kept = c.put_trace.ensures.room in (
      subst (λ (it : Input). SoFar start inputs c.advance.new.ran next (later it)) cleared counted,
      subst (λ (it : Input). Appends (PrintedSoFar start inputs next (later it)) c.args.out.now.items
          c.put_trace.new.out.items) cleared text,
      omega (arith, less, room, line, kept),
      ap (λ (r : Ran). r.stopped) counts.2 ∙ c.loop-made.invariant.3,
      c.advance.ensures.bound made c.loop-made.invariant.4,
    )

pub returns-clause-runs : goal.returns-clause-runs
returns-clause-runs c =
    let i = c.loop-made.input in
    let inputs = inputs_of c.args.first c.args.steps in
    subst (λ (r : Ran). Runs c.args.machine.now inputs r c.loop-made.machine) (sym c.counts-2.ensures)
    (at_end c.args.machine.now (inputs_of c.args.first c.args.steps) c.loop-made.ran c.loop-made.machine
    (inputs_of i (c.args.steps - c.loop-made.made)) c.loop-made.invariant.0
    (none_left i c.args.steps c.loop-made.made c.loop-made-test.false) c.loop-made.invariant.3)

pub returns-clause-text : goal.returns-clause-text
returns-clause-text c =
    let i = c.loop-made.input in
    text_ends c.args.machine.now (inputs_of c.args.first c.args.steps) c.loop-made.machine
    (inputs_of i (c.args.steps - c.loop-made.made)) c.args.out.now.items c.loop-made.out.items
    c.loop-made.invariant.1 (none_left i c.args.steps c.loop-made.made c.loop-made-test.false)
