use Rattle.std.proofs.Common.{◌≡◌, ◌+◌, ◌-◌, ◌*◌, ◌≤◌, None, length, vec_capacity}
use Rattle.arm2_exec.proofs.RunLemmas.{SoFar}
use Rattle.asm_text.specs.Appended.{Appends}
use Rattle.text_trace.specs.declared.trace_lines.TheConstants.{LINE_ROOM}
use Rattle.text_trace.proofs.RunLaws.{PrintedSoFar}
use Rattle.arm2_exec.specs.Run.{IsWithin}
use Rattle.debugger.specs.Watching.{inputs_of}
use Rattle.debugger.proofs.stepping.put_steps.Given as goal

abbrev pub invariant-loop-made : goal.invariant-loop-made
invariant-loop-made l =
    SoFar l.initial.machine (inputs_of l.initial.input l.steps) l.ran l.machine
    (inputs_of l.input (l.steps - l.made))
    × Appends (PrintedSoFar l.initial.machine (inputs_of l.initial.input l.steps) l.machine
    (inputs_of l.input (l.steps - l.made))) l.initial.out.items l.out.items
    × (length l.out.items + (l.steps - l.made) * LINE_ROOM ≤ vec_capacity l.out) × (l.ran.stopped ≡ None)
    × IsWithin l.made l.ran
