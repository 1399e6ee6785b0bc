use Rattle.std.proofs.Common.{◌-◌}
use Rattle.arm2_exec.specs.Run.{IsWithin}
use Rattle.debugger.specs.Watching.{inputs_of}
use Rattle.debugger.proofs.WatchLaws.{SoFar}
use Rattle.debugger.proofs.stepping.run_watched.Given as goal

abbrev pub invariant-loop-made : goal.invariant-loop-made
invariant-loop-made l =
    SoFar l.breaks l.initial.machine (inputs_of l.initial.input l.steps) l.machine
    (inputs_of l.input (l.steps - l.made)) l.ran l.last
    × IsWithin l.made l.ran
