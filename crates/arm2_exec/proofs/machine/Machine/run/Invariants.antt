use Rattle.std.proofs.Common.{◌≡◌, None, drop}
use Rattle.arm2_exec.specs.Run.{IsWithin}
use Rattle.arm2_exec.proofs.RunLemmas.{SoFar}
use Rattle.arm2_exec.proofs.machine.Machine.run.Given as goal

abbrev pub invariant-loop-input : goal.invariant-loop-input
invariant-loop-input l =
    SoFar l.fn.self l.inputs l.ran l.self (drop l.input-index l.inputs) × (l.ran.stopped ≡ None) × IsWithin l.input-index l.ran
