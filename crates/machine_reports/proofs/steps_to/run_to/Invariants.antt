use Rattle.arm2_exec.specs.Run.{IsWithin}
use Rattle.machine_reports.proofs.RunToLemmas.{Going}
use Rattle.machine_reports.proofs.steps_to.run_to.Given as goal

abbrev pub invariant-loop-input : goal.invariant-loop-input
invariant-loop-input l =
    Going l.to l.initial.machine l.inputs l.input-index l.ran l.machine × IsWithin l.input-index l.ran
