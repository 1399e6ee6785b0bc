use Rattle.std.proofs.Common.{◌≡◌, None, drop, string_bytes}
use Rattle.arm2_exec.specs.Run.{IsWithin}
use Rattle.arm2_exec.proofs.RunLemmas.{SoFar}
use Rattle.text_trace.specs.Lately.{AreRight}
use Rattle.asm_text.specs.Appended.{Appends}
use Rattle.text_trace.proofs.RunLaws.{FrontPrinted, FrontRuns, PrintedSoFar}
use Rattle.text_trace.proofs.run.write_run.Given as goal

abbrev pub invariant-loop-input : goal.invariant-loop-input
invariant-loop-input l =
    SoFar l.initial.machine l.inputs l.ran l.machine (drop l.input-index l.inputs)
    × Appends (PrintedSoFar l.initial.machine l.inputs l.machine (drop l.input-index l.inputs))
    (string_bytes l.initial.out) (string_bytes l.out)
    × (l.ran.stopped ≡ None) × IsWithin l.input-index l.ran
    × FrontRuns l.initial.machine l.inputs l.input-index l.ran l.machine
    × Appends (FrontPrinted l.initial.machine l.inputs l.input-index l.machine) (string_bytes l.initial.out)
    (string_bytes l.out)
    × AreRight l.lately.rows
