use Rattle.std.proofs.Common.{string_bytes}
use Rattle.arm2_exec.specs.Run.{IsWithin}
use Rattle.asm_text.specs.Appended.{Appends}
use Rattle.json_trace.proofs.RecordLaws.{FrontRecorded}
use Rattle.machine_reports.proofs.RunToLemmas.{Going}
use Rattle.machine_reports.proofs.steps_to.write_records_to.Given as goal

abbrev pub invariant-loop-input : goal.invariant-loop-input
invariant-loop-input l =
    Going l.to l.initial.machine l.inputs l.input-index l.ran l.machine × IsWithin l.input-index l.ran
    × Appends (FrontRecorded l.initial.machine l.inputs l.input-index l.ran l.machine)
    (string_bytes l.initial.out) (string_bytes l.out)
