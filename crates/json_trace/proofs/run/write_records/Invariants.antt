use Rattle.std.proofs.Common.{◌≡◌, None, drop, string_bytes}
use Rattle.arm2_exec.specs.Run.{IsWithin}
use Rattle.arm2_exec.proofs.RunLemmas.{SoFar}
use Rattle.asm_text.specs.Appended.{Appends}
use Rattle.json_trace.proofs.RecordLaws.{RecordedSoFar}
use Rattle.json_trace.proofs.run.write_records.Given as goal

abbrev pub invariant-loop-input : goal.invariant-loop-input
invariant-loop-input l =
    SoFar l.initial.machine l.inputs l.ran l.machine (drop l.input-index l.inputs)
    × Appends (RecordedSoFar l.initial.machine l.inputs l.ran l.machine (drop l.input-index l.inputs))
    (string_bytes l.initial.out) (string_bytes l.out)
    × (l.ran.stopped ≡ None) × IsWithin l.input-index l.ran
