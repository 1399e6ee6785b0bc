use Rattle.machine_file.proofs.InputLemmas.{AreSoFar}
use Rattle.machine_file.proofs.events.Schedule.inputs.Given as goal

abbrev pub invariant-loop-step : goal.invariant-loop-step
invariant-loop-step l = AreSoFar l.self l.step l.lines l.port l.inputs.items
