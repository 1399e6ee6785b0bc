use Rattle.std.proofs.Common.{◌≡◌, take}
use Rattle.machine_file.specs.MachineFile.{union}
use Rattle.machine_file.proofs.events.union.Given as goal

abbrev pub invariant-loop-line : goal.invariant-loop-line
invariant-loop-line l = l.all ≡ union (take l.line-index l.lines)
