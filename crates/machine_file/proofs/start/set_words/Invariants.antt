use Rattle.std.proofs.Common.{◌≡◌, take}
use Rattle.machine_file.specs.StartWork.{with_words}
use Rattle.machine_file.proofs.start.set_words.Given as goal

abbrev pub invariant-loop-i : goal.invariant-loop-i
invariant-loop-i l = l.machine ≡ with_words (take l.i l.words) l.fn.machine
