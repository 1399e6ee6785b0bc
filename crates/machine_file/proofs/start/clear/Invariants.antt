use Rattle.machine_file.proofs.PageLemmas.{ClearedSoFar}
use Rattle.machine_file.proofs.start.clear.Given as goal

abbrev pub invariant-loop-physical : goal.invariant-loop-physical
invariant-loop-physical l = ClearedSoFar l.physical l.fn.memc l.memc
