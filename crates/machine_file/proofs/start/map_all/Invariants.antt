use Rattle.std.proofs.Common.{take}
use Rattle.machine_file.proofs.PageLemmas.{MappedSoFar}
use Rattle.machine_file.proofs.start.map_all.Given as goal

abbrev pub invariant-loop-page : goal.invariant-loop-page
invariant-loop-page l = MappedSoFar (take l.page-index l.pages) l.fn.memc l.memc
