use Rattle.imports.proofs.ElfLemmas.{Reads}
use Rattle.imports.proofs.elf.loaded_in.Given as goal

abbrev pub invariant-loop-left : goal.invariant-loop-left
invariant-loop-left l = Reads l.fn.headers.count l.fn.headers.table.now l.left l.rest l.segments.items

abbrev pub decreases-loop-left : goal.decreases-loop-left
decreases-loop-left l = l.left
