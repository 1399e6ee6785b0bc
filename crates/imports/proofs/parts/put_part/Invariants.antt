use Rattle.std.proofs.Common.{◌≡◌, length}
use Rattle.imports.specs.Imported.{part_of, part_words, put_each, words_from}
use Rattle.imports.proofs.parts.put_part.Given as goal

abbrev pub invariant-loop-rest : goal.invariant-loop-rest
invariant-loop-rest l =
    put_each l.initial.image (part_words (part_of l.part)) ≡ put_each l.image (words_from l.address l.rest)

abbrev pub decreases-loop-rest : goal.decreases-loop-rest
decreases-loop-rest l = length l.rest
