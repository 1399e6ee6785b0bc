use Rattle.std.proofs.Common.{◌≡◌, [], drop, map}
use Rattle.imports.specs.Imported.{part_of, put_each, words_of}
use Rattle.imports.proofs.parts.import_parts.Given as goal

abbrev pub invariant-loop-part : goal.invariant-loop-part
invariant-loop-part l =
    put_each [] (words_of (map part_of l.parts)) ≡ put_each l.image (words_of (map part_of (drop l.part-index l.parts)))
