use Rattle.std.proofs.Common.{◌≡◌, ◌++◌, drop, map}
use Rattle.imports.specs.Imported.{part_of}
use Rattle.arcwcet.specs.Import.{placed}
use Rattle.arcwcet.proofs.import.placed.Given as goal

abbrev pub invariant-loop-file : goal.invariant-loop-file
invariant-loop-file l =
    map part_of l.parts.items ++ placed l.left (map (λ v. v.items) (drop l.file-index l.files)) ≡ placed l.places (map (λ v. v.items) l.files)
