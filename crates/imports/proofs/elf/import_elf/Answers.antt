use Rattle.std.proofs.Common.{List, map, subst}
use Rattle.std.proofs.lemmas.Result.{IfOk-weaker}
use Rattle.imports.specs.Imported.{HoldsExactly, part_of, words_of}
use Rattle.imports.specs.declared.parts.Part.{Part}
use Rattle.imports.proofs.elf.import_elf.Goals as goal

pub returns-clause-words : goal.returns-clause-words
returns-clause-words c =
    let parts = c.in_ok-parts.parts.items in
    IfOk-weaker c.import_parts.result _ _ (λ image holds. (map part_of parts, c.in_ok-parts.ensures.parts, subst (λ (ps : List Part). HoldsExactly image (words_of (map part_of ps))) c.deref.ensures.value holds)) c.import_parts.ensures.words
