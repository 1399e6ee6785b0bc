use Rattle.std.proofs.Common.{◌-◌, ◌∙◌, ◌++◌, [], ◌∷◌, ap, arith, drop, filter, length}
use Rattle.std.proofs.lemmas.List.{length-drop, take_all}
use Rattle.imports.specs.Elf.{is_loaded}
use Rattle.imports.specs.declared.elf.Segment.{Segment}
use Rattle.imports.proofs.ElfLemmas.{reads_more}
use Rattle.imports.proofs.elf.loaded_in.Goals as goal

pub loop-left-preserved : goal.loop-left-preserved
loop-left-preserved c =
    let rest = c.loop-left.rest.now in
    let found = c.loop-left.segments.items in
    let some = c.loop-left-test.true in
    let long = length-drop 32 rest in
    reads_more c.args.headers.count c.args.headers.table.now c.loop-left.left rest found c.loop-left.invariant _ (omega (arith, some)) _
    (take_all (length rest - 32) (drop 32 rest) (omega (arith, long))) _
    (c.in_ok-add_loaded.ensures ∙ ap (λ (s : Segment). found ++ filter is_loaded (s ∷ [])) c.segment_in.ensures)
