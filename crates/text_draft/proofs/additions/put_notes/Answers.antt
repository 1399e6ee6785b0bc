use Rattle.std.proofs.Common.{◌∙◌, ◌++◌, ap}
use Rattle.std.proofs.lemmas.Result.{on_ok_weaker}
use Rattle.std.specs.List.{flat_map}
use Rattle.assembler.proofs.PutLaws.{joined, three}
use Rattle.text_draft.specs.DraftOnText.{note_text}
use Rattle.text_draft.specs.DraftText.{cycle_text, end_text, full_text}
use Rattle.text_draft.specs.Lacking.{lacking_of}
use Rattle.text_draft.proofs.additions.put_notes.Goals as goal

pub returns : goal.returns
returns c =
    let found = c.args.found.now in
    let lines = c.args.sheet.now.lines.now in
    let ends = flat_map (end_text lines) found.ends.items in
    let cycles = flat_map (cycle_text lines) found.loops.cycles.items in
    on_ok_weaker c.put_cycles.result
    (λ last. three c.args.out.now.items (note_text c.args.begun.now (lacking_of found)) (full_text found.full) (ends ++ cycles)
    (c.in_ok-put.ensures ∙ ap (λ t. c.args.out.now.items ++ t) c.note_text.ensures)
    c.in_ok-put_full.ensures
    (joined c.put_full.new.out.items c.put_ends.new.out.items c.put_cycles.new.out.items ends cycles
    (c.in_ok-put_ends.ensures ∙ ap (λ xs. c.put_full.new.out.items ++ flat_map (end_text lines) xs) c.deref.ensures.value)
    (last ∙ ap (λ xs. c.put_ends.new.out.items ++ flat_map (cycle_text lines) xs) c.deref-2.ensures.value)))
    c.put_cycles.ensures
