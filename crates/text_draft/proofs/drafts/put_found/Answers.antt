use Rattle.std.proofs.Common.{◌∙◌, ◌++◌, ap, codes}
use Rattle.std.proofs.lemmas.Result.{on_ok_weaker}
use Rattle.std.specs.List.{flat_map}
use Rattle.text_draft.specs.DraftText.{accesses_text, apart_text, candidates_text, cycle_text, end_text, loop_text, target_text}
use Rattle.text_draft.specs.Targets.{any_open}
use Rattle.text_draft.proofs.FlatLaws.{draft_whole}
use Rattle.text_draft.proofs.drafts.put_found.Goals as goal

pub returns : goal.returns
returns c =
    let found = c.args.found.now in
    let lines = c.args.sheet.now.lines.now in
    on_ok_weaker c.put_targets.result
    (λ last. draft_whole lines c.args.entry found.full found.ends.items found.loops.cycles.items found.loops.apart.items found.rules.items found.entries.items
    found.counted.items found.candidates.items found.targets.items c.args.out.now.items c.put_head.new.out.items
    c.put_full.new.out.items c.put_ends.new.out.items c.put_cycles.new.out.items c.put_apart.new.out.items c.put_accesses.new.out.items
    c.put_loops.new.out.items c.put_candidates.new.out.items c.put_targets.new.out.items
    c.in_ok-put_head.ensures c.in_ok-put_full.ensures
    (c.in_ok-put_ends.ensures ∙ ap (λ xs. c.put_full.new.out.items ++ flat_map (end_text lines) xs) c.deref.ensures.value)
    (c.in_ok-put_cycles.ensures ∙ ap (λ xs. c.put_ends.new.out.items ++ flat_map (cycle_text lines) xs) c.deref-2.ensures.value)
    (c.in_ok-put_apart.ensures ∙ ap (λ xs. c.put_cycles.new.out.items ++ apart_text lines xs) c.deref-3.ensures.value)
    (c.in_ok-put_accesses.ensures
    ∙ ap (λ rs. c.put_apart.new.out.items ++ accesses_text lines rs c.deref-5.result.now) c.deref-4.ensures.value
    ∙ ap (λ es. c.put_apart.new.out.items ++ accesses_text lines found.rules.items es) c.deref-5.ensures.value)
    (c.in_ok-put_loops.ensures ∙ ap (λ xs. c.put_accesses.new.out.items ++ flat_map (loop_text lines) xs) c.deref-6.ensures.value)
    (c.in_ok-put_candidates.ensures
    ∙ ap (λ xs. c.put_loops.new.out.items ++ candidates_text lines (codes "below") c.any_open.result xs) c.deref-8.ensures.value
    ∙ ap (λ b. c.put_loops.new.out.items ++ candidates_text lines (codes "below") b found.candidates.items)
    (c.any_open.ensures ∙ ap (λ ts. any_open ts) c.deref-7.ensures.value))
    (last ∙ ap (λ xs. c.put_candidates.new.out.items ++ flat_map (target_text lines) xs) c.deref-9.ensures.value))
    c.put_targets.ensures
