use Rattle.std.proofs.Common.{◌≡◌, ◌⊎◌, ◌∙◌, inl, inr, sym, true}
use Rattle.std.specs.BTreeSet.{contains}
use Rattle.std.specs.Ordering.{nat_cmp}
use Rattle.std.proofs.lemmas.Result.{on_ok_weaker}
use Rattle.text_explained.specs.Idle.{EntryCounts, entry_row, is_with_others}
use Rattle.text_explained.proofs.IdleLaws.{counted_row, idle_row, neither, not_both}
use Rattle.text_explained.proofs.idle.put_entry.Goals as goal

pub returns-then-is_with_others : goal.returns-then-is_with_others
returns-then-is_with_others c =
    counted_row (EntryCounts c.args.seen.image.now (contains nat_cmp c.args.seen.done.now) (contains nat_cmp c.args.seen.reached.now) c.args.entry c.args.at ⊎ (is_with_others c.args.seen.together (contains nat_cmp c.args.seen.reached.now) c.args.at ≡ true)) (entry_row c.args.entry c.args.at)
    c.args.out.now.items (inr (sym c.is_with_others.ensures ∙ c.if-is_with_others.true))

pub returns-then-entry_counts : goal.returns-then-entry_counts
returns-then-entry_counts c =
    counted_row (EntryCounts c.args.seen.image.now (contains nat_cmp c.args.seen.done.now) (contains nat_cmp c.args.seen.reached.now) c.args.entry c.args.at ⊎ (is_with_others c.args.seen.together (contains nat_cmp c.args.seen.reached.now) c.args.at ≡ true)) (entry_row c.args.entry c.args.at)
    c.args.out.now.items (inl (c.entry_counts.ensures.0 c.if-entry_counts.true))

pub returns : goal.returns
returns c =
    let Counts = EntryCounts c.args.seen.image.now (contains nat_cmp c.args.seen.done.now) (contains nat_cmp c.args.seen.reached.now) c.args.entry c.args.at in
    let others = is_with_others c.args.seen.together (contains nat_cmp c.args.seen.reached.now) c.args.at in
    on_ok_weaker c.put_row.result
    (idle_row (Counts ⊎ (others ≡ true)) (entry_row c.args.entry c.args.at) c.args.out.now.items c.put_row.new.out.items
    (neither Counts others (not_both c.entry_counts.result Counts c.entry_counts.ensures.1 c.if-entry_counts.false)
    (sym c.is_with_others.ensures ∙ c.if-is_with_others.false)))
    c.put_row.ensures
