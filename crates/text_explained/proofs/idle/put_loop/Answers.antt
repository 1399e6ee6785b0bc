use Rattle.std.proofs.Common.{◌≡◌, ◌⊎◌, ◌∙◌, inl, inr, sym, true}
use Rattle.std.specs.BTreeSet.{contains}
use Rattle.std.specs.Ordering.{nat_cmp}
use Rattle.std.proofs.lemmas.Result.{on_ok_weaker}
use Rattle.text_explained.specs.Idle.{LoopCounts, is_with_others, loop_row}
use Rattle.text_explained.proofs.IdleLaws.{counted_row, idle_row, neither, not_both}
use Rattle.text_explained.proofs.idle.put_loop.Goals as goal

pub returns-then-is_with_others : goal.returns-then-is_with_others
returns-then-is_with_others c =
    counted_row (LoopCounts c.args.apart.now c.args.graph.now c.args.stated.now ⊎ (is_with_others c.args.seen.together (contains nat_cmp c.args.seen.reached.now) c.args.stated.now.header ≡ true)) (loop_row c.args.stated.now.header) c.args.out.now.items
    (inr (sym c.is_with_others.ensures ∙ c.if-is_with_others.true))

pub returns-then-turns_back : goal.returns-then-turns_back
returns-then-turns_back c =
    counted_row (LoopCounts c.args.apart.now c.args.graph.now c.args.stated.now ⊎ (is_with_others c.args.seen.together (contains nat_cmp c.args.seen.reached.now) c.args.stated.now.header ≡ true)) (loop_row c.args.stated.now.header) c.args.out.now.items
    (inl (sym c.turns_back.ensures ∙ c.if-turns_back.true))

pub returns : goal.returns
returns c =
    let Counts = LoopCounts c.args.apart.now c.args.graph.now c.args.stated.now in
    let others = is_with_others c.args.seen.together (contains nat_cmp c.args.seen.reached.now) c.args.stated.now.header in
    on_ok_weaker c.put_between.result
    (idle_row (Counts ⊎ (others ≡ true)) (loop_row c.args.stated.now.header) c.args.out.now.items c.put_between.new.out.items
    (neither Counts others (not_both c.turns_back.result Counts (λ counts. c.turns_back.ensures ∙ counts) c.if-turns_back.false)
    (sym c.is_with_others.ensures ∙ c.if-is_with_others.false)))
    c.put_between.ensures
