use Rattle.std.proofs.Common.{◌∙◌, ap, ℕ}
use Rattle.std.specs.Prelude.{◌||◌, ◌&&◌, ◌==◌, nat_le, nat_lt}
use Rattle.std.specs.BTreeSet.{contains}
use Rattle.std.specs.Ordering.{nat_cmp}
use Rattle.text_explained.specs.PartSums.{in_group}
use Rattle.text_explained.proofs.LoopTableLaws.{cuts_between, noted_next}
use Rattle.text_explained.proofs.SetLaws.{all_put, has}
use Rattle.text_explained.proofs.loop_table.note_loop.Goals as goal

pub loop-cut-init : goal.loop-cut-init
loop-cut-init c = λ at n.
    let span = c.args.span in
    ap (λ b. in_group c.args.groups.now.by_key at n || (b && n == c.args.number))
    (ap (λ ks. has ks at) (c.into_iter-cut-iterator.ensures.into_iter_gives ∙ c.range-cut-items.ensures.between tt) ∙ cuts_between c.args.cuts.now span.first span.end at)

pub loop-cut-preserved : goal.loop-cut-preserved
loop-cut-preserved c =
    let span = c.args.span in
    noted_next (in_group c.loop-cut.groups.by_key) (in_group c.note.new.self.by_key)
    (λ (at n : ℕ). in_group c.args.groups.now.by_key at n || ((contains nat_cmp c.args.cuts.now at && (nat_le span.first at && nat_lt at span.end)) && n == c.args.number))
    c.in-Some.cut.now c.args.number c.loop-cut.cut-iterator c.next.new.self c.in-Some.ensures.steps c.loop-cut.invariant c.in_ok-note.ensures

pub returns : goal.returns
returns c = λ at n.
    let span = c.args.span in
    all_put (in_group c.loop-cut.groups.by_key at n)
    (in_group c.args.groups.now.by_key at n || ((contains nat_cmp c.args.cuts.now at && (nat_le span.first at && nat_lt at span.end)) && n == c.args.number))
    (has c.loop-cut.cut-iterator at && n == c.args.number) (ap (λ ks. has ks at && n == c.args.number) c.in-None.ensures.steps.0) (c.loop-cut.invariant at n)
