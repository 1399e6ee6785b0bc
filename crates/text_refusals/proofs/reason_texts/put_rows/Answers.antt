use Rattle.text_refusals.specs.Rows.{IsRow}
use Rattle.text_rows.proofs.RowLaws.{so_far_all, so_far_none, so_far_one}
use Rattle.text_refusals.proofs.reason_texts.put_rows.Goals as goal

pub loop-at-init : goal.loop-at-init
loop-at-init c = so_far_none (IsRow c.args.words.now) c.args.named.now c.args.out.now.items

pub loop-at-preserved : goal.loop-at-preserved
loop-at-preserved c =
    so_far_one (IsRow c.args.words.now) c.args.named.now c.loop-at.at-index 0 c.args.out.now.items c.loop-at.out.items c.put_row.new.out.items
    c.loop-at.invariant c.loop-at-test.true c.in_ok-put_row.ensures

pub returns : goal.returns
returns c =
    so_far_all (IsRow c.args.words.now) c.args.named.now c.loop-at.at-index c.args.out.now.items c.loop-at.out.items
    c.loop-at.invariant c.loop-at-test.false
