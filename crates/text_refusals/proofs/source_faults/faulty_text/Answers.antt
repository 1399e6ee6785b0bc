use Rattle.std.proofs.Common.{[], refl, subst, sym}
use Rattle.text_rows.specs.Rows.{AreRows}
use Rattle.text_refusals.specs.Texts.{IsFaultyRow}
use Rattle.text_rows.proofs.RowLaws.{SoFar, so_far_all, so_far_none, so_far_one}
use Rattle.text_refusals.proofs.source_faults.faulty_text.Goals as goal

pub loop-line-init : goal.loop-line-init
loop-line-init c = subst (SoFar (IsFaultyRow c.args.source.now) c.args.lines.now 0 []) (sym c.new-out.ensures.items) (so_far_none (IsFaultyRow c.args.source.now) c.args.lines.now [])

pub loop-line-preserved : goal.loop-line-preserved
loop-line-preserved c =
    so_far_one (IsFaultyRow c.args.source.now) c.args.lines.now c.loop-line.line-index _ [] c.loop-line.out.items c.put_faulty.new.out.items c.loop-line.invariant
    c.loop-line-test.true (_, refl, c.in_ok-put_faulty.ensures)

pub returns : goal.returns
returns c =
    let all = so_far_all (IsFaultyRow c.args.source.now) c.args.lines.now c.loop-line.line-index [] c.loop-line.out.items c.loop-line.invariant c.loop-line-test.false in
    subst (AreRows (IsFaultyRow c.args.source.now) c.args.lines.now) (sym all.2) all.1
