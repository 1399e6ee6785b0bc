use Rattle.std.proofs.Common.{ℕ}
use Rattle.statement.specs.Stated.{Stated}
use Rattle.text_rows.proofs.RowLaws.{so_far_all}
use Rattle.explain_reports.specs.Each.{AreTargetRows}
use Rattle.explain_reports.proofs.EachLemmas.{rows_none, rows_one}
use Rattle.explain_reports.proofs.each.put_targets.Goals as goal

pub loop-at-preserved : goal.loop-at-preserved
loop-at-preserved c =
    rows_one (λ (s : Stated). AreTargetRows c.args.sight.read.now s c.args.sight.profile.now) c.args.addresses.now c.args.out.now.items c.args.statement.now c.loop-at.at-index _ c.loop-at.out.items
    c.put_target.new.out.items c.loop-at.statement c.put_target.new.statement c.loop-at.invariant c.loop-at-test.true c.in_ok-put_target.ensures.same c.in_ok-put_target.ensures.rows

pub returns : goal.returns
returns c =
    so_far_all (AreTargetRows c.args.sight.read.now c.args.statement.now c.args.sight.profile.now) c.args.addresses.now c.loop-at.at-index c.args.out.now.items c.loop-at.out.items
    c.loop-at.invariant.rows c.loop-at-test.false

pub loop-at-init : goal.loop-at-init
loop-at-init c = rows_none (λ (s : Stated). AreTargetRows c.args.sight.read.now s c.args.sight.profile.now) c.args.addresses.now c.args.out.now.items c.args.statement.now
