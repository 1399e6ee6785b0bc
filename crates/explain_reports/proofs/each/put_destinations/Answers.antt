use Rattle.std.proofs.Common.{ℕ}
use Rattle.statement.specs.Stated.{Stated}
use Rattle.text_rows.proofs.RowLaws.{so_far_all}
use Rattle.explain_reports.specs.Each.{IsEachRow}
use Rattle.explain_reports.proofs.EachLemmas.{rows_none, rows_one}
use Rattle.explain_reports.proofs.each.put_destinations.Goals as goal

pub loop-destination-preserved : goal.loop-destination-preserved
loop-destination-preserved c =
    rows_one (λ (s : Stated) (d : ℕ). IsEachRow c.args.sight.read.now s c.args.sight.profile.now c.args.at d) c.args.to.now c.args.out.now.items c.args.statement.now c.loop-destination.destination-index _ c.loop-destination.out.items
    c.put_destination.new.out.items c.loop-destination.statement c.put_destination.new.statement c.loop-destination.invariant c.loop-destination-test.true c.in_ok-put_destination.ensures.same c.in_ok-put_destination.ensures.row

pub returns-clause-same : goal.returns-clause-same
returns-clause-same c = c.loop-destination.invariant.same

pub returns-clause-rows : goal.returns-clause-rows
returns-clause-rows c =
    so_far_all (IsEachRow c.args.sight.read.now c.args.statement.now c.args.sight.profile.now c.args.at) c.args.to.now c.loop-destination.destination-index c.args.out.now.items c.loop-destination.out.items
    c.loop-destination.invariant.rows c.loop-destination-test.false

pub loop-destination-init : goal.loop-destination-init
loop-destination-init c =
    rows_none (λ (s : Stated) (d : ℕ). IsEachRow c.args.sight.read.now s c.args.sight.profile.now c.args.at d) c.args.to.now c.args.out.now.items c.args.statement.now
