use Rattle.std.proofs.Common.{◌≡◌, ◌∷◌, [], List}
use Rattle.statement.specs.declared.stated.Loop.{Loop}
use Rattle.justify_reports.specs.Rows.{IsLoopRow}
use Rattle.justify_reports.specs.declared.rows.Row.{Row}
use Rattle.text_rows.proofs.RowLaws.{so_far_all, so_far_one}
use Rattle.justify_reports.proofs.rows.put_loop_rows.Goals as goal

pub loop-stated-preserved : goal.loop-stated-preserved
loop-stated-preserved c =
    so_far_one (λ (l : Loop) (part : List Row). (row : Row) × IsLoopRow c.args.handler.now.tree c.args.left.trusted.now c.args.left.endless.now l row × (part ≡ row ∷ [])) c.args.loops.now c.loop-stated.stated-index _ c.args.rows.now.items c.loop-stated.rows.items
    c.put_loop_row.new.rows.items c.loop-stated.invariant c.loop-stated-test.true c.in_ok-put_loop_row.ensures

pub returns : goal.returns
returns c =
    so_far_all (λ (l : Loop) (part : List Row). (row : Row) × IsLoopRow c.args.handler.now.tree c.args.left.trusted.now c.args.left.endless.now l row × (part ≡ row ∷ [])) c.args.loops.now c.loop-stated.stated-index c.args.rows.now.items c.loop-stated.rows.items
    c.loop-stated.invariant c.loop-stated-test.false
