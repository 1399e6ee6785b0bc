use Rattle.std.proofs.Common.{◌≡◌, ◌∷◌, [], ℕ, List}
use Rattle.justify_reports.specs.Rows.{IsClassRow}
use Rattle.justify_reports.specs.declared.rows.Row.{Row}
use Rattle.text_rows.proofs.RowLaws.{so_far_all, so_far_one}
use Rattle.justify_reports.proofs.rows.put_class_rows.Goals as goal

pub loop-at-preserved : goal.loop-at-preserved
loop-at-preserved c =
    so_far_one (λ (a : ℕ) (part : List Row). (row : Row) × IsClassRow c.args.handler.now.image.now c.args.handler.now.statement c.args.handler.now.graph c.args.handler.now.tree c.args.left.trusted.now c.args.left.outside.now a row × (part ≡ row ∷ [])) c.args.named.now c.loop-at.at-index _ c.args.rows.now.items c.loop-at.rows.items
    c.put_class_row.new.rows.items c.loop-at.invariant c.loop-at-test.true c.in_ok-put_class_row.ensures

pub returns : goal.returns
returns c =
    so_far_all (λ (a : ℕ) (part : List Row). (row : Row) × IsClassRow c.args.handler.now.image.now c.args.handler.now.statement c.args.handler.now.graph c.args.handler.now.tree c.args.left.trusted.now c.args.left.outside.now a row × (part ≡ row ∷ [])) c.args.named.now c.loop-at.at-index c.args.rows.now.items c.loop-at.rows.items
    c.loop-at.invariant c.loop-at-test.false
