use Rattle.std.proofs.Common.{[], Bool, codes, subst, sym, ◌∙◌}
use Rattle.std.specs.Prelude.{OnOk}
use Rattle.text_refusals.specs.Outline.{table_of}
use Rattle.text_refusals.specs.Refused.{Adds, row_if, table_row}
use Rattle.text_refusals.proofs.report.Report.put_if_misplaced.Goals as goal

pub returns-then-has : goal.returns-then-has
returns-then-has c =
    let row = table_row (table_of c.args.entry.now.table.now) (codes " has its header outside first to last, or only one of these apart") [] in
    subst (λ (b : Bool). OnOk c.put_table.result (Adds (row_if b row) c.args.self.now c.put_table.new.self))
    (sym (sym c.has.ensures ∙ c.if-has.true)) c.put_table.ensures
