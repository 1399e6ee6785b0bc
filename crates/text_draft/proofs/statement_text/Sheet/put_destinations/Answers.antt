use Rattle.std.proofs.lemmas.Bool.{ne_eqb}
use Rattle.std.proofs.lemmas.Result.{on_ok_weaker}
use Rattle.text_draft.proofs.FlatLaws.{destinations_whole}
use Rattle.text_draft.proofs.statement_text.Sheet.put_destinations.Goals as goal

pub returns : goal.returns
returns c =
    on_ok_weaker c.put-3.result
    (destinations_whole c.args.self.now.lines.now c.args.table.first c.args.table.branches c.args.out.now.items c.put-2.new.out.items
    c.put_each_destination.new.out.items c.put-3.new.out.items (ne_eqb c.args.table.branches 0 c.if-table-eq0.false) c.in_ok-put.ensures
    c.in_ok-put_each_destination.ensures)
    c.put-3.ensures
