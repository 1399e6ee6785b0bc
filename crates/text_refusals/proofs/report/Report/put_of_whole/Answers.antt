use Rattle.std.proofs.Common.{Bool, List, map, subst}
use Rattle.std.specs.Prelude.{codes}
use Rattle.std.proofs.lemmas.Result.{on_ok_weaker}
use Rattle.statement.specs.declared.spots.Key.TheVariants as key
use Rattle.statement.specs.declared.spots.Part.TheVariants as part
use Rattle.statement.specs.declared.spots.Spot.TheVariants.{Own}
use Rattle.text_refusals.specs.FaultyItems.{has_in}
use Rattle.text_refusals.specs.Outline.{item_of}
use Rattle.text_refusals.specs.Refused.{Adds, Row, extra_rows, row_if}
use Rattle.text_refusals.proofs.RefusedLemmas.{adds_both}
use Rattle.text_refusals.proofs.report.Report.put_of_whole.Goals as goal

pub returns : goal.returns
returns c =
    let has = has_in c.args.asked.now in
    let items = map item_of c.args.items.now in
    let own : Bool → List Row = λ b. row_if b (record { line = 1; text = codes "the statement has no entry" }) in
    let start = c.args.self.now in
    let first = c.put_row_if.new.self in
    let entry = subst (λ (b : Bool). Adds (own b) start first) c.has-no_entry.ensures c.in_ok-put_row_if.ensures in
    on_ok_weaker c.put_extra.result
    (λ added. adds_both (own (has (Own (part.Missing key.Entry)))) (extra_rows has items) start first c.put_extra.new.self entry added)
    c.put_extra.ensures
