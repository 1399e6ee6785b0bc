use Rattle.std.specs.Cmp.{both_ways}
use Rattle.toml.specs.View.{table_view}
use Rattle.image.specs.Labels.{address_of}
use Rattle.statement.proofs.PlaceLemmas.{found_is}
use Rattle.text_refusals.specs.FaultyItems.{has_in}
use Rattle.text_refusals.proofs.asked.Asked.has.Goals as goal

pub returns : goal.returns
returns c =
    let d = c.args.self.now.document.now in
    let is = found_is (address_of d.labels.now) (table_view d.table.now) c.args.spot c.args.self.now.fault in
    both_ways c.has_fault_at.result (has_in c.args.self.now c.args.spot)
    (λ e. is.1 (c.has_fault_at.ensures.0 e))
    (λ e. c.has_fault_at.ensures.1 (is.0 e))
