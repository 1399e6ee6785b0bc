use Rattle.std.proofs.Common.{sym, ◌∙◌}
use Rattle.std.specs.Cmp.{both_ways}
use Rattle.toml.specs.View.{table_view}
use Rattle.given_facts.specs.GivenPlaceTests.{found}
use Rattle.given_facts.proofs.PlaceLemmas.{found_is}
use Rattle.text_refusals.proofs.FileLemmas.{given_same}
use Rattle.text_refusals.proofs.asked_given.given_has.Goals as goal

pub returns : goal.returns
returns c =
    let ms = table_view c.args.document.now.table.now in
    let is = found_is ms c.args.spot c.args.fault in
    both_ways c.has_fault_at.result (found ms c.args.spot c.args.fault)
    (λ e. is.1 (c.has_fault_at.ensures.0 e))
    (λ e. c.has_fault_at.ensures.1 (is.0 e))
    ∙ sym (given_same ms c.args.spot c.args.fault)
