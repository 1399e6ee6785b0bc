use Rattle.std.proofs.Common.{sym, ◌∙◌}
use Rattle.toml.specs.View.{table_view}
use Rattle.given_facts.proofs.PlaceLemmas.{found_is}
use Rattle.given_facts.proofs.places.GivenDocument.has_fault_at.Goals as goal

pub returns : goal.returns
returns c =
    let is = found_is (table_view c.args.self.now.table.now) c.args.spot c.args.fault in
    (λ e. is.0 (sym c.found.ensures ∙ e), λ h. c.found.ensures ∙ is.1 h)
