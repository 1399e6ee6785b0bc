use Rattle.std.proofs.Common.{ℕ, List, subst}
use Rattle.std.proofs.lemmas.Result.{on_ok_weaker}
use Rattle.std.specs.BTreeMap.{get}
use Rattle.std.specs.Ordering.{nat_cmp}
use Rattle.justify_reports.specs.Rows.{AreFoundRows}
use Rattle.justify_reports.proofs.ReturnLemmas.{return_rows}
use Rattle.justify_reports.proofs.rows.put_return_rows.Goals as goal

pub returns : goal.returns
returns c =
    let h = c.args.handler.now in
    let found = get nat_cmp c.in_ok-found.found in
    on_ok_weaker c.put_found_rows.result
    (λ adds.
    let rows = adds.0 in (
      rows,
      return_rows h.image.now h.statement h.graph h.tree c.args.destinations.now found c.in_ok-found.ensures c.requires.tree_is c.in_ok-named.named.items rows
          c.in_ok-named.ensures
          (subst (λ (ns : List ℕ). AreFoundRows found ns rows) c.deref.ensures.value adds.1),
      adds.2,
    ))
    c.put_found_rows.ensures
