use Rattle.std.proofs.Common.{◌∙◌, ap, refl, sym, subst}
use Rattle.std.specs.Borrow.{Bor}
use Rattle.std.specs.Prelude.{IfNone, option_map}
use Rattle.walks.proofs.RowLemmas.{find_some}
use Rattle.control_flow.specs.declared.edges.Edge.{Edge}
use Rattle.loop_bounds.specs.Extents.{found_instance}
use Rattle.text_refusals.specs.Entries.{IsRightlyEntered, enters_mid, is_mid}
use Rattle.text_refusals.proofs.EntryLemmas.{find_none}
use Rattle.text_refusals.proofs.mid_entries.entry_of.Goals as goal

pub returns-in_err-edge-clause-none : goal.returns-in_err-edge-clause-none
returns-in_err-edge-clause-none c =
    let i = found_instance c.args.apart.now c.args.instance in
    let flow = c.args.graph.now in
    subst (λ r. IfNone r (IsRightlyEntered flow i)) (sym c.from_residual.ensures)
    (record {
      entry = ap (is_mid i) (sym c.entry-place.ensures.value) ∙ sym c.is_mid.ensures ∙ c.if-is_mid.false;
      edges = λ e has. find_none (enters_mid i) flow.edges e (sym c.entering.ensures ∙ ap (option_map (λ (x : Bor Edge). x.now)) (c.in_err-edge.was {u = tt})) has;
    })

pub returns-clause-entry : goal.returns-clause-entry
returns-clause-entry c =
    let found =
    find_some (enters_mid (found_instance c.args.apart.now c.args.instance)) c.args.graph.now.edges c.in_ok-edge.edge.now
    (sym c.entering.ensures ∙ ap (option_map (λ (x : Bor Edge). x.now)) (c.in_ok-edge.was {u = tt})) in
    (found.0, refl, found.1)
