use Rattle.std.proofs.Common.{◌∙◌, ℕ, List, get_or, length, ap, sym}
use Rattle.std.proofs.lemmas.List.{get_or_default}
use Rattle.control_flow.specs.declared.edges.Edge.{Edge}
use Rattle.control_flow.proofs.Firsts.{no_edge}
use Rattle.numbered_walks.specs.declared.span.NumberedEdge.{NumberedEdge}
use Rattle.numbered_walks.specs.declared.span.Span.{Span}
use Rattle.numbered_walks.specs.Index.{edge_at}
use Rattle.cert_check.specs.Weighing.{NumberFits, NumberHolds}
use Rattle.cert_check.proofs.PassLemmas.{can_weigh, carried, fits_down, holds_up}
use Rattle.cert_check.proofs.RowNumbers.{is_heavy}
use Rattle.cert_check.proofs.failing_edge.heavy_row.Goals as goal

pub weight-needed-requires : goal.weight-needed-requires
weight-needed-requires c =
    let flow = c.args.indexed.graph.now in
    let tree = c.args.indexed.tree.now in
    let tables = c.args.tables.now in
    let w = c.weighing_of.ensures in
    let own = c.weighing_of.result in
    let Fits = λ (x : ℕ) (ss : List Span) (es : List NumberedEdge). NumberFits x ss tables (edge_at es c.args.number) in
    let Holds = λ (x : ℕ) (ss : List Span) (es : List NumberedEdge). NumberHolds x ss tables (edge_at es c.args.number) in
    record {
      can_weigh =
          rw (w.spans, w.index, c.edges.ensures)
          (can_weigh flow tree w.well_formed c.requires.indexed.tree c.args.cert.now tables c.requires.tables c.args.number c.requires.inside c.args.indexed.index.now c.requires.indexed.index);
      fits =
          rw w.tables
          (carried Fits (length flow.places) own.exit tree.spans own.spans.now tree.edges c.edges.result.now (sym w.exit) (sym w.spans) (sym c.edges.ensures)
          (fits_down flow tree w.well_formed c.requires.indexed.tree c.args.cert.now tables c.requires.tables c.args.number c.requires.inside c.requires.fits));
      fails =
          rw w.tables
          (λ holds.
          c.requires.fails
          (holds_up flow tree w.well_formed c.requires.indexed.tree c.args.cert.now tables c.requires.tables c.args.number c.requires.inside
          (carried Holds own.exit (length flow.places) own.spans.now tree.spans c.edges.result.now tree.edges w.exit w.spans c.edges.ensures holds)));
    }

pub returns : goal.returns
returns c =
    let flow = c.args.indexed.graph.now in
    let w = c.weighing_of.ensures in
    let own = c.weighing_of.result in
    let edge = c.index-edges-number.result in
    let edge_is = c.index-edges-number.is ∙ ap (λ (xs : List Edge). get_or xs c.args.number edge) c.edges-2.ensures.value ∙ get_or_default flow.edges c.args.number edge no_edge c.requires.inside in
    let weight_is = rw w.tables at c.weight-needed.ensures in
    record {
      edge = edge_is;
      heavy =
          is_heavy flow c.args.indexed.tree.now w.well_formed c.requires.indexed.tree c.args.cert.now c.args.tables.now c.requires.tables c.args.number c.requires.inside
          (record { edge = edge; needed = c.weight-needed.result.0; stated = c.weight-needed.result.1 })
          own.exit own.spans.now c.edges.result.now edge_is w.exit w.spans c.edges.ensures weight_is.needed weight_is.stated weight_is.less;
    }
