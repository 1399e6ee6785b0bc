use Rattle.std.proofs.Common.{length, sym}
use Rattle.cert_check.proofs.PassLemmas.{can_weigh, moved, passes_down, passes_up}
use Rattle.cert_check.proofs.row_tests.edge_passes.Goals as goal

pub passes-requires : goal.passes-requires
passes-requires c =
    let w = c.weighing_of.ensures in
    rw (w.spans, w.index, c.edges.ensures)
    (can_weigh c.args.indexed.graph.now c.args.indexed.tree.now w.well_formed c.requires.indexed.tree c.args.cert.now c.args.tables.now c.requires.tables c.args.number c.requires.inside c.args.indexed.index.now c.requires.indexed.index)

pub returns : goal.returns
returns c =
    let flow = c.args.indexed.graph.now in
    let tree = c.args.indexed.tree.now in
    let tables = c.args.tables.now in
    let w = c.weighing_of.ensures in
    let own = c.weighing_of.result in
    let row = rw w.tables at c.passes.ensures in (
      λ yes. passes_up flow tree w.well_formed c.requires.indexed.tree c.args.cert.now tables c.requires.tables c.args.number c.requires.inside c.args.test
          (moved own.exit (length flow.places) own.spans.now tree.spans c.edges.result.now tree.edges tables c.args.test c.args.number w.exit w.spans c.edges.ensures (row.0 yes)),
      λ asks. row.1
          (moved (length flow.places) own.exit tree.spans own.spans.now tree.edges c.edges.result.now tables c.args.test c.args.number (sym w.exit) (sym w.spans) (sym c.edges.ensures)
          (passes_down flow tree w.well_formed c.requires.indexed.tree c.args.cert.now tables c.requires.tables c.args.number c.requires.inside c.args.test asks)),
    )
