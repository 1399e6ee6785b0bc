use Rattle.std.proofs.lemmas.Result.{IfOk-weaker}
use Rattle.std.specs.BTreeMap.{get}
use Rattle.std.specs.Ordering.{nat_cmp}
use Rattle.longest_walk.specs.Folded.{unfolded}
use Rattle.text_explained.specs.Costing.{figures_of, first_of}
use Rattle.text_explained.specs.Table.{starts_of, walk_figures}
use Rattle.text_explained.proofs.ImageLaws.{figures_are, table_same}
use Rattle.text_explained.proofs.table.cost_table.Goals as goal

pub returns : goal.returns
returns c =
    let handler = c.args.walk.handler.now in
    let longest = c.args.walk.longest.now in
    let starts = c.args.starts.latest.now in
    let first = first_of c.args.starts.first in
    let costing = c.in_ok-costing.costing in
    let is = c.in_ok-costing.ensures in
    let prices = get nat_cmp costing.prices in
    let walk = walk_figures handler.graph (unfolded longest.walk) (starts_of handler.graph.places starts first) longest.bound prices in
    IfOk-weaker c.costed_table.result _ _
    (λ text table. (prices, is.prices, table_same (figures_of costing) walk c.args.form c.args.source.now text.items (figures_are handler.image.now handler.statement handler.graph longest starts first costing is) table))
    c.costed_table.ensures
