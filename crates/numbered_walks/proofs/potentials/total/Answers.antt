use Rattle.std.proofs.Common.{◌≡◌, get_or}
use Rattle.std.proofs.lemmas.List.Elements.{Contains-get_or}
use Rattle.numbered_walks.specs.Tables.{total_of, needed}
use Rattle.numbered_walks.proofs.Finishing.{total-needed}
use Rattle.numbered_walks.proofs.potentials.total.Goals as goal

pub returns : goal.returns
returns c =
    let same : needed c.args.graph.spans.now c.args.tables.now (record { from = c.args.place; to = c.args.graph.exit; cost = 0 }) ≡ total_of c.args.graph.spans.now c.args.tables.now c.args.place = total-needed c.args.graph.spans.now c.args.tables.now c.args.graph.exit c.args.place (λ k d inside. (c.requires.graph.ordered.shape (get_or c.args.graph.spans.now k d) (Contains-get_or c.args.graph.spans.now k d inside)).1) in
    rw (← same) c.needed_in.ensures
