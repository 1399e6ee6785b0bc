use Rattle.std.proofs.Common.{◌≡◌, ap, ◌∙◌, arith}
use Rattle.std.specs.List.{filter}
use Rattle.numbered_walks.specs.Ordered.{is_in}
use Rattle.numbered_walks.proofs.PassLemmas.{needed-held}
use Rattle.numbered_walks.proofs.row.needed_in.Goals as goal

pub returns : goal.returns
returns c =
    let held = c.deref.result.now in
    let same : held ≡ filter (λ s. is_in s c.args.edge.now.from) c.args.graph.spans.now = c.deref.ensures.value ∙ ap (λ v. v.items) c.index.ensures ∙ c.requires.graph.indexed.holders c.args.edge.now.from c.index.result.now (omega (arith, c.requires.known, c.requires.graph.indexed.all_held)) in
    rw (← needed-held c.args.graph.spans.now held c.args.tables.now c.args.edge.now same) c.needed_with.ensures
