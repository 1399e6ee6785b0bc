use Rattle.std.proofs.Common.{ℕ, sym, subst, arith}
use Rattle.numbered_walks.specs.Ordered.{IsGreatest}
use Rattle.numbered_walks.proofs.Finishing.{greatest_to, total_over}
use Rattle.numbered_walks.proofs.potentials.greatest_cost_to.Goals as goal

pub returns-in-Some : goal.returns-in-Some
returns-in-Some c =
    let graph = c.args.graph in
    let found = c.requires.found in
    subst (λ (n : ℕ). IsGreatest c.args.place graph.edges.now graph.spans.now n) (sym c.in-Some.ensures)
    (greatest_to graph.exit graph.edges.now graph.spans.now c.args.tables.now c.requires.graph.ordered found.passed found.closes c.args.place (omega (arith, c.requires.known)))

pub returns-in-None : goal.returns-in-None
returns-in-None c =
    let graph = c.args.graph in
    let found = c.requires.found in
    absurd (found.none_too_large
    (total_over graph.exit graph.edges.now graph.spans.now c.args.tables.now c.requires.graph.ordered found.passed found.closes c.args.place
    (omega (arith, c.requires.known)) (omega (arith, c.in-None.ensures))))
