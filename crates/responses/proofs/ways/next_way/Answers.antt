use Rattle.std.proofs.Common.{◌∙◌}
use Rattle.std.proofs.lemmas.Bool.{both_ways}
use Rattle.responses.proofs.WayLemmas.{grown_apart, grown_before, grown_there}
use Rattle.responses.proofs.ways.next_way.Goals as goal

pub returns-then-not-is_next_reached : goal.returns-then-not-is_next_reached
returns-then-not-is_next_reached c = λ at is known.
    grown_apart c.args.graph.edges.now at c.args.ways.now known
    (λ h. both_ways c.is_next_reached.result c.if-not-is_next_reached.true
    (c.is_next_reached.ensures.1 h))

pub returns-then-there : goal.returns-then-there
returns-then-there c = λ at is known.
    grown_there c.args.graph.edges.now at c.args.ways.now known
    (c.is_next_reached.ensures.0 c.if-not-is_next_reached.false) (is ∙ c.if-there.true)

pub returns : goal.returns
returns c = λ at is known.
    grown_before c.args.graph.edges.now at c.args.ways.now known
    (c.is_next_reached.ensures.0 c.if-not-is_next_reached.false) (is ∙ c.if-there.false)
