use Rattle.std.proofs.lemmas.Bool.{both_ways}
use Rattle.numbered_walks.proofs.Grouping.{group_skip}
use Rattle.numbered_walks.proofs.groups.add_seen.Goals as goal

pub returns-then-is_of_side-clause-added : goal.returns-then-is_of_side-clause-added
returns-then-is_of_side-clause-added c = λ all. c.in_ok-add_edge.ensures.added c.args.up (c.is_of_side.ensures.0 c.if-is_of_side.true) all

pub returns-clause-added : goal.returns-clause-added
returns-clause-added c = λ all. group_skip c.args.edges.now c.args.number c.args.up c.args.groups.now.items (λ same. both_ways c.is_of_side.result c.if-is_of_side.false (c.is_of_side.ensures.1 same)) all
