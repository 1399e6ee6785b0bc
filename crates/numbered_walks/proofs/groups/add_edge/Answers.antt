use Rattle.numbered_walks.proofs.Grouping.{group_more}
use Rattle.numbered_walks.proofs.groups.add_edge.Goals as goal

pub returns-clause-added : goal.returns-clause-added
returns-clause-added c = λ up side all.
    group_more c.args.edges.now c.args.number up c.args.groups.now.items c.index_mut.result.now c.push.new.self c.requires.known c.index_mut.ensures.value c.in_ok-push.ensures.items side all
