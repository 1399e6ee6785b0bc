use Rattle.std.proofs.Common.{refl}
use Rattle.longest_walk.proofs.Carrying.{carried, allowed}
use Rattle.longest_walk.proofs.greatest.longest.Goals as goal

pub returns-clause-longest : goal.returns-clause-longest
returns-clause-longest c =
    carried c.args.graph.now c.args.tree.now c.profile.ensures.well_formed c.requires c.in_ok-index.tables c.in_ok-index.ensures.found.found _ refl c.profile.ensures.value c.in_ok-walk.ensures.walk c.in_ok-places.ensures c.in_ok-instances.ensures

pub returns-clause-allowed : goal.returns-clause-allowed
returns-clause-allowed c = allowed c.args.graph.now c.args.tree.now _ (returns-clause-longest c)
