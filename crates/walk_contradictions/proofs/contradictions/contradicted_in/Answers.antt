use Rattle.longest_walk.specs.Folded.{unfolded}
use Rattle.std.specs.BTreeSet.{contains}
use Rattle.std.specs.Ordering.{nat_cmp}
use Rattle.walk_contradictions.specs.Passing.{In}
use Rattle.walk_contradictions.proofs.LinkLemmas.{both_ways_marked, lacking, nowhere}
use Rattle.walk_contradictions.proofs.contradictions.contradicted_in.Goals as goal

pub returns : goal.returns
returns c =
    both_ways_marked c.args.image.now (unfolded c.args.items.now) (In c.none-none.result) (In c.none-none.result) (contains nat_cmp c.new-named.result)
    (contains nat_cmp c.mark_items.new.named) (contains nat_cmp c.mark_items-2.new.named) (lacking c.none-none.result c.none-none.ensures)
    (lacking c.none-none.result c.none-none.ensures) (nowhere c.new-named.result c.new-named.ensures.empty) c.in_ok-mark_items.ensures c.in_ok-mark_items-2.ensures
