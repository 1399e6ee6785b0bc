use Rattle.std.proofs.Common.{◌++◌, List, ap, drop, length, subst, take}
use Rattle.longest_walk.specs.Folded.{unfolded}
use Rattle.longest_walk.specs.declared.folded.Item.{Item}
use Rattle.walk_counts.specs.Counts.{Counts}
use Rattle.walk_counts.proofs.CountLemmas.{exact, first_counts, total}
use Rattle.walk_counts.proofs.counting.edge_counts.Goals as goal

pub returns-clause-counts : goal.returns-clause-counts
returns-clause-counts c =
    let counts = c.in_ok-counts.counts in
    first_counts c.args.graph.now.edges (unfolded c.args.walk.now) (length c.edges.result.now) counts.len counts.items c.deref_mut.result.now c.count_items.new.counts
    (ap length c.edges.ensures.value) c.in_ok-counts.ensures.len (c.in_ok-counts.ensures.items_if_clones_equal (λ y same. same)) c.deref_mut.ensures.value
    (subst (λ (items : List Item). Counts c.args.graph.now.edges (unfolded items) 1 c.deref_mut.result.now c.count_items.new.counts) c.items.ensures c.count_items.ensures)

pub returns-clause-exact : goal.returns-clause-exact
returns-clause-exact c =
    let items = take c.in_ok-counts.counts.len (c.count_items.new.counts ++ drop (length c.count_items.new.counts) c.in_ok-counts.counts.items) in
    λ along fits. exact c.args.graph.now (unfolded c.args.walk.now) items c.edges.ensures.well_formed (returns-clause-counts c) along fits

pub returns-clause-total : goal.returns-clause-total
returns-clause-total c =
    let items = take c.in_ok-counts.counts.len (c.count_items.new.counts ++ drop (length c.count_items.new.counts) c.in_ok-counts.counts.items) in
    λ tree cost walk fits. total c.args.graph.now c.args.walk.now items tree cost c.edges.ensures.well_formed (returns-clause-counts c) walk fits
