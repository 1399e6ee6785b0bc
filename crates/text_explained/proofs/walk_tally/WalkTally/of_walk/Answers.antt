use Rattle.std.proofs.Common.{List, ℕ, subst, sym}
use Rattle.std.proofs.lemmas.Result.{IfOk-weaker}
use Rattle.longest_walk.specs.Folded.{unfolded}
use Rattle.walk_counts.specs.Counts.{AreCounts}
use Rattle.text_explained.proofs.walk_tally.WalkTally.of_walk.Goals as goal

pub returns : goal.returns
returns c =
    IfOk-weaker c.of_counts.result _ _
    (λ tally is. is (unfolded c.args.walk.now)
    (subst (λ (xs : List ℕ). AreCounts c.args.graph.now.edges (unfolded c.args.walk.now) xs) (sym c.deref.ensures.value) c.in_ok-counts.ensures.counts))
    c.of_counts.ensures
