use Rattle.longest_walk.specs.Folded.{unfolded}
use Rattle.walk_contradictions.proofs.LinkLemmas.{are_contradicted, both_ok}
use Rattle.walk_contradictions.proofs.contradictions.contradicted_words.Goals as goal

pub returns : goal.returns
returns c =
    both_ok c.sorted.result _ _ _
    (λ words keys ascending. are_contradicted c.args.image.now (unfolded c.args.walk.now) c.in_ok-named.named words.items c.in_ok-named.ensures keys ascending)
    c.sorted.ensures.keys c.sorted.ensures.ascending
