use Rattle.walk_contradictions.proofs.TellLemmas.{next_backward, next_forward}
use Rattle.walk_contradictions.proofs.passing.Telling.next.Goals as goal

pub returns-in-Forward : goal.returns-in-Forward
returns-in-Forward c =
    λ words e telling. next_forward words e c.args.self.now telling c.args.direction c.in-Forward.is c.args.before.now c.joined_to.result c.left_of.result
    c.joined_to.ensures c.left_of.ensures

pub returns-in-Backward : goal.returns-in-Backward
returns-in-Backward c =
    λ words e telling. next_backward words e c.args.self.now telling c.args.direction c.in-Backward.is c.args.before.now c.left_of-in-Backward.result
    c.joined_to-in-Backward.result c.left_of-in-Backward.ensures c.joined_to-in-Backward.ensures
