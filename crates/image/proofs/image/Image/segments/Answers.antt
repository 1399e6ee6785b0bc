use Rattle.std.proofs.Common.{◌∙◌, ◌++◌}
use Rattle.image.proofs.RunLemmas.{counted}
use Rattle.image.proofs.image.Image.segments.Goals as goal

pub returns-clause-written : goal.returns-clause-written
returns-clause-written c = rw (← c.self.view_is) (c.self.invariant.counted ∙ counted (c.self.inside.below.items ++ c.self.inside.above.items))
