use Rattle.std.proofs.Common.{refl}
use Rattle.statement.proofs.StretchLemmas.{value_met, value_unmet}
use Rattle.statement.proofs.stretches.value_at.Goals as goal

pub returns-in-Some : goal.returns-in-Some
returns-in-Some g c = λ value of.
    value_met c.args.stretches.now value _ c.args.address _ of refl refl c.in-Some.ensures

pub returns-in-None : goal.returns-in-None
returns-in-None g c = λ value of. value_unmet c.args.stretches.now value _ c.args.address of refl refl c.in-None.ensures
