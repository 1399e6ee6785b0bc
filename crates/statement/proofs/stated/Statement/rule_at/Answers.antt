use Rattle.statement.specs.Stretches.{number_for}
use Rattle.statement.proofs.stated.Statement.rule_at.Goals as goal

pub returns : goal.returns
returns c =
    rw (← c.self.view_is) (c.value_at.ensures (number_for c.self.inside.rules.items) c.self.invariant.indexed)
