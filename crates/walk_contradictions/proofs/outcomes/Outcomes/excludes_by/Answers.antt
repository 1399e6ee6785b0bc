use Rattle.std.proofs.Common.{◌∙◌, sym}
use Rattle.walk_contradictions.proofs.FlagLemmas.{of_number}
use Rattle.walk_contradictions.proofs.outcomes.Outcomes.excludes_by.Goals as goal

pub returns-then-has : goal.returns-then-has
returns-then-has c =
    of_number c.args.self.now c.args.outcome c.args.number c.args.holds c.of.result c.of.ensures c.excludes.result c.excludes.ensures (sym c.has.ensures ∙ c.if-has.true)
