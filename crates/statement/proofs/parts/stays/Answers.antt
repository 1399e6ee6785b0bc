use Rattle.std.proofs.Common.{ap, not, true, unwrap_or, ◌∙◌}
use Rattle.statement.proofs.parts.stays.Goals as goal

pub returns : goal.returns
returns c = ap not (c.unwrap_or.ensures ∙ ap (λ o. unwrap_or o true) c.kind_goes.ensures)
