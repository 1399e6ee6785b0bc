use Rattle.std.proofs.Common.{◌∙◌}
use Rattle.loader.proofs.PlanLemmas.{searched_any}
use Rattle.loader.proofs.plan.is_held.Goals as goal

pub returns : goal.returns
returns c = c.is_ok.ensures.value ∙ searched_any c.args.held.now c.args.page c.binary_search.result c.requires c.binary_search.ensures.position
