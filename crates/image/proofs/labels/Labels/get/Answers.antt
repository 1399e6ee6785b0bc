use Rattle.std.proofs.Common.{◌∙◌}
use Rattle.image.proofs.LabelLemmas.{found}
use Rattle.image.proofs.labels.Labels.get.Goals as goal

pub returns : goal.returns
returns c = rw (← c.self.view_is) (c.copied.ensures ∙ c.get.ensures.value ∙ found c.self.inside.addresses.entries c.args.name.now)
