use Rattle.std.proofs.Common.{option_map}
use Rattle.toml.specs.View.{view}
use Rattle.image.specs.Labels.{address_of}
use Rattle.statement.proofs.StatementLemmas.{read_small}
use Rattle.statement.proofs.entries.direct.Goals as goal

pub invariant_of-result : goal.invariant_of-result
invariant_of-result c =
    read_small (address_of c.args.labels.now) (option_map (λ v. view v.now) c.args.value) c.in-Ok.kind c.in_ok-to.field-0 c.in-Ok-2.to c.in-Ok-2.is c.in_ok-to.ensures
