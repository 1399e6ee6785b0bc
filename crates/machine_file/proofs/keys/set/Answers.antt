use Rattle.std.proofs.Common.{ap, ◌∙◌}
use Rattle.toml.specs.View.{table_view, view}
use Rattle.machine_file.specs.Written.{with_key}
use Rattle.machine_file.proofs.TableOfLemmas.{view_insert}
use Rattle.machine_file.proofs.keys.set.Goals as goal

pub returns : goal.returns
returns c =
    rw c.in_ok-insert.ensures.entries (view_insert c.args.table.now.entries c.in_ok-key.key c.args.value ∙ ap (λ k. with_key k (view c.args.value) (table_view c.args.table.now)) c.in_ok-key.ensures.ok)
