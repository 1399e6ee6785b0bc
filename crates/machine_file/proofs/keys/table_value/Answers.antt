use Rattle.std.proofs.Common.{◌≡◌, ◌∙◌, Some, ap, rules, sym}
use Rattle.toml.specs.Data.{Data, table}
use Rattle.toml.specs.View.{table_view, view}
use Rattle.machine_file.specs.Written.{table_value}
use Rattle.machine_file.proofs.TableOfLemmas.{tabled_full}
use Rattle.machine_file.proofs.keys.table_value.Goals as goal

pub returns : goal.returns
returns c =
    let seen : view c.from.result ≡ table (table_view c.args.inner) = search (rules, c.from.ensures) in
    let full : table_value (table_view c.args.inner) ≡ Some (table (table_view c.args.inner)) = tabled_full c.args.inner.entries c.is_empty.result c.is_empty.ensures c.if-is_empty.false in
    ap (λ (d : Data). Some d) seen ∙ sym full
