use Rattle.std.proofs.Common.{sym}
use Rattle.std.specs.Prelude.{is_some}
use Rattle.std.proofs.lemmas.Bool.{false_from_ne_true}
use Rattle.toml.specs.Data.{get_member}
use Rattle.toml.specs.View.{table_view}
use Rattle.statement.proofs.KeyLemmas.{utf8_in_table}
use Rattle.statement.proofs.parts.has_name.Goals as goal

pub returns-in-Err : goal.returns-in-Err
returns-in-Err c =
    let table = table_view c.args.table.now in
    sym (false_from_ne_true (is_some (get_member c.args.name.now table)) (λ e. c.in-Err.ensures.cases.0 (utf8_in_table c.args.table.now c.args.name.now e)))
