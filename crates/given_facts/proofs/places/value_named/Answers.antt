use Rattle.std.proofs.Common.{sym}
use Rattle.toml.specs.Data.{get_member}
use Rattle.toml.specs.View.{table_view}
use Rattle.given_facts.proofs.KeyNameLemmas.{utf8_in_table}
use Rattle.given_facts.proofs.TestLemmas.{none_if}
use Rattle.given_facts.proofs.places.value_named.Goals as goal

pub returns-in-Err : goal.returns-in-Err
returns-in-Err c =
    let value = get_member c.args.name.now (table_view c.args.table.now) in
    sym (none_if value (λ some. c.in-Err.ensures.cases.0 (utf8_in_table c.args.table.now c.args.name.now some)))
