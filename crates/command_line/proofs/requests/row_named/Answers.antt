use Rattle.command_line.proofs.RowLaws.{usage_found}
use Rattle.command_line.proofs.requests.row_named.Goals as goal

pub returns : goal.returns
returns c = usage_found c.first_row.result c.args.rows.now c.args.name.now c.first_row.ensures
