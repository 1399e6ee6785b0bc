use Rattle.std.proofs.Common.{sym, subst}
use Rattle.std.specs.Prelude.{IfOk}
use Rattle.toml.specs.View.{table_view}
use Rattle.image.specs.Labels.{address_of}
use Rattle.statement.specs.ReadingParts.{AreRead}
use Rattle.statement.proofs.StatementLemmas.{parts_hold}
use Rattle.statement.proofs.reading.statement_of.Goals as goal

pub stated_once-requires : goal.stated_once-requires
stated_once-requires c = subst (λ r. IfOk r AreRead) (sym c.in_ok-parts_of.ensures) (parts_hold (address_of c.args.labels.now) (table_view c.args.table.now))
