use Rattle.std.proofs.Common.{◌∙◌, ap, map}
use Rattle.toml.specs.View.{table_view}
use Rattle.machine_file.specs.Written.{with_optional}
use Rattle.machine_file.proofs.TableOfLemmas.{no_rows, rows_next}
use Rattle.machine_file.proofs.writing.set_words.Goals as goal

pub loop-i-init : goal.loop-i-init
loop-i-init c = no_rows (map (λ n. n.now) c.args.names.now) (table_view c.args.table.now)

pub loop-i-preserved : goal.loop-i-preserved
loop-i-preserved c =
    rows_next c.args.names.now c.args.words.now _ c.loop-i.i (table_view c.args.table.now) (table_view c.loop-i.table) (table_view c.set_optional.new.table) c.requires c.loop-i-test.true c.loop-i.invariant (c.in_ok-set_optional.ensures ∙ ap (with_optional (table_view c.loop-i.table) _) c.unless_zero.ensures)
