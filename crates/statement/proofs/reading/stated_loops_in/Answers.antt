use Rattle.std.proofs.Common.{ap, subst, sym, ◌∙◌}
use Rattle.std.specs.Prelude.{IfOk}
use Rattle.toml.specs.View.{table_view}
use Rattle.image.specs.Labels.{address_of}
use Rattle.toml_reading.specs.Documents.{tables_up_to}
use Rattle.toml_reading.specs.Readings.{and_then, pair, reading_map}
use Rattle.statement.specs.ReadingParts.{AreBounded, pair_of}
use Rattle.statement.specs.Statement.{loop_at, placed_loops}
use Rattle.statement.specs.StatementFaults.{statement_faults}
use Rattle.statement.proofs.StatementLemmas.{pair_are_whole, pair_whole, stored_pair}
use Rattle.statement.proofs.reading.stated_loops_in.Goals as goal

pub placed_loops-requires : goal.placed_loops-requires
placed_loops-requires c =
    let names = address_of c.args.labels.now in
    let loops = c.in_ok-loops.ensures ∙ ap (tables_up_to statement_faults 256 (loop_at names)) c.value_at.ensures in
    let read = ap (reading_map pair_of) c.pair.ensures ∙ stored_pair c.in_ok-loops.loops c.in_ok-apart.apart ∙ (λ i. pair statement_faults (loops i) (c.in_ok-apart.ensures i)) in
    pair_are_whole c.pair.result (subst (λ r. IfOk r (λ p. AreBounded p.0)) (sym read) (pair_whole names (table_view c.args.table.now)))

pub returns : goal.returns
returns c =
    let names = address_of c.args.labels.now in
    let loops = c.in_ok-loops.ensures ∙ ap (tables_up_to statement_faults 256 (loop_at names)) c.value_at.ensures in
    let read = ap (reading_map pair_of) c.pair.ensures ∙ stored_pair c.in_ok-loops.loops c.in_ok-apart.apart ∙ (λ i. pair statement_faults (loops i) (c.in_ok-apart.ensures i)) in
    c.placed_loops.ensures ∙ ap (λ r. and_then r placed_loops) read
