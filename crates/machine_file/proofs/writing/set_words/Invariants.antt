use Rattle.std.proofs.Common.{◌≡◌, map, take}
use Rattle.std.specs.List.{zip}
use Rattle.toml.specs.View.{table_view}
use Rattle.machine_file.specs.Written.{register_row, with_rows}
use Rattle.machine_file.proofs.writing.set_words.Given as goal

abbrev pub invariant-loop-i : goal.invariant-loop-i
invariant-loop-i l =
    table_view l.table ≡ with_rows (table_view l.fn.table) (map register_row (zip (map (λ n. n.now) l.names) (take l.i l.words)))
