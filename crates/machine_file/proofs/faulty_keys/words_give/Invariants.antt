use Rattle.std.proofs.Common.{◌≡◌, drop, map}
use Rattle.toml.specs.View.{table_view}
use Rattle.machine_file.specs.MachinePlaceTests.{values_give, word_row}
use Rattle.machine_file.proofs.faulty_keys.words_give.Given as goal

abbrev pub invariant-loop-name : goal.invariant-loop-name
invariant-loop-name l =
    values_give (map (λ n. word_row n.now) (drop l.name-index l.names)) l.key (table_view l.table) l.fault
    ≡ values_give (map (λ n. word_row n.now) l.names) l.key (table_view l.table) l.fault
