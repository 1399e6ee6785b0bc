use Rattle.std.proofs.Common.{◌≡◌, drop, map}
use Rattle.toml.specs.View.{table_view}
use Rattle.machine_file.specs.MachinePlaceTests.{row_of, values_give}
use Rattle.machine_file.proofs.faulty_keys.values_give.Given as goal

abbrev pub invariant-loop-name : goal.invariant-loop-name
invariant-loop-name l =
    values_give (map row_of (drop l.name-index l.rows)) l.key (table_view l.table) l.fault
    ≡ values_give (map row_of l.rows) l.key (table_view l.table) l.fault
