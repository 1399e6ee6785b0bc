use Rattle.std.proofs.Common.{◌≡◌, drop, map}
use Rattle.toml.specs.View.{table_view}
use Rattle.machine_file.specs.MachinePlaceTests.{misses_one, row_of}
use Rattle.machine_file.proofs.faulty_keys.misses_one.Given as goal

abbrev pub invariant-loop-name : goal.invariant-loop-name
invariant-loop-name l =
    misses_one (map row_of (drop l.name-index l.rows)) l.key (table_view l.table)
    ≡ misses_one (map row_of l.rows) l.key (table_view l.table)
