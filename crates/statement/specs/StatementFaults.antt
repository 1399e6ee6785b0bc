-- The faults of statements, in their order.
use Rattle.std.specs.Prelude.{ℕ}
use Rattle.toml_reading.specs.Readings.{Faults}
use Rattle.statement.specs.declared.faults.StatementFault.{StatementFault}
use Rattle.statement.specs.declared.faults.StatementFault.TheVariants.{Memory, NotToml, UnknownKey, WrongKind}
use Rattle.statement.specs.declared.faults.StatementFault.TheVariants.{UnknownLabel, OutOfRange, Twice}

abbrev pub number_of : StatementFault → ℕ
number_of Memory = 1
number_of NotToml = 2
number_of UnknownKey = 3
number_of WrongKind = 4
number_of UnknownLabel = 5
number_of OutOfRange = 6
number_of Twice = 7

abbrev pub statement_faults : Faults StatementFault
statement_faults =
    record { rank = number_of; unknown_key = UnknownKey; wrong_kind = WrongKind; out_of_range = OutOfRange }
