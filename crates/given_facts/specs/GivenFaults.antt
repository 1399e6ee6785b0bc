-- The faults of files of facts, in their order.
use Rattle.std.specs.Prelude.{ℕ}
use Rattle.toml_reading.specs.Readings.{Faults}
use Rattle.given_facts.specs.declared.faults.GivenFault.{GivenFault}
use Rattle.given_facts.specs.declared.faults.GivenFault.TheVariants.{Memory, NotToml, UnknownKey, WrongKind}
use Rattle.given_facts.specs.declared.faults.GivenFault.TheVariants.{OutOfRange, Twice}

abbrev pub number_of : GivenFault → ℕ
number_of Memory = 1
number_of NotToml = 2
number_of UnknownKey = 3
number_of WrongKind = 4
number_of OutOfRange = 5
number_of Twice = 6

abbrev pub given_faults : Faults GivenFault
given_faults =
    record { rank = number_of; unknown_key = UnknownKey; wrong_kind = WrongKind; out_of_range = OutOfRange }
