-- The faults of cycle profile files, in their order.
use Rattle.std.specs.Prelude.{ℕ}
use Rattle.toml_reading.specs.Readings.{Faults}
use Rattle.machine_file.specs.declared.profile_faults.ProfileFileFault.{ProfileFileFault}
use Rattle.machine_file.specs.declared.profile_faults.ProfileFileFault.TheVariants.{Memory, NotToml}
use Rattle.machine_file.specs.declared.profile_faults.ProfileFileFault.TheVariants.{UnknownKey, WrongKind}
use Rattle.machine_file.specs.declared.profile_faults.ProfileFileFault.TheVariants.{OutOfRange, Disordered}

abbrev pub number_of : ProfileFileFault → ℕ
number_of Memory = 1
number_of NotToml = 2
number_of UnknownKey = 3
number_of WrongKind = 4
number_of OutOfRange = 5
number_of Disordered = 6

abbrev pub profile_faults : Faults ProfileFileFault
profile_faults =
    record { rank = number_of; unknown_key = UnknownKey; wrong_kind = WrongKind; out_of_range = OutOfRange }
