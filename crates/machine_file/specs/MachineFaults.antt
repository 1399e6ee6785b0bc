-- The faults of machine files, in their order.
use Rattle.std.specs.Prelude.{ℕ}
use Rattle.toml_reading.specs.Readings.{Faults}
use Rattle.machine_file.specs.declared.machine_faults.MachineFileFault.{MachineFileFault}
use Rattle.machine_file.specs.declared.machine_faults.MachineFileFault.TheVariants.{Memory, NotToml}
use Rattle.machine_file.specs.declared.machine_faults.MachineFileFault.TheVariants.{UnknownKey, WrongKind}
use Rattle.machine_file.specs.declared.machine_faults.MachineFileFault.TheVariants.{OutOfRange, Twice}

abbrev pub number_of : MachineFileFault → ℕ
number_of Memory = 1
number_of NotToml = 2
number_of UnknownKey = 3
number_of WrongKind = 4
number_of OutOfRange = 5
number_of Twice = 6

abbrev pub machine_faults : Faults MachineFileFault
machine_faults =
    record { rank = number_of; unknown_key = UnknownKey; wrong_kind = WrongKind; out_of_range = OutOfRange }
