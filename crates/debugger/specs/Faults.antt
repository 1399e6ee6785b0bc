-- The names of the refusals.
use Rattle.std.specs.Prelude.{ℕ, List, codes}
use Rattle.debugger.specs.declared.fault.DebugFault.{DebugFault}
use Rattle.debugger.specs.declared.fault.DebugFault.TheVariants.{Memory, UnknownCommand, BadNumber, NoPage}
use Rattle.debugger.specs.declared.fault.DebugFault.TheVariants.{MachineStopped, TooManyBreaks}

abbrev pub fault_name : DebugFault → List ℕ
fault_name Memory = codes "Memory"
fault_name UnknownCommand = codes "UnknownCommand"
fault_name BadNumber = codes "BadNumber"
fault_name NoPage = codes "NoPage"
fault_name MachineStopped = codes "MachineStopped"
fault_name TooManyBreaks = codes "TooManyBreaks"
