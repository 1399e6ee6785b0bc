-- The names of faults, as a refusal's line has them.
use Rattle.std.specs.Prelude.{ℕ, List, codes}
use Rattle.assembler.specs.declared.fault.AsmFault.{AsmFault}
use Rattle.assembler.specs.declared.fault.AsmFault.TheVariants as asm_fault
use Rattle.assembler.specs.Faults.{name}
use Rattle.image.specs.declared.reading.ReadFault.{ReadFault}
use Rattle.image.specs.declared.reading.ReadFault.TheVariants as read_fault
use Rattle.loader.specs.declared.loading.LoadFault.{LoadFault}
use Rattle.loader.specs.declared.loading.LoadFault.TheVariants as load_fault
use Rattle.machine_file.specs.declared.machine_faults.MachineFileFault.{MachineFileFault}
use Rattle.machine_file.specs.declared.machine_faults.MachineFileFault.TheVariants as machine_fault
use Rattle.machine_file.specs.declared.profile_faults.ProfileFileFault.{ProfileFileFault}
use Rattle.machine_file.specs.declared.profile_faults.ProfileFileFault.TheVariants as profile_fault
use Rattle.control_flow.specs.declared.faults.BuildFault.{BuildFault}
use Rattle.control_flow.specs.declared.faults.BuildFault.TheVariants as build_fault
use Rattle.given_facts.specs.declared.faults.GivenFault.{GivenFault}
use Rattle.given_facts.specs.declared.faults.GivenFault.TheVariants as given_fault
use Rattle.statement.specs.declared.faults.StatementFault.{StatementFault}
use Rattle.statement.specs.declared.faults.StatementFault.TheVariants as statement_fault
use Rattle.loop_bounds.specs.declared.fault.NestFault.{NestFault}
use Rattle.loop_bounds.specs.declared.fault.NestFault.TheVariants as nest_fault
use Rattle.numbered_walks.specs.declared.fault.WalkFault.{WalkFault}
use Rattle.numbered_walks.specs.declared.fault.WalkFault.TheVariants as walk_fault
use Rattle.certificate.specs.declared.fault.CertFault.{CertFault}
use Rattle.certificate.specs.declared.fault.CertFault.TheVariants as cert_fault
use Rattle.objasm.specs.Faults as dialect_line
use Rattle.objasm.specs.declared.source.DialectFault.{DialectFault}
use Rattle.objasm.specs.declared.source.DialectFault.TheVariants as dialect_fault
use Rattle.handlers.specs.declared.fault.ReportFault.{ReportFault}
use Rattle.handlers.specs.declared.fault.ReportFault.TheVariants as report_fault

-- of a source that cannot be assembled: that of its line's fault
abbrev pub source_fault_name : AsmFault → List ℕ
source_fault_name asm_fault.Memory = codes "Memory"
source_fault_name (asm_fault.Line fault line) = name fault

abbrev pub image_fault_name : ReadFault → List ℕ
image_fault_name read_fault.Memory = codes "Memory"
image_fault_name read_fault.BadMagic = codes "BadMagic"
image_fault_name read_fault.Truncated = codes "Truncated"
image_fault_name read_fault.Overlap = codes "Overlap"
image_fault_name read_fault.Misaligned = codes "Misaligned"
image_fault_name read_fault.TrailingBytes = codes "TrailingBytes"
image_fault_name read_fault.OutOfRange = codes "OutOfRange"

abbrev pub statement_fault_name : StatementFault → List ℕ
statement_fault_name statement_fault.Memory = codes "Memory"
statement_fault_name statement_fault.NotToml = codes "NotToml"
statement_fault_name statement_fault.UnknownKey = codes "UnknownKey"
statement_fault_name statement_fault.WrongKind = codes "WrongKind"
statement_fault_name statement_fault.UnknownLabel = codes "UnknownLabel"
statement_fault_name statement_fault.OutOfRange = codes "OutOfRange"
statement_fault_name statement_fault.Twice = codes "Twice"

abbrev pub graph_fault_name : BuildFault → List ℕ
graph_fault_name build_fault.Memory = codes "Memory"
graph_fault_name (build_fault.OutsideImage address) = codes "OutsideImage"
graph_fault_name (build_fault.UnallocatedWord address) = codes "UnallocatedWord"
graph_fault_name (build_fault.TrapInHandler address) = codes "TrapInHandler"
graph_fault_name build_fault.TooDeep = codes "TooDeep"
graph_fault_name build_fault.TooManyPlaces = codes "TooManyPlaces"
graph_fault_name (build_fault.TargetNotWriter address) = codes "TargetNotWriter"
graph_fault_name (build_fault.UnstatedTarget address) = codes "UnstatedTarget"

abbrev pub loops_fault_name : NestFault → List ℕ
loops_fault_name nest_fault.Memory = codes "Memory"
loops_fault_name nest_fault.LoopsCross = codes "LoopsCross"
loops_fault_name nest_fault.SharedHeader = codes "SharedHeader"
loops_fault_name nest_fault.EntersMidLoop = codes "EntersMidLoop"
loops_fault_name nest_fault.UnboundedCycle = codes "UnboundedCycle"
loops_fault_name nest_fault.NestedTooDeep = codes "NestedTooDeep"

abbrev pub walk_fault_name : WalkFault → List ℕ
walk_fault_name walk_fault.Memory = codes "Memory"
walk_fault_name walk_fault.NoCompleteWalk = codes "NoCompleteWalk"
walk_fault_name walk_fault.BoundTooLarge = codes "BoundTooLarge"

abbrev pub machine_file_fault_name : MachineFileFault → List ℕ
machine_file_fault_name machine_fault.Memory = codes "Memory"
machine_file_fault_name machine_fault.NotToml = codes "NotToml"
machine_file_fault_name machine_fault.UnknownKey = codes "UnknownKey"
machine_file_fault_name machine_fault.WrongKind = codes "WrongKind"
machine_file_fault_name machine_fault.OutOfRange = codes "OutOfRange"
machine_file_fault_name machine_fault.Twice = codes "Twice"

abbrev pub load_fault_name : LoadFault → List ℕ
load_fault_name load_fault.Memory = codes "Memory"
load_fault_name load_fault.NoPage = codes "NoPage"

abbrev pub cert_fault_name : CertFault → List ℕ
cert_fault_name cert_fault.Memory = codes "Memory"
cert_fault_name (cert_fault.BadLine line) = codes "BadLine"
cert_fault_name cert_fault.Truncated = codes "Truncated"
cert_fault_name cert_fault.TrailingBytes = codes "TrailingBytes"

abbrev pub profile_fault_name : ProfileFileFault → List ℕ
profile_fault_name profile_fault.Memory = codes "Memory"
profile_fault_name profile_fault.NotToml = codes "NotToml"
profile_fault_name profile_fault.UnknownKey = codes "UnknownKey"
profile_fault_name profile_fault.WrongKind = codes "WrongKind"
profile_fault_name profile_fault.OutOfRange = codes "OutOfRange"
profile_fault_name profile_fault.Disordered = codes "Disordered"

abbrev pub given_fault_name : GivenFault → List ℕ
given_fault_name given_fault.Memory = codes "Memory"
given_fault_name given_fault.NotToml = codes "NotToml"
given_fault_name given_fault.UnknownKey = codes "UnknownKey"
given_fault_name given_fault.WrongKind = codes "WrongKind"
given_fault_name given_fault.OutOfRange = codes "OutOfRange"
given_fault_name given_fault.Twice = codes "Twice"

-- of a source in ObjAsm's dialect: that of its line's fault
abbrev pub dialect_fault_name : DialectFault → List ℕ
dialect_fault_name dialect_fault.Memory = codes "Memory"
dialect_fault_name (dialect_fault.Line fault line) = dialect_line.name fault

abbrev pub fault_name : ReportFault → List ℕ
fault_name report_fault.Memory = codes "Memory"
fault_name (report_fault.Source fault) = source_fault_name fault
fault_name (report_fault.Image fault) = image_fault_name fault
fault_name (report_fault.Statement fault) = statement_fault_name fault
fault_name (report_fault.Graph fault) = graph_fault_name fault
fault_name (report_fault.Loops fault) = loops_fault_name fault
fault_name (report_fault.Walk fault) = walk_fault_name fault
fault_name (report_fault.MachineFile fault) = machine_file_fault_name fault
fault_name (report_fault.Load fault) = load_fault_name fault
fault_name (report_fault.Cert fault) = cert_fault_name fault
fault_name report_fault.Device = codes "Device"
fault_name (report_fault.Profile fault) = profile_fault_name fault
fault_name report_fault.NotFiqEntry = codes "NotFiqEntry"
fault_name report_fault.NoSuchEdge = codes "NoSuchEdge"
fault_name (report_fault.NotFree address) = codes "NotFree"
fault_name report_fault.NoSuchEntry = codes "NoSuchEntry"
fault_name report_fault.NotVector = codes "NotVector"
fault_name report_fault.NotReached = codes "NotReached"
fault_name (report_fault.WordsMeet address) = codes "WordsMeet"
fault_name (report_fault.Given fault) = given_fault_name fault
fault_name (report_fault.Dialect fault) = dialect_fault_name fault
