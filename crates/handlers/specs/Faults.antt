-- Faults of the parts as a report's: lack of memory is one for all.
use Rattle.assembler.specs.declared.fault.AsmFault.{AsmFault}
use Rattle.assembler.specs.declared.fault.AsmFault.TheVariants as asm_fault
use Rattle.loader.specs.declared.loading.LoadFault.{LoadFault}
use Rattle.loader.specs.declared.loading.LoadFault.TheVariants as load_fault
use Rattle.machine_file.specs.declared.machine_faults.MachineFileFault.{MachineFileFault}
use Rattle.machine_file.specs.declared.machine_faults.MachineFileFault.TheVariants as machine_fault
use Rattle.machine_file.specs.declared.profile_faults.ProfileFileFault.{ProfileFileFault}
use Rattle.machine_file.specs.declared.profile_faults.ProfileFileFault.TheVariants as profile_fault
use Rattle.control_flow.specs.declared.faults.BuildFault.{BuildFault}
use Rattle.control_flow.specs.declared.faults.BuildFault.TheVariants as build_fault
use Rattle.given_facts.specs.declared.faults.GivenFault.{GivenFault}
use Rattle.given_facts.specs.declared.faults.GivenFault.TheVariants as given_fault
use Rattle.sources.specs.declared.fault.SourceFault.{SourceFault}
use Rattle.sources.specs.declared.fault.SourceFault.TheVariants as source_fault
use Rattle.objasm.specs.declared.source.DialectFault.{DialectFault}
use Rattle.objasm.specs.declared.source.DialectFault.TheVariants as dialect_fault
use Rattle.statement.specs.declared.faults.StatementFault.{StatementFault}
use Rattle.statement.specs.declared.faults.StatementFault.TheVariants as statement_fault
use Rattle.loop_bounds.specs.declared.fault.NestFault.{NestFault}
use Rattle.loop_bounds.specs.declared.fault.NestFault.TheVariants as nest_fault
use Rattle.numbered_walks.specs.declared.fault.WalkFault.{WalkFault}
use Rattle.numbered_walks.specs.declared.fault.WalkFault.TheVariants as walk_fault
use Rattle.certificate.specs.declared.fault.CertFault.{CertFault}
use Rattle.certificate.specs.declared.fault.CertFault.TheVariants as cert_fault
use Rattle.handlers.specs.declared.fault.ReportFault.{ReportFault}
use Rattle.handlers.specs.declared.fault.ReportFault.TheVariants.{Memory, Source, Image}
use Rattle.handlers.specs.declared.fault.ReportFault.TheVariants.{Statement, Graph}
use Rattle.handlers.specs.declared.fault.ReportFault.TheVariants.{Loops, Walk, MachineFile, Load, Cert}
use Rattle.handlers.specs.declared.fault.ReportFault.TheVariants.{Dialect, Given, Profile}

abbrev pub of_source : SourceFault → ReportFault
of_source source_fault.Memory = Memory
of_source (source_fault.Text fault) = Source fault
of_source (source_fault.Image fault) = Image fault
of_source (source_fault.Dialect fault) = Dialect fault

abbrev pub of_text : AsmFault → ReportFault
of_text asm_fault.Memory = Memory
of_text fault = Source fault

abbrev pub of_statement : StatementFault → ReportFault
of_statement statement_fault.Memory = Memory
of_statement fault = Statement fault

abbrev pub of_graph : BuildFault → ReportFault
of_graph build_fault.Memory = Memory
of_graph fault = Graph fault

abbrev pub of_loops : NestFault → ReportFault
of_loops nest_fault.Memory = Memory
of_loops fault = Loops fault

abbrev pub of_walk : WalkFault → ReportFault
of_walk walk_fault.Memory = Memory
of_walk fault = Walk fault

abbrev pub of_cert : CertFault → ReportFault
of_cert cert_fault.Memory = Memory
of_cert fault = Cert fault

abbrev pub of_machine_file : MachineFileFault → ReportFault
of_machine_file machine_fault.Memory = Memory
of_machine_file fault = MachineFile fault

abbrev pub of_load : LoadFault → ReportFault
of_load load_fault.Memory = Memory
of_load fault = Load fault

abbrev pub of_profile : ProfileFileFault → ReportFault
of_profile profile_fault.Memory = Memory
of_profile fault = Profile fault

abbrev pub of_given : GivenFault → ReportFault
of_given given_fault.Memory = Memory
of_given fault = Given fault

abbrev pub of_dialect : DialectFault → ReportFault
of_dialect dialect_fault.Memory = Memory
of_dialect fault = Dialect fault
