-- The line of a refusal: the fault's name, and where it is.
use Rattle.std.specs.Prelude.{◌≡◌, ◌⊎◌, ◌++◌, ℕ, List, [], Option, codes, decimal}
use Rattle.std.specs.Io.KnownBytes.{Appends}
use Rattle.asm_text.specs.Hex.{hex}
use Rattle.outputs.specs.Output.{FailsSince, TakesFront}
use Rattle.assembler.specs.declared.fault.AsmFault.{AsmFault}
use Rattle.assembler.specs.declared.fault.AsmFault.TheVariants as asm_fault
use Rattle.control_flow.specs.declared.faults.BuildFault.{BuildFault}
use Rattle.control_flow.specs.declared.faults.BuildFault.TheVariants as build_fault
use Rattle.certificate.specs.declared.fault.CertFault.{CertFault}
use Rattle.certificate.specs.declared.fault.CertFault.TheVariants as cert_fault
use Rattle.objasm.specs.declared.source.DialectFault.{DialectFault}
use Rattle.objasm.specs.declared.source.DialectFault.TheVariants as dialect_fault
use Rattle.handlers.specs.FaultNames.{fault_name}
use Rattle.handlers.specs.declared.fault.ReportFault.{ReportFault}
use Rattle.handlers.specs.declared.fault.ReportFault.TheVariants as report_fault
use Rattle.handlers.specs.declared.refusal_line.FaultPlace.{FaultPlace}
use Rattle.handlers.specs.declared.refusal_line.FaultPlace.TheVariants.{Address, Nowhere, TextLine}

-- ## Where a fault is

abbrev pub source_fault_place : AsmFault → FaultPlace
source_fault_place asm_fault.Memory = Nowhere
source_fault_place (asm_fault.Line fault line) = TextLine line

abbrev pub graph_fault_place : BuildFault → FaultPlace
graph_fault_place (build_fault.OutsideImage address) = Address address
graph_fault_place (build_fault.UnallocatedWord address) = Address address
graph_fault_place (build_fault.TrapInHandler address) = Address address
graph_fault_place (build_fault.TargetNotWriter address) = Address address
graph_fault_place (build_fault.UnstatedTarget address) = Address address
graph_fault_place fault = Nowhere

abbrev pub cert_fault_place : CertFault → FaultPlace
cert_fault_place (cert_fault.BadLine line) = TextLine line
cert_fault_place fault = Nowhere

abbrev pub dialect_fault_place : DialectFault → FaultPlace
dialect_fault_place dialect_fault.Memory = Nowhere
dialect_fault_place (dialect_fault.Line fault line) = TextLine line

abbrev pub fault_place : ReportFault → FaultPlace
fault_place (report_fault.Source fault) = source_fault_place fault
fault_place (report_fault.Graph fault) = graph_fault_place fault
fault_place (report_fault.Cert fault) = cert_fault_place fault
fault_place (report_fault.NotFree address) = Address address
fault_place (report_fault.WordsMeet address) = Address address
fault_place (report_fault.Dialect fault) = dialect_fault_place fault
fault_place fault = Nowhere

-- ## The text

abbrev pub place_text : FaultPlace → List ℕ
place_text Nowhere = []
place_text (TextLine line) = codes " at line " ++ decimal line
place_text (Address address) = codes " at " ++ hex address

-- a fault's name, and its place, if it has one
abbrev pub fault_text : ReportFault → List ℕ
fault_text fault = fault_name fault ++ place_text (fault_place fault)

-- `refused: `, what is refused, and a line feed
abbrev pub refusal_line : List ℕ → List ℕ
refusal_line text = codes "refused: " ++ (text ++ codes "\n")

-- ## What an output takes of it

-- the output took the text, and no write failed, or it took a front of the text, and one did
abbrev pub TakesOrFails : {O : Type 0} → (O → Option (List ℕ)) → (O → ℕ) → (old new : O) → List ℕ → Type 0
TakesOrFails taken failures old new text =
    (Appends (taken old) (taken new) text × (failures new ≡ failures old))
    ⊎ (TakesFront (taken old) (taken new) text × FailsSince (failures old) (failures new))
