-- A text that is no statement, with its fault.
use Rattle.std.proofs.Common.{◌≡◌, ◌∙◌, List, ℕ, Ok, Err, refl, sym, ap, subst}
use Rattle.std.specs.Prelude.{◌≢◌}
use Rattle.image.specs.Labels.{address_of}
use Rattle.sources.specs.declared.read.Source.{Source}
use Rattle.statement.specs.Stated.{Stated}
use Rattle.statement.specs.Statement.{IsStatement, Read}
use Rattle.statement.specs.declared.faults.StatementFault.{StatementFault}
use Rattle.statement.specs.declared.faults.StatementFault.TheVariants as statement_fault
use Rattle.handlers.specs.Refusal.{CarriesText}

abbrev fault_in : StatementFault → Read Stated → StatementFault
fault_in other (Ok s) = other
fault_in other (Err f) = f

pub carries_text :
    (source : Source) (text : List ℕ) (answer : Read Stated) (fault : StatementFault)
    → (answer ≢ Err statement_fault.Memory → IsStatement text (address_of source.labels) answer)
    → answer ≡ Err fault
    → fault ≢ statement_fault.Memory
    → CarriesText source text text fault
carries_text source text answer fault is found other = record {
  own_is = refl;
  not_memory = other;
  fault_is =
      subst (IsStatement text (address_of source.labels)) found
      (is (λ memory. other (ap (fault_in fault) (sym found ∙ memory))));
}
