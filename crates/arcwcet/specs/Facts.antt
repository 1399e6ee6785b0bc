-- Reports by the facts of a file.
use Rattle.std.specs.Prelude.{◌≡◌, ◌⊎◌, ℕ, Bool, List, [], Option, Some, None, Ok, Err}
use Rattle.std.specs.List.{slice_get}
use Rattle.given_facts.specs.GivenFile.{IsFactsFile}
use Rattle.known_words.specs.declared.given.Given.{Given}
use Rattle.handlers.specs.declared.fault.ReportFault.{ReportFault}
use Rattle.handlers.specs.declared.fault.ReportFault.TheVariants as report_fault
use Rattle.arcwcet.specs.Files.{Inputs}

-- the file of facts of `justify`, where one is named: the third
abbrev pub facts_file : Inputs → Option (List ℕ)
facts_file i = slice_get i.rest 0

-- the facts of a file; none where there is no file
abbrev pub AreFacts : Option (List ℕ) → List Given → Type 0
AreFacts None facts = facts ≡ []
AreFacts (Some text) facts = IsFactsFile text (Ok facts)

-- why there are none to go by; an allocation may fail whatever the file says
abbrev pub HasNoFacts : Option (List ℕ) → ReportFault → Type 0
HasNoFacts file report_fault.Memory = Unit {0}
HasNoFacts (Some text) (report_fault.Given fault) = IsFactsFile text (Err fault)
HasNoFacts file fault = ⊥

-- it holds by the facts
pub record ByFacts (file : Option (List ℕ)) (Holds : List Given → Type 0) : Type 0 where
  pub facts : List Given
  pub are : AreFacts file facts
  pub holds : Holds facts

-- why a report by the facts is refused, their file too
abbrev pub FactsFault : Option (List ℕ) → (List Given → ReportFault → Type 0) → ReportFault → Type 0
FactsFault file IsFault fault = ByFacts file (λ facts. IsFault facts fault) ⊎ HasNoFacts file fault
