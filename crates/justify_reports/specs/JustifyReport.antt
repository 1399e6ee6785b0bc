-- What of a statement follows from its handler's code.
use Rattle.std.specs.Prelude.{◌≡◌, ◌==◌, ℕ, Bool, true, not, ◌&&◌, ◌||◌, List, ◌++◌, length, Option, Result}
use Rattle.bus_ticks.specs.declared.profile.Profile.{Profile}
use Rattle.known_places.specs.Destinations.{AreDestinations}
use Rattle.known_places.specs.Endless.{AreEndless}
use Rattle.known_places.specs.OnTrust.{OnTrust}
use Rattle.known_places.specs.Outside.{AreOutside}
use Rattle.known_places.specs.declared.destination.Destination.{Destination}
use Rattle.known_words.specs.declared.given.Given.{Given}
use Rattle.known_words.specs.declared.words.Range.{Range}
use Rattle.sources.specs.Source.{IsSource}
use Rattle.sources.specs.declared.read.Source.{Source}
use Rattle.handlers.specs.Answers.{Answers}
use Rattle.handlers.specs.Report.{IsAccepted, IsBounded, IsRefused}
use Rattle.handlers.specs.declared.fault.ReportFault.{ReportFault}
use Rattle.justify_reports.specs.Rows.{AreStatedRows}
use Rattle.justify_reports.specs.RowTexts.{AreRowTexts}
use Rattle.justify_reports.specs.Summary.{AreFactRows, false_count, follows_count, summary_text}
use Rattle.justify_reports.specs.Trust.{IsJustified}
use Rattle.justify_reports.specs.declared.rows.Row.{Row}
use Rattle.sources.specs.File.{File}

-- the facts, a row for each entry, and what they say together
pub record IsJustifyText (read : Source) (given : List Given) (left : Option OnTrust) (rows : List Row)
    (bound price : ℕ) (text : List ℕ) : Type 0 where
  pub facts : List ℕ
  pub entries : List ℕ
  pub are_facts : AreFactRows given facts
  pub are_entries : AreRowTexts read read.image rows entries
  pub text_is : text ≡ facts ++ (entries ++ summary_text left rows given bound price)

-- whether that is enough: no entry is false, and where all are to follow each does
abbrev pub is_enough : (all : Bool) → List Row → Bool
is_enough all rows = (false_count rows == 0) && (not all || (follows_count rows == length rows))

-- Of an accepted source and statement: what is left on trust, where each other entry is proved to follow;
-- where the words go that return or leave, which words go outside of their classes, and which loops no run
-- leaves; the rows that say so, and the bound of each run that keeps what is on trust.
pub record IsJustifyReport (source : File) (statement : List ℕ) (given : List Given) (all : Bool)
    (profile : Profile) (answer : Bool) (text : List ℕ) : Type 0 where
  pub bounded : IsBounded source statement profile
  pub read : Source
  pub left : Option OnTrust
  pub destinations : List Destination
  pub outside : List (Option Range)
  pub endless : List Bool
  pub rows : List Row
  pub is_read : IsSource source read
  pub justified : IsJustified bounded.accepted.loops.graph.words bounded.accepted.stated profile
      bounded.accepted.flow given left bounded.longest.bound
  pub goes : AreDestinations bounded.accepted.loops.graph.words bounded.accepted.stated bounded.accepted.flow
      bounded.tree given destinations
  pub goes_outside : AreOutside bounded.accepted.loops.graph.words bounded.accepted.stated bounded.accepted.flow
      bounded.tree given outside
  pub never_left : AreEndless bounded.accepted.loops.graph.words bounded.accepted.stated bounded.accepted.flow
      bounded.tree given endless
  pub are_rows : AreStatedRows read.image bounded.accepted.stated bounded.accepted.flow bounded.tree left
      destinations outside endless rows
  pub text_is : IsJustifyText read given left rows bounded.longest.bound profile.burst text
  pub answer_is : answer ≡ is_enough all rows

-- the answer to a source and a statement
abbrev pub ReportsJustified : {O : Type 0} → (O → Option (List ℕ)) → (O → ℕ) → File → List ℕ → List Given
    → (all : Bool) → Profile → O → O → Result Bool ReportFault → Type 0
ReportsJustified taken failures source statement given all profile old new result =
    Answers taken failures (IsJustifyReport source statement given all profile)
    (IsAccepted source statement profile) (IsRefused source statement profile) old new result
