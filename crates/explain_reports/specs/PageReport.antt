-- The page of HTML on a handler's greatest run time.
use Rattle.std.specs.Prelude.{ℕ, List, Option, Result}
use Rattle.bus_ticks.specs.declared.profile.Profile.{Profile}
use Rattle.longest_walk.specs.Folded.{unfolded}
use Rattle.sources.specs.Source.{IsSource}
use Rattle.sources.specs.declared.read.Source.{Source}
use Rattle.text_explained.specs.Starts.{IsLatestStart}
use Rattle.text_explained.specs.Table.{WordStarts}
use Rattle.text_graph.specs.declared.extent.Extent.{Extent}
use Rattle.text_page.specs.Page.{IsPage}
use Rattle.explain_reports.specs.ExplainReport.{IsTotal}
use Rattle.handlers.specs.Answers.{Answers}
use Rattle.handlers.specs.Report.{IsAccepted, IsBounded, IsRefused}
use Rattle.handlers.specs.declared.fault.ReportFault.{ReportFault}
use Rattle.sources.specs.File.{File}

-- of an accepted source and statement: the page of a greatest walk, whose cost is the bound, as the ticks of
-- all rows are, with when each word begins at the latest on any walk; all rows, or those of the walk alone
pub record IsPageReport (source : File) (statement : List ℕ) (extent : Extent) (profile : Profile)
    (text : List ℕ) : Type 0 where
  pub bounded : IsBounded source statement profile
  pub starts : WordStarts
  pub latest_is : (a : ℕ) → IsLatestStart bounded.accepted.flow bounded.tree a (starts.latest a)
  pub read : Source
  pub is_read : IsSource source read
  pub shows : IsPage read read.image bounded.accepted.stated bounded.accepted.flow
      (unfolded bounded.longest.walk) starts bounded.longest.bound extent text
  pub total : IsTotal read bounded.accepted.flow bounded.longest

-- the answer to a source and a statement: their page
abbrev pub ShowsPage : {O T : Type 0} → (O → Option (List ℕ)) → (O → ℕ) → File → List ℕ → Extent → Profile
    → O → O → Result T ReportFault → Type 0
ShowsPage taken failures source statement extent profile old new result =
    Answers taken failures (λ _ text. IsPageReport source statement extent profile text)
    (IsAccepted source statement profile) (IsRefused source statement profile) old new result
