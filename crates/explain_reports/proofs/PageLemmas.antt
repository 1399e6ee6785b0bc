-- The page of HTML on a handler's greatest run time.
use Rattle.std.proofs.Common.{◌≢◌, ℕ, List}
use Rattle.bus_ticks.specs.declared.profile.Profile.{Profile}
use Rattle.statement.specs.Stated.{Stated}
use Rattle.control_flow.specs.Flow.{Flow}
use Rattle.longest_walk.specs.Folded.{unfolded}
use Rattle.longest_walk.specs.Longest.{IsLongest, IsWalkFault}
use Rattle.longest_walk.specs.declared.folded.Longest.{Longest}
use Rattle.loop_bounds.specs.Handler.{IsTreeOf}
use Rattle.loop_bounds.specs.Tree.{Tree}
use Rattle.numbered_walks.specs.declared.fault.WalkFault.{WalkFault}
use Rattle.numbered_walks.specs.declared.fault.WalkFault.TheVariants as walk_fault
use Rattle.text_explained.specs.Starts.{IsLatestStart}
use Rattle.text_explained.specs.Table.{WordStarts}
use Rattle.text_graph.specs.declared.extent.Extent.{Extent}
use Rattle.text_page.specs.Page.{IsPage}
use Rattle.explain_reports.specs.ExplainReport.{IsTotal}
use Rattle.explain_reports.specs.PageReport.{IsPageReport}
use Rattle.handlers.specs.Report.{HasLoops}
use Rattle.sources.specs.Source.{IsSource}
use Rattle.sources.specs.declared.read.Source.{Source}
use Rattle.handlers.proofs.ReportLemmas.{accepted, bounded}
use Rattle.sources.specs.File.{File}

module _ (source : File) (statement : List ℕ) (profile : Profile) (read : Source) (is_read : IsSource source read)
    (st : Stated) (flow : Flow) (tree : Tree) (loops : HasLoops source statement profile st flow) (of : IsTreeOf flow st.loops tree) where
  -- the page of a greatest walk
  pub shown : (l : Longest) (starts : WordStarts) (extent : Extent) (text : List ℕ) → IsLongest flow tree l → ((a : ℕ) → IsLatestStart flow tree a (starts.latest a))
      → ((f : WalkFault) → f ≢ walk_fault.Memory → IsWalkFault flow tree f → ⊥)
      → IsPage read read.image st flow (unfolded l.walk) starts l.bound extent text → IsTotal read flow l
      → IsPageReport source statement extent profile text
  unfolding accepted bounded
  shown l starts extent text is are allowed shows total = record {
    bounded = bounded source statement profile st flow tree loops of l is allowed;
    starts = starts;
    latest_is = are;
    read = read;
    is_read = is_read;
    shows = shows;
    total = total;
  }
