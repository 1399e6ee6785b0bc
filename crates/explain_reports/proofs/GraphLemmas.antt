-- The drawing of a handler's flow graph.
use Rattle.std.proofs.Common.{◌≡◌, ◌≢◌, ℕ, List}
use Rattle.bus_ticks.specs.declared.profile.Profile.{Profile}
use Rattle.statement.specs.Stated.{Stated}
use Rattle.control_flow.specs.Flow.{Flow}
use Rattle.longest_walk.specs.Longest.{IsLongest, IsWalkFault}
use Rattle.longest_walk.specs.declared.folded.Longest.{Longest}
use Rattle.loop_bounds.specs.Handler.{IsTreeOf}
use Rattle.loop_bounds.specs.Tree.{Tree}
use Rattle.numbered_walks.specs.declared.fault.WalkFault.{WalkFault}
use Rattle.numbered_walks.specs.declared.fault.WalkFault.TheVariants as walk_fault
use Rattle.text_graph.specs.Nodes.{HoldEachOnce, LeadToNodes, all_ticks}
use Rattle.text_graph.specs.Text.{IsDrawing}
use Rattle.text_graph.specs.declared.extent.Extent.{Extent}
use Rattle.explain_reports.specs.GraphReport.{IsGraphReport}
use Rattle.handlers.specs.Report.{HasLoops}
use Rattle.sources.specs.Source.{IsSource}
use Rattle.sources.specs.declared.read.Source.{Source}
use Rattle.handlers.proofs.ReportLemmas.{accepted, bounded}
use Rattle.sources.specs.File.{File}

module _ (source : File) (statement : List ℕ) (profile : Profile) (read : Source) (is_read : IsSource source read)
    (st : Stated) (flow : Flow) (tree : Tree) (loops : HasLoops source statement profile st flow) (of : IsTreeOf flow st.loops tree) where
  -- the drawing of a greatest walk
  pub drawn : (l : Longest) (extent : Extent) (text : List ℕ) → IsLongest flow tree l → ((f : WalkFault) → f ≢ walk_fault.Memory → IsWalkFault flow tree f → ⊥)
      → HoldEachOnce flow tree → LeadToNodes flow tree → (d : IsDrawing read flow tree l extent text) → all_ticks flow tree d.counts ≡ l.bound
      → IsGraphReport source statement extent profile text
  unfolding accepted bounded
  drawn l extent text is allowed once leads d total = record {
    bounded = bounded source statement profile st flow tree loops of l is allowed;
    read = read;
    is_read = is_read;
    drawn = d;
    once = once;
    leads = leads;
    total = total;
  }
