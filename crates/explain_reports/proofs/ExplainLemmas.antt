-- The explanation of a handler's bound.
use Rattle.std.proofs.Common.{◌≡◌, ◌≢◌, ◌++◌, ℕ, List, [], true, false, append-nil, refl, sym}
use Rattle.bus_ticks.specs.declared.profile.Profile.{Profile}
use Rattle.text_explained.specs.Starts.{IsLatestStart}
use Rattle.text_explained.specs.Table.{WordStarts}
use Rattle.text_explained.specs.declared.bursts.Bursts.{Bursts}
use Rattle.statement.specs.Stated.{Stated}
use Rattle.control_flow.specs.Flow.{Flow, IsWellFormed}
use Rattle.flow_graph.specs.StepLaw.{RunLaw}
use Rattle.loop_bounds.specs.Handler.{IsTreeOf}
use Rattle.loop_bounds.specs.Tree.{Tree}
use Rattle.longest_walk.specs.Longest.{IsLongest, IsWalkFault}
use Rattle.longest_walk.specs.declared.folded.Longest.{Longest}
use Rattle.numbered_walks.specs.declared.fault.WalkFault.{WalkFault}
use Rattle.numbered_walks.specs.declared.fault.WalkFault.TheVariants as walk_fault
use Rattle.explain_reports.specs.ExplainReport.{IsExplanation, IsFullExplanation, IsTextOf, IsTotal}
use Rattle.explain_reports.specs.Each.{AreEachLines, IsEachText}
use Rattle.handlers.specs.Report.{HasGraph, HasLoops}
use Rattle.sources.specs.Source.{IsSource}
use Rattle.sources.specs.declared.read.Source.{Source}
use Rattle.handlers.proofs.ReportLemmas.{accepted, bounded, kept_here, tree_is_greatest}
use Rattle.explain_reports.specs.FirstStarts.{AreAskedFirst}
use Rattle.explain_reports.specs.declared.explain.TableForm.{TableForm}
use Rattle.explain_reports.proofs.FirstLemmas.{first_begins_within}
use Rattle.explain_reports.proofs.RunTimeLemmas.{begins_within, ends_within, some_bound}
use Rattle.sources.specs.File.{File}

module _ (source : File) (statement : List ℕ) (profile : Profile) (read : Source) (is_read : IsSource source read)
    (st : Stated) (flow : Flow) (tree : Tree) (loops : HasLoops source statement profile st flow) (of : IsTreeOf flow st.loops tree) where
  -- the table of a greatest walk explains its bound
  pub explained : RunLaw → IsWellFormed flow → (bursts : Bursts) (form : TableForm) (l : Longest) (starts : WordStarts) → AreAskedFirst flow st.loops form.first starts.first
      → (text : List ℕ) → IsLongest flow tree l → ((a : ℕ) → IsLatestStart flow tree a (starts.latest a)) → ((f : WalkFault) → f ≢ walk_fault.Memory → IsWalkFault flow tree f → ⊥)
      → IsTextOf read st flow l starts form.rows profile.burst bursts text → IsTotal read flow l
      → IsExplanation source statement bursts form profile l.bound text
  unfolding accepted bounded
  explained law well bursts form l starts asked text is are allowed explains total = record {
    bounded = bounded source statement profile st flow tree loops of l is allowed;
    starts = starts;
    latest_is = are;
    begins = λ a. begins_within loops.graph.words st flow tree law a (starts.latest a) (are a);
    first_are = asked;
    first_begins = first_begins_within loops.graph.words st flow tree law (kept_here flow st.loops tree of.instances) form.first starts.first asked;
    bound_is = refl;
    ends =
        ends_within loops.graph.words st profile flow l.bound law (tree_is_greatest flow st.loops tree of.instances l.bound is.greatest)
        (some_bound loops.graph.words st profile flow tree l well loops.graph.graph_is is);
    read = read;
    is_read = is_read;
    explains = explains;
    total = total;
  }

-- ## With the bounds for each destination alone, or without

module _ (source : File) (statement : List ℕ) (bursts : Bursts) (form : TableForm) (profile : Profile) (bound : ℕ) where
  pub full_without : (text : List ℕ) → IsExplanation source statement bursts form profile bound text → IsFullExplanation source statement bursts form false profile bound text
  full_without text explains = record { front = text; last = []; explains = explains; last_is = refl; text_is = sym (append-nil text) }

  pub full_with : (front each text : List ℕ) (read : Source) (st : Stated) (flow : Flow) → IsSource source read → HasGraph source statement profile st flow
      → IsExplanation source statement bursts form profile bound front → AreEachLines read st profile each → text ≡ front ++ each → IsFullExplanation source statement bursts form true profile bound text
  full_with front each text read st flow is_read graph explains lines is =
      let last : IsEachText source statement profile each = record { read = read; stated = st; flow = flow; is_read = is_read; graph = graph; lines_are = lines } in
      record { front = front; last = each; explains = explains; last_is = last; text_is = is }
