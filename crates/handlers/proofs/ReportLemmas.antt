-- A report and its refusals, from what is found of a source and a statement.
use Rattle.std.proofs.Common.{◌≡◌, ◌≢◌, ◌⊎◌, ℕ, ◌≤◌, ◌<◌, ◌^◌, List, Result, Ok, Err, ⊎_elim, refl, subst, inl, inr, arith}
use Rattle.std.specs.Prelude.{Contains, IfErr, ◌↔◌}
use Rattle.std.proofs.lemmas.Bool.{cases_lt}
use Rattle.bus_ticks.specs.declared.profile.Profile.{Profile}
use Rattle.image.specs.Image.{Words}
use Rattle.walks.specs.Greatest.{IsGreatest}
use Rattle.walks.specs.Walk.{cost_of}
use Rattle.control_flow.specs.declared.places.Place.TheVariants.{Exit}
use Rattle.control_flow.specs.Flow.{Flow, HasEdge, IsWellFormed, edge_shape}
use Rattle.flow_graph.specs.StepLaw.{IsWithin, RunLaw}
use Rattle.statement.specs.Stated.{Stated, StatedLoops}
use Rattle.control_flow.specs.declared.edges.Edge.{Edge}
use Rattle.loop_bounds.specs.Bounds.{IsGreatestCost, IsTooLarge, KeepsTheBounds}
use Rattle.loop_bounds.specs.Handler.{IsTreeOf}
use Rattle.loop_bounds.specs.Instance.{Instance, IsInstance}
use Rattle.loop_bounds.specs.Tree.{Tree}
use Rattle.longest_walk.specs.Folded.{unfolded}
use Rattle.longest_walk.specs.Longest.{IsLongest, IsWalkFault, KeepsTree, TreeTooLarge}
use Rattle.numbered_walks.specs.declared.fault.WalkFault.{WalkFault}
use Rattle.numbered_walks.specs.declared.fault.WalkFault.TheVariants as walk_fault
use Rattle.longest_walk.specs.declared.folded.Longest.{Longest}
use Rattle.certificate.specs.Lines.{cert_text, said_by, said_of}
use Rattle.certificate.specs.declared.cert.Cert.{Cert}
use Rattle.cert_check.specs.Verdict.{IsVerdict}
use Rattle.cert_check.specs.declared.verdict.Verdict.TheVariants.{Yes}
use Rattle.certificate.proofs.LongestLaws.{longest_is_spelled}
use Rattle.cert_check.proofs.OtherTree.{longest_by_other}
use Rattle.handlers.specs.Faults.{of_walk}
use Rattle.handlers.specs.Keeping.{BoundsRuns}
use Rattle.handlers.specs.Report.{BeforeOutput, HasLoops, IsAccepted, IsBounded, IsBoundReport}
use Rattle.handlers.specs.Report.{IsGreatestWalk, IsHandlerRefused, IsRefused, IsReport, IsWalkRefusal}
use Rattle.handlers.specs.declared.fault.ReportFault.{ReportFault}
use Rattle.handlers.specs.declared.fault.ReportFault.TheVariants.{Memory, Walk, Device}
use Rattle.handlers.proofs.HandlerLemmas.{handler_refusals, one_graph}
use Rattle.sources.specs.File.{File}

-- ## Accepted

-- an accepted pair is refused for lack of memory alone, or as the output fails
pub accepted_refusals : (source : File) (statement : List ℕ) (profile : Profile) (e : ReportFault)
    → IsAccepted source statement profile → IsRefused source statement profile e
    → (e ≡ Memory) ⊎ (e ≡ Device)
accepted_refusals source statement profile Memory a r = inl refl
accepted_refusals source statement profile Device a r = inr refl
accepted_refusals source statement profile (Walk f) a r =
    let same =
    one_graph source statement profile r.stated a.stated r.flow a.flow r.loops.graph a.loops.graph in
    absurd (a.no_fault f r.not_memory (subst (λ (s : Stated). IsWalkRefusal a.flow s.loops f) same.same_stated
    (subst (λ (w : Flow). IsWalkRefusal w r.stated.loops f) same.same_flow r.holds)))
accepted_refusals source statement profile e a r =
    inl (handler_refusals source statement profile a.stated a.flow e a.loops r)

-- the same of an answer
pub only_memory : {T : Type 0} (source : File) (statement : List ℕ) (profile : Profile) (r : Result T ReportFault)
    → IfErr r (BeforeOutput (IsRefused source statement profile))
    → IsAccepted source statement profile → IfErr r (λ e. (e ≡ Memory) ⊎ (e ≡ Device))
only_memory source statement profile (Ok x) h a = tt
only_memory source statement profile (Err e) h a = accepted_refusals source statement profile e a h.1

-- what refuses a source and a statement up to the loops refuses their report
pub report_refusal : (source : File) (statement : List ℕ) (profile : Profile) (e : ReportFault)
    → IsHandlerRefused source statement profile e → BeforeOutput (IsRefused source statement profile) e
report_refusal source statement profile Memory h = (λ e. cc e, tt)
report_refusal source statement profile Device h = absurd h
report_refusal source statement profile (Walk f) h = absurd h
report_refusal source statement profile e h = (λ e. cc e, h)

-- ## The bound

-- a greatest walk of 2^63 ticks or more would have been refused
pub bound_is_allowed : (flow : Flow) (tree : Tree) (l : Longest) → IsLongest flow tree l → l.bound < 2 ^ 63
bound_is_allowed flow tree l is = ⊎_elim
    (λ lt. lt)
    (λ (le : 2 ^ 63 ≤ l.bound). absurd (is.none_too_large (record {
      place = Exit;
      walk = unfolded l.walk;
      leads = is.walk_is.complete;
      kept = is.walk_is.kept;
      costs = omega (arith, le, is.walk_is.costs);
    })))
    (cases_lt l.bound (2 ^ 63))

pub bound_fits : (flow : Flow) (tree : Tree) (l : Longest) → IsLongest flow tree l → l.bound < 2 ^ 64
bound_fits flow tree l is = let lt : l.bound < 2 ^ 63 = bound_is_allowed flow tree l is in omega (arith, lt)

-- ## A walk that keeps the bounds of a tree's instances keeps those of the stated loops

module _ (flow : Flow) (loops : StatedLoops) (tree : Tree) (same : (i : Instance)
    → Contains tree.instances i ↔ IsInstance flow loops i) where
  pub kept_here : (walk : List Edge) → KeepsTree tree walk → KeepsTheBounds flow loops walk
  kept_here walk kept i is = kept i ((same i).1 is)

  pub kept_there : (walk : List Edge) → KeepsTheBounds flow loops walk → KeepsTree tree walk
  kept_there walk kept i is = kept i ((same i).0 is)

  -- the greatest cost by the tree's instances is that by the stated loops
  pub tree_is_greatest : (n : ℕ) → IsGreatest edge_shape (HasEdge flow) (KeepsTree tree) flow.entry Exit n
      → IsGreatestCost flow loops n
  tree_is_greatest n g =
      record {
        walk = g.walk;
        complete = g.complete;
        kept = kept_here g.walk g.kept;
        costs = g.costs;
        upper = λ other complete kept. g.upper other complete (kept_there other kept);
      }

  pub greatest_walk : (found : Longest) → IsLongest flow tree found
      → IsGreatestWalk flow loops found.bound found.walk
  greatest_walk found l =
      record {
        greatest = tree_is_greatest found.bound l.greatest;
        complete = l.walk_is.complete;
        kept = kept_here (unfolded found.walk) l.walk_is.kept;
        costs = l.walk_is.costs;
      }

  too_large_here : TreeTooLarge flow tree → IsTooLarge flow loops
  too_large_here t = record {
    place = t.place;
    walk = t.walk;
    leads = t.leads;
    kept = kept_here t.walk t.kept;
    costs = t.costs;
  }

  too_large_there : IsTooLarge flow loops → TreeTooLarge flow tree
  too_large_there t =
      record {
        place = t.place;
        walk = t.walk;
        leads = t.leads;
        kept = kept_there t.walk t.kept;
        costs = t.costs;
      }

  pub fault_here : (f : WalkFault) → IsWalkFault flow tree f → IsWalkRefusal flow loops f
  fault_here walk_fault.Memory h = tt
  fault_here walk_fault.NoCompleteWalk h = h
  fault_here walk_fault.BoundTooLarge h = (h.0, too_large_here h.1)

  pub fault_there : (f : WalkFault) → IsWalkRefusal flow loops f → IsWalkFault flow tree f
  fault_there walk_fault.Memory h = tt
  fault_there walk_fault.NoCompleteWalk h = h
  fault_there walk_fault.BoundTooLarge h = (h.0, too_large_there h.1)

-- ## The report

-- a run whose steps are the edges of a walk takes at most the walk, and no such walk costs more than the
-- greatest
pub bounds_runs : (words : Words) (profile : Profile) (st : Stated) (flow : Flow) (bound : ℕ) → RunLaw
    → IsGreatestCost flow st.loops bound → BoundsRuns words st profile flow bound
bounds_runs words profile st flow bound law greatest s inputs ran after keeps runs =
    let within : IsWithin profile keeps.walk inputs ran =
    law words st profile s inputs keeps.walk ran after runs keeps.follows in
    let most : cost_of edge_shape keeps.walk ≤ bound = greatest.upper keeps.walk keeps.complete keeps.kept in
    record { ticks = omega (arith, within.ticks, most); elapsed = omega (arith, within.elapsed, most) }

-- by each other tree of the loops the walk is a greatest one too
pub longest_by_each : (flow : Flow) (loops : StatedLoops) (tree other : Tree) → IsTreeOf flow loops tree
    → IsTreeOf flow loops other → (l : Longest) → IsLongest flow tree l → IsLongest flow other l
longest_by_each flow loops tree other of by l is =
    longest_by_other flow tree other of.tree_is by.tree_is
    (λ i. (
      λ has. (by.instances i).1 ((of.instances i).0 has),
      λ has. (of.instances i).1
          ((by.instances i).0 has),
    ))
    l is

module _ (source : File) (statement : List ℕ) (profile : Profile) (st : Stated) (flow : Flow) (tree : Tree)
    (loops : HasLoops source statement profile st flow) (of : IsTreeOf flow st.loops tree) where
  -- no refusal of the walk holds
  pub none_holds : ((f : WalkFault) → f ≢ walk_fault.Memory → IsWalkFault flow tree f → ⊥) → (f : WalkFault)
      → f ≢ walk_fault.Memory → IsWalkRefusal flow st.loops f → ⊥
  none_holds allowed f not_memory h = allowed f not_memory (fault_there flow st.loops tree of.instances f h)

  unfoldable pub accepted : ((f : WalkFault) → f ≢ walk_fault.Memory → IsWalkFault flow tree f → ⊥)
      → IsAccepted source statement profile
  accepted allowed = record { stated = st; flow = flow; loops = loops; no_fault = none_holds allowed }

  -- a greatest walk by the tree
  unfoldable pub bounded : (l : Longest) → IsLongest flow tree l
      → ((f : WalkFault) → f ≢ walk_fault.Memory → IsWalkFault flow tree f → ⊥)
      → IsBounded source statement profile
  unfolding accepted
  bounded l is allowed = record {
    accepted = accepted allowed;
    tree = tree;
    longest = l;
    tree_of = of;
    longest_is = is;
    walk = greatest_walk flow st.loops tree of.instances l is;
  }

  pub reported : (l : Longest) (text : List ℕ) → RunLaw → IsWellFormed flow → IsLongest flow tree l
      → ((f : WalkFault) → f ≢ walk_fault.Memory → IsWalkFault flow tree f → ⊥)
      → ((other : Tree) → IsTreeOf flow st.loops other → (cert : Cert) → said_by cert ≡ said_of l
      → IsVerdict flow other cert Yes) → text ≡ cert_text (said_of l) → IsReport source statement profile text
  unfolding accepted bounded
  reported l text law formed is allowed judged e = record {
    bounded = bounded l is allowed;
    judged = judged;
    runs = bounds_runs loops.graph.words profile st flow l.bound law
        (tree_is_greatest flow st.loops tree of.instances l.bound is.greatest);
    can_spell = longest_is_spelled flow formed tree of.tree_is l is;
    spelled = e;
  }

  -- the same, with its statement and its bound
  pub reported_bound : (l : Longest) (text : List ℕ) → RunLaw → IsWellFormed flow → IsLongest flow tree l
      → ((f : WalkFault) → f ≢ walk_fault.Memory → IsWalkFault flow tree f → ⊥)
      → ((other : Tree) → IsTreeOf flow st.loops other → (cert : Cert) → said_by cert ≡ said_of l
      → IsVerdict flow other cert Yes) → text ≡ cert_text (said_of l)
      → IsBoundReport source statement profile st l.bound text
  unfolding accepted bounded reported
  reported_bound l text law formed is allowed judged e =
      record { report = reported l text law formed is allowed judged e; stated_is = refl; bound_is = refl }

  -- a refusal of the walk
  pub walk_refusal : (f : WalkFault) → IsWalkFault flow tree f
      → BeforeOutput (IsRefused source statement profile) (of_walk f)
  walk_refusal walk_fault.Memory h = (λ e. cc e, tt)
  walk_refusal walk_fault.NoCompleteWalk h = (
    λ e. cc e,
    record {
      stated = st;
      flow = flow;
      loops = loops;
      not_memory = λ e. cc e;
      holds = fault_here flow st.loops tree of.instances walk_fault.NoCompleteWalk h;
    },
  )
  walk_refusal walk_fault.BoundTooLarge h = (
    λ e. cc e,
    record {
      stated = st;
      flow = flow;
      loops = loops;
      not_memory = λ e. cc e;
      holds = fault_here flow st.loops tree of.instances walk_fault.BoundTooLarge h;
    },
  )
