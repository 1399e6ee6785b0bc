-- A report on a run with visits, from what is found of a source, two statements and a machine file.
use Rattle.std.proofs.Common.{◌≡◌, ◌∙◌, ◌⊎◌, ℕ, ◌≤◌, ◌<◌, ◌^◌, Bool, true, List, [], ◌∷◌, ◌++◌, drop, Result, Ok, Err, refl, sym, ap, subst, inl, inr, arith}
use Rattle.std.specs.Prelude.{IfErr}
use Rattle.bus_ticks.specs.declared.profile.Profile.{Profile}
use Rattle.bus_ticks.specs.Worst.{fiq_entry}
use Rattle.bus_ticks.proofs.EntryLemmas.{fiq_entry_greatest}
use Rattle.image.specs.Image.{Words}
use Rattle.image.specs.Labels.{Names}
use Rattle.statement.specs.Stated.{Stated}
use Rattle.arm2_exec.specs.Run.{Runs}
use Rattle.arm2_exec.specs.State.{State}
use Rattle.arm2_exec.specs.Step.{address_in}
use Rattle.arm2_exec.specs.declared.machine.Input.{Input}
use Rattle.control_flow.specs.Flow.{Flow}
use Rattle.control_flow.specs.Graph.{IsFlowGraph}
use Rattle.control_flow.specs.declared.edges.Edge.{Edge}
use Rattle.loop_bounds.specs.Bounds.{IsGreatestCost}
use Rattle.loop_bounds.specs.Handler.{IsTreeOf}
use Rattle.loop_bounds.specs.Tree.{Tree}
use Rattle.loop_bounds.specs.declared.handler.Handler.{Handler}
use Rattle.longest_walk.specs.Visits.{visits_bound}
use Rattle.machine_file.specs.Stated as machine_file
use Rattle.kept_runs.specs.Keeping.{IsHandler, KeepsTo}
use Rattle.kept_runs.specs.Visited.{AreVisits, FollowsVisited, Handled, IsKeptVisited, IsStrayedVisited, IsVisit, IsVisitedRun, KeepsBoth, MainStep, Visit, handled, inputs_of, visits_of}
use Rattle.kept_runs.specs.declared.visited.VisitedRun.{VisitedRun}
use Rattle.kept_runs.specs.declared.visited.VisitedRun.TheVariants.{Kept, Strayed}
use Rattle.follow_reports.specs.FollowVisits.{AreBothAccepted, AreFollowable, AreNotFollowed, BoundHandler, IsArrivalText, IsFollowVisitsReport, IsVisitsText, KeepsWithinTotal, NoneKeepsStatements}
use Rattle.follow_reports.specs.FollowText.{IsLeftText}
use Rattle.follow_reports.specs.VisitedText.{kept_visits_text}
use Rattle.follow_reports.specs.VisitedWork.{IsArrivedRun, IsBoundOf, IsRunElsewhere, IsRunText, IsVisitsJudged}
use Rattle.follow_reports.specs.declared.follow_visits.BoundedHandler.{BoundedHandler}
use Rattle.handlers.specs.FiqHandler.{IsFiqRefused}
use Rattle.handlers.specs.Keeping.{KeepsStatement, TakesAtMost}
use Rattle.handlers.specs.Placing.{IsPlaced, IsRunRefused}
use Rattle.handlers.specs.Report.{BeforeOutput, IsAccepted, IsRefused}
use Rattle.sources.specs.Source.{source_of}
use Rattle.handlers.specs.Visits.{KeepsVisited}
use Rattle.handlers.specs.declared.fault.ReportFault.{ReportFault}
use Rattle.handlers.specs.declared.fault.ReportFault.TheVariants.{Memory, Device}
use Rattle.handlers.proofs.FiqLemmas.{fiq_accepted}
use Rattle.handlers.proofs.PlacingLemmas.{runnable_refusals}
use Rattle.handlers.proofs.ReportLemmas.{accepted, accepted_refusals, bound_is_allowed, bounded, kept_here, kept_there, tree_is_greatest}
use Rattle.handlers.proofs.VisitLemmas.{bounds_visited}
use Rattle.handlers.proofs.HandlerLemmas.{same_words}
use Rattle.follow_reports.proofs.FollowLemmas.{by_tree, own_graph, states}
use Rattle.sources.specs.File.{File}

-- ## What keeps FIQ's statement in one sense keeps it in the other

module _ (P Q : State → List Input → Type 0) (profile : Profile) (to : (s : State) (is : List Input) → P s is → Q s is) where
  visit_as : (s : State) (v : Visit) (after : State) → IsVisit P profile s v after → IsVisit Q profile s v after
  visit_as s v after h = record {
    stepped = h.stepped;
    entered = h.entered;
    step = h.step;
    takes_fiq = h.takes_fiq;
    prices = h.prices;
    keeps = to h.entered v.handling h.keeps;
    ran = h.ran;
    runs = h.runs;
    back = h.back;
  }

  visits_as : (s : State) (visits : List Visit) (after : State) → AreVisits P profile s visits after → AreVisits Q profile s visits after
  visits_as s [] after h = h
  visits_as s (v ∷ visits) after h = (h.0, visit_as s v h.0 h.1, visits_as h.0 visits after h.2)

  follows_as : (words : Words) (irq : Stated) (s : State) (main : List MainStep) (walk : List Edge) → FollowsVisited P profile words irq s main walk → FollowsVisited Q profile words irq s main walk
  follows_as words irq s [] [] h = h
  follows_as words irq s [] (e ∷ walk) h = h
  follows_as words irq s (m ∷ main) [] h = h
  follows_as words irq s (m ∷ main) (e ∷ walk) h = (h.0, visits_as s m.visits h.0 h.1, (h.2.0, h.2.1, h.2.2, follows_as words irq h.2.1 main walk h.2.3))

-- ## Both handlers

module _ (words : Words) (st : Stated) (flow : Flow) (tree : Tree) (of : IsTreeOf flow st.loops tree)
    (fiq : Stated) (fiq_flow : Flow) (fiq_tree : Tree) (fiq_of : IsTreeOf fiq_flow fiq.loops fiq_tree) (prices : fiq_flow.profile ≡ flow.profile) where
  abbrev irq_handled : Handled
  irq_handled = record { words = words; stated = st; flow = flow; tree = tree }

  abbrev fiq_handled : Handled
  fiq_handled = record { words = words; stated = fiq; flow = fiq_flow; tree = fiq_tree }

  fiq_states : (s : State) (is : List Input) → KeepsTo words fiq fiq_flow fiq_tree s is → KeepsStatement words fiq flow.profile fiq_flow s is
  fiq_states s is h = subst (λ (p : Profile). KeepsStatement words fiq p fiq_flow s is) prices (states words fiq fiq_flow fiq_tree fiq_of s is h)

  fiq_by_tree : (s : State) (is : List Input) → KeepsStatement words fiq flow.profile fiq_flow s is → KeepsTo words fiq fiq_flow fiq_tree s is
  fiq_by_tree s is h = by_tree words fiq fiq_flow fiq_tree fiq_of s is (subst (λ (p : Profile). KeepsStatement words fiq p fiq_flow s is) (sym prices) h)

  keeps_visited : (s : State) (main : List MainStep) → KeepsBoth irq_handled fiq_handled s main → KeepsVisited words words fiq flow.profile fiq_flow st flow s main
  keeps_visited s main h = record {
    walk = h.walk;
    complete = h.complete;
    kept = kept_here flow st.loops tree of.instances h.walk h.kept;
    follows = follows_as (KeepsTo words fiq fiq_flow fiq_tree) (KeepsStatement words fiq flow.profile fiq_flow) flow.profile fiq_states words st s main h.walk h.follows;
  }

  keeps_both : (s : State) (main : List MainStep) → KeepsVisited words words fiq flow.profile fiq_flow st flow s main → KeepsBoth irq_handled fiq_handled s main
  keeps_both s main h = record {
    walk = h.walk;
    complete = h.complete;
    kept = kept_there flow st.loops tree of.instances h.walk h.kept;
    follows = follows_as (KeepsStatement words fiq flow.profile fiq_flow) (KeepsTo words fiq fiq_flow fiq_tree) flow.profile fiq_by_tree words st s main h.walk h.follows;
  }

  module _ (bound fiq_bound : ℕ) (greatest : IsGreatestCost flow st.loops bound) (fiq_greatest : IsGreatestCost fiq_flow fiq.loops fiq_bound) where
    abbrev bounded_irq : BoundHandler
    bounded_irq = record { handled = irq_handled; bound = bound }

    abbrev bounded_fiq : BoundHandler
    bounded_fiq = record { handled = fiq_handled; bound = fiq_bound }

    within_total : (s : State) (inputs : List Input) (steps ticks visits : ℕ) (after : State) → IsKeptVisited irq_handled fiq_handled s inputs steps ticks visits after
        → KeepsWithinTotal bounded_irq bounded_fiq flow.profile s inputs visits ticks
    within_total s inputs steps ticks visits after k =
        let keeps = keeps_visited s k.main k.keeps in
        let runs : Runs s (inputs_of k.main) k.ran after = subst (λ (is : List Input). Runs s is k.ran after) (sym k.inputs_are) k.runs in
        let few : visits_of k.main ≤ visits = omega (arith, k.visits_are) in
        let most : TakesAtMost flow.profile (visits_bound flow.profile bound fiq_bound visits) (inputs_of k.main) k.ran =
        bounds_visited words words fiq flow.profile fiq_flow fiq_bound (fiq_entry_greatest flow.profile (fiq_entry flow.profile) refl) fiq_greatest st flow bound visits greatest s k.main k.ran after keeps few runs in
        record {
          steps = steps;
          few = k.few;
          main = k.main;
          inputs_are = k.inputs_are;
          keeps = keeps;
          visits_are = k.visits_are;
          ran = k.ran;
          after = after;
          runs = k.runs;
          ticks_are = k.ticks_are;
          at_most = subst (λ (n : ℕ). n ≤ visits_bound flow.profile bound fiq_bound visits) k.ticks_are most.ticks;
        }

    none_keeps : (s : State) (inputs : List Input) (steps at : ℕ) (why : _) (after : State) → IsStrayedVisited irq_handled fiq_handled s inputs steps at why after
        → NoneKeepsStatements bounded_irq bounded_fiq flow.profile s inputs
    none_keeps s inputs steps at why after h n main inputs_are keeps = h.none n main inputs_are (keeps_both s main keeps)

-- ## The report

pub bound_accepted : (source : File) (statement : List ℕ) (profile : Profile) (b : BoundedHandler) → IsBoundOf source statement profile b → IsAccepted source statement profile
unfolding accepted
bound_accepted source statement profile b is = accepted source statement profile b.handler.statement b.handler.graph b.handler.tree is.loops is.tree is.allowed

module _ (source : File) (statement fiq machine : List ℕ) (profile : Profile) (words : Words) (names : Names) (said : source_of source ≡ Ok (words, names))
    (irq other : BoundedHandler) (first : IsBoundOf source statement profile irq) (second : IsBoundOf source fiq profile other) where
  abbrev st : Stated
  st = irq.handler.statement

  abbrev flow : Flow
  flow = irq.handler.graph

  abbrev fiq_st : Stated
  fiq_st = other.handler.statement

  abbrev fiq_flow : Flow
  fiq_flow = other.handler.graph

  -- ### What the run is asked with

  profile_is : flow.profile ≡ profile
  profile_is = first.loops.graph.graph_is.profile_is

  pub same_prices : fiq_flow.profile ≡ flow.profile
  same_prices = second.loops.graph.graph_is.profile_is ∙ sym profile_is

  own_words : first.loops.graph.words ≡ words
  own_words = sym (same_words source statement profile words names st flow said first.loops)

  fiq_words : second.loops.graph.words ≡ words
  fiq_words = sym (same_words source fiq profile words names fiq_st fiq_flow said second.loops)

  -- the images are of the words that the source says
  irq_image : irq.handler.image.now ≡ words
  irq_image = first.image ∙ own_words

  fiq_image : other.handler.image.now ≡ words
  fiq_image = second.image ∙ fiq_words

  pub irq_handler_is : IsHandler irq.handler.image.now st flow irq.handler.tree
  irq_handler_is = record {
    graph_is =
        subst (λ (w : Words). IsFlowGraph w st flow.profile flow) (sym irq_image)
        (own_graph source statement machine profile words names said st flow irq.handler.tree first.loops first.tree);
    tree_is = first.tree.tree_is;
  }

  pub fiq_handler_is : IsHandler other.handler.image.now fiq_st fiq_flow other.handler.tree
  fiq_handler_is = record {
    graph_is =
        subst (λ (w : Words). IsFlowGraph w fiq_st fiq_flow.profile fiq_flow) (sym fiq_image)
        (own_graph source fiq machine profile words names said fiq_st fiq_flow other.handler.tree second.loops second.tree);
    tree_is = second.tree.tree_is;
  }

  pub fiq_bound_small : other.bound < 2 ^ 63
  fiq_bound_small = subst (λ (n : ℕ). n < 2 ^ 63) (sym second.bound_is) (bound_is_allowed fiq_flow other.handler.tree second.longest second.longest_is)

  -- ### What is said of it

  greatest : IsGreatestCost flow st.loops irq.bound
  greatest = subst (IsGreatestCost flow st.loops) (sym first.bound_is) (tree_is_greatest flow st.loops irq.handler.tree first.tree.instances first.longest.bound first.longest_is.greatest)

  fiq_greatest : IsGreatestCost fiq_flow fiq_st.loops other.bound
  fiq_greatest = subst (IsGreatestCost fiq_flow fiq_st.loops) (sym second.bound_is) (tree_is_greatest fiq_flow fiq_st.loops other.handler.tree second.tree.instances second.longest.bound second.longest_is.greatest)

  -- both handlers, by words and bounds that may be other names of theirs
  abbrev handled_by : Words → Handler → Handled
  handled_by w h = record { words = w; stated = h.statement; flow = h.graph; tree = h.tree }

  abbrev side : Words → ℕ → BoundHandler
  side w n = record { handled = handled_by w irq.handler; bound = n }

  abbrev fiq_side : Words → ℕ → BoundHandler
  fiq_side w n = record { handled = handled_by w other.handler; bound = n }

  visits_said : (before : ℕ) (s : State) (inputs : List Input) (run : VisitedRun) (after : State) (kept : Bool) (text : List ℕ)
      → IsVisitedRun (handled_by words irq.handler) (handled_by words other.handler) s inputs after run → IsRunText source words flow.profile irq other before (address_in after.regs) run kept text
      → IsVisitsText (side words irq.bound) (fiq_side words other.bound) flow.profile s inputs source before kept text
  unfolding within_total
  visits_said before s inputs (Kept steps ticks visits) after kept text is it =
      subst (λ (b : Bool). IsVisitsText (side words irq.bound) (fiq_side words other.bound) flow.profile s inputs source before b text) (sym it.0)
      (record {
        visits = visits;
        ticks = ticks;
        keeps = within_total words st flow irq.handler.tree first.tree fiq_st fiq_flow other.handler.tree second.tree same_prices irq.bound other.bound greatest fiq_greatest s inputs steps ticks visits after is;
        left = it.1.0;
        left_is = it.1.1;
        text_is = it.1.2;
      })
  visits_said before s inputs (Strayed steps at why) after kept text is it =
      subst (λ (b : Bool). IsVisitsText (side words irq.bound) (fiq_side words other.bound) flow.profile s inputs source before b text) (sym it.0)
      (record {
        steps = steps;
        at = at;
        why = why;
        after = after;
        line = it.1.0;
        none = none_keeps words st flow irq.handler.tree first.tree fiq_st fiq_flow other.handler.tree second.tree same_prices irq.bound other.bound greatest fiq_greatest s inputs steps at why after is;
        strays = is;
        line_is = it.1.1;
        text_is = it.1.2;
      })

  abbrev Said : (w v : Words) (n m : ℕ) (p : Profile) → State → List Input → Bool → List ℕ → Type 0
  Said w v n m p s inputs kept text = IsArrivalText (side w n) (fiq_side v m) p s inputs source kept text

  arrival_said : (s : State) (inputs : List Input) (kept : Bool) (text : List ℕ) → IsArrivedRun source words flow.profile irq other s inputs kept text ⊎ IsRunElsewhere irq s inputs kept text
      → Said words words irq.bound other.bound flow.profile s inputs kept text
  arrival_said s inputs kept text (inl a) = inl (record {
    before = a.before;
    now = a.now;
    arrives = a.arrives;
    is_text =
        let rest = drop a.before inputs in
        let by_irq : IsVisitedRun (handled_by words irq.handler) (handled other.handler) a.now rest a.after a.run =
        subst (λ (w : Words). IsVisitedRun (handled_by w irq.handler) (handled other.handler) a.now rest a.after a.run) irq_image a.judged in
        let judged : IsVisitedRun (handled_by words irq.handler) (handled_by words other.handler) a.now rest a.after a.run =
        subst (λ (w : Words). IsVisitedRun (handled_by words irq.handler) (handled_by w other.handler) a.now rest a.after a.run) fiq_image by_irq in
        visits_said a.before a.now rest a.run a.after kept text judged a.is_text;
  })
  arrival_said s inputs kept text (inr e) = inr (record { never = e.never; kept_is = e.kept_is; text_is = e.text_is })

  pub visits_reported : other.handler.statement.entry ≡ 0x1C → (file : machine_file.Stated) (state : State) (kept : Bool) (text : List ℕ) → IsPlaced source machine profile file state
      → IsVisitsJudged source words profile irq other file state kept text → IsFollowVisitsReport source statement fiq machine profile kept text
  unfolding accepted bounded
  visits_reported entry file state kept text placed j =
      let at_flow : IsVisitsJudged source words flow.profile irq other file state kept text = subst (λ (p : Profile). IsVisitsJudged source words p irq other file state kept text) (sym profile_is) j in
      let base = arrival_said state at_flow.inputs kept text at_flow.is_text in
      let priced = subst (λ (p : Profile). Said words words irq.bound other.bound p state at_flow.inputs kept text) profile_is base in
      let bounds = subst (λ (n : ℕ). Said words words n other.bound profile state at_flow.inputs kept text) first.bound_is priced in
      let both_bounds = subst (λ (n : ℕ). Said words words first.longest.bound n profile state at_flow.inputs kept text) second.bound_is bounds in
      let own = subst (λ (w : Words). Said w words first.longest.bound second.longest.bound profile state at_flow.inputs kept text) (sym own_words) both_bounds in
      record {
        bounded = bounded source statement profile st flow irq.handler.tree first.loops first.tree first.longest first.longest_is first.allowed;
        fiq_bounded = bounded source fiq profile fiq_st fiq_flow other.handler.tree second.loops second.tree second.longest second.longest_is second.allowed;
        fiq_entry_is = entry;
        state = state;
        inputs = at_flow.inputs;
        loaded = record { file = file; placed = placed; inputs_are = at_flow.inputs_are };
        is_text = subst (λ (w : Words). Said first.loops.graph.words w first.longest.bound second.longest.bound profile state at_flow.inputs kept text) (sym fiq_words) own;
      }

  -- ### What is accepted

  pub both_accepted : other.handler.statement.entry ≡ 0x1C → AreBothAccepted source statement fiq profile
  unfolding accepted
  both_accepted entry = record {
    handler = accepted source statement profile st flow irq.handler.tree first.loops first.tree first.allowed;
    fiq_handler = record { accepted = accepted source fiq profile fiq_st fiq_flow other.handler.tree second.loops second.tree second.allowed; entry_is = entry };
  }

-- ## Refusals

module _ (source : File) (statement fiq machine : List ℕ) (profile : Profile) where
  abbrev pub Refused : ReportFault → Type 0
  Refused = BeforeOutput (AreNotFollowed source statement fiq machine profile)

  pub irq_refused : (e : ReportFault) → BeforeOutput (IsRefused source statement profile) e → Refused e
  irq_refused e h = (h.0, inl h.1)

  pub fiq_refused : (e : ReportFault) → IsAccepted source statement profile → BeforeOutput (IsFiqRefused source fiq profile) e → Refused e
  fiq_refused e a h = (h.0, inr (inl (a, h.1)))

  pub machine_refused : (e : ReportFault) → AreBothAccepted source statement fiq profile → BeforeOutput (IsRunRefused source machine profile) e → Refused e
  machine_refused e a h = (h.0, inr (inr (a, h.1)))

  -- what can be followed is refused for lack of memory alone, or as the output fails
  visits_refusals : (e : ReportFault) → AreFollowable source statement fiq machine profile → AreNotFollowed source statement fiq machine profile e → (e ≡ Memory) ⊎ (e ≡ Device)
  visits_refusals e a (inl r) = accepted_refusals source statement profile e a.both.handler r
  visits_refusals e a (inr (inl r)) = fiq_accepted source fiq profile a.both.fiq_handler.accepted a.both.fiq_handler.entry_is e r.1
  visits_refusals e a (inr (inr r)) = runnable_refusals source machine profile e a.runnable r.1

  pub only_memory : {T : Type 0} (r : Result T ReportFault) → IfErr r Refused → AreFollowable source statement fiq machine profile → IfErr r (λ e. (e ≡ Memory) ⊎ (e ≡ Device))
  only_memory (Ok x) h a = tt
  only_memory (Err e) h a = visits_refusals e a h.1

  pub followable : (kept : Bool) (text : List ℕ) → IsFollowVisitsReport source statement fiq machine profile kept text → AreFollowable source statement fiq machine profile
  followable kept text r = record {
    both = record { handler = r.bounded.accepted; fiq_handler = record { accepted = r.fiq_bounded.accepted; entry_is = r.fiq_entry_is } };
    runnable = record { file = r.loaded.file; state = r.state; placed = r.loaded.placed };
  }

-- the answer on a kept run
pub kept_answer : (source : File) (words : Words) (profile : Profile) (irq fiq : BoundedHandler) (before after : ℕ) (run : VisitedRun) (steps ticks visits : ℕ) (line : List ℕ) (kept : Bool) (text : List ℕ)
    → run ≡ Kept steps ticks visits → line ≡ kept_visits_text ticks visits (visits_bound profile irq.bound fiq.bound visits)
    → (kept ≡ true) × ((left : List ℕ) × IsLeftText source words after left × (text ≡ line ++ left)) → IsRunText source words profile irq fiq before after run kept text
kept_answer source words profile irq fiq before after run steps ticks visits line kept text is line_is h =
    subst (λ (r : VisitedRun). IsRunText source words profile irq fiq before after r kept text) (sym is)
    (h.0, (h.1.0, h.1.1, h.1.2 ∙ ap (λ (l : List ℕ). l ++ h.1.0) line_is))
