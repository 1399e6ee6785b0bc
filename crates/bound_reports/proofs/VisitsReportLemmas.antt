-- The report of a handler that FIQ interrupts, and its refusals.
use Rattle.std.proofs.Common.{◌≡◌, ◌∙◌, ◌⊎◌, ◌+◌, ℕ, ◌≤◌, ◌<◌, Bool, List, [], ◌∷◌, Option, Some, None, Result, Ok, Err, refl, sym, ap, subst, inl, inr, arith}
use Rattle.std.specs.Prelude.{◌++◌, IfErr, IfSome, is_some, option_map, ◌^◌}
use Rattle.bus_ticks.specs.declared.profile.Profile.{Profile}
use Rattle.bus_ticks.specs.Worst.{fiq_entry}
use Rattle.bus_ticks.proofs.EntryLemmas.{fiq_entry_greatest}
use Rattle.control_flow.specs.Flow.{Flow}
use Rattle.statement.specs.Stated.{Stated}
use Rattle.loop_bounds.specs.Bounds.{IsGreatestCost}
use Rattle.longest_walk.specs.Visits.{visits_bound}
use Rattle.numbered_walks.specs.declared.fault.WalkFault.TheVariants as walk_fault
use Rattle.handlers.specs.FiqHandler.{AreApart, fiq_bytes}
use Rattle.handlers.specs.Refusal.{ComesAlone}
use Rattle.handlers.specs.Report.{BeforeOutput, IsBounded}
use Rattle.handlers.specs.Visits.{AreFewestVisits}
use Rattle.bound_reports.specs.VisitsReport.{AreAccepted, AreJoined, AreMostVisits, AreRefused, AreTooMany, BoundRuns, HasBound, HasFiqBound, HaveReports, IsVisitsReport, summary, waited_by}
use Rattle.bound_reports.specs.declared.visit_rate.MostVisits.{MostVisits}
use Rattle.bound_reports.specs.declared.visit_rate.VisitRate.{VisitRate}
use Rattle.bound_reports.specs.declared.visit_rate.VisitRate.TheVariants.{Every, Times}
use Rattle.handlers.specs.declared.fault.ReportFault.{ReportFault}
use Rattle.handlers.specs.declared.fault.ReportFault.TheVariants.{Memory, Walk, Device}
use Rattle.handlers.proofs.ApartLemmas.{fiqs_refusals}
use Rattle.handlers.proofs.FewestLemmas.{one_fewest}
use Rattle.handlers.proofs.HandlerLemmas.{one_graph}
use Rattle.handlers.proofs.ReportLemmas.{accepted_refusals}
use Rattle.handlers.proofs.VisitLemmas.{bounds_visited}
use Rattle.handlers.proofs.VisitRateLemmas.{bounds_every}
use Rattle.bound_reports.proofs.SummaryLemmas.{one_more}
use Rattle.sources.specs.File.{File}

-- ## One bound

one_greatest : (flow : Flow) (st : Stated) (n m : ℕ) → IsGreatestCost flow st.loops n → IsGreatestCost flow st.loops m → n ≡ m
one_greatest flow st n m g h =
    let up = h.upper g.walk g.complete g.kept in
    let down = g.upper h.walk h.complete h.kept in
    omega (arith, up, down, g.costs, h.costs)

one_bound : (source : File) (statement : List ℕ) (profile : Profile) (r s : IsBounded source statement profile) → r.longest.bound ≡ s.longest.bound
one_bound source statement profile r s =
    let a = r.accepted in
    let b = s.accepted in
    let same = one_graph source statement profile a.stated b.stated a.flow b.flow a.loops.graph b.loops.graph in
    one_greatest b.flow b.stated r.longest.bound s.longest.bound
    (subst (λ (st : Stated). IsGreatestCost b.flow st.loops r.longest.bound) same.same_stated
    (subst (λ (flow : Flow). IsGreatestCost flow a.stated.loops r.longest.bound) same.same_flow r.walk.greatest))
    s.walk.greatest

-- ## One number of visits

one_count : (rate : VisitRate) (profile : Profile) (irq fiq : ℕ) (visits : Option ℕ) (k : ℕ) → AreMostVisits rate profile irq fiq visits → AreMostVisits rate profile irq fiq (Some k) → visits ≡ Some k
one_count (Times n) profile irq fiq visits k are is = are ∙ sym is
one_count (Every every waited) profile irq fiq visits k are is = one_fewest profile irq fiq every (waited_by profile waited) visits k are is

not_too_many : (rate : VisitRate) (profile : Profile) (irq fiq : ℕ) (visits : Option ℕ) → AreMostVisits rate profile irq fiq visits → IfSome visits (λ k. visits_bound profile irq fiq k < 2 ^ 63)
    → AreTooMany rate profile irq fiq → ⊥
not_too_many rate profile irq fiq visits are small many =
    let few : visits_bound profile irq fiq many.visits < 2 ^ 63 =
    subst (λ (v : Option ℕ). IfSome v (λ k. visits_bound profile irq fiq k < 2 ^ 63)) (one_count rate profile irq fiq visits many.visits are many.visits_are) small in
    let large : 2 ^ 63 ≤ visits_bound profile irq fiq many.visits = many.large in
    absurd (omega (arith, few, large))

-- ## The text

module _ (rate : VisitRate) (profile : Profile) (irq fiq : ℕ) (t u : List ℕ) (ends : Bool) (front text : List ℕ) where
  joins_by : (most : Option MostVisits) → AreMostVisits rate profile irq fiq (option_map (λ m. m.visits) most)
      → IfSome most (λ m. (m.total ≡ visits_bound profile irq fiq m.visits) × (m.total < 2 ^ 63)) → ends ≡ is_some most
      → front ≡ summary rate profile irq fiq (option_map (λ m. m.visits) most) (option_map (λ m. m.total) most) → text ≡ front ++ (t ++ u)
      → AreJoined rate profile irq fiq t u ends text
  joins_by None are small is begins goes_on =
      record { visits = None; visits_are = are; small = tt; ends_is = is; text_is = goes_on ∙ ap (λ (f : List ℕ). f ++ (t ++ u)) begins }
  joins_by (Some m) are small is begins goes_on = record {
    visits = Some m.visits;
    visits_are = are;
    small = subst (λ n. n < 2 ^ 63) small.0 small.1;
    ends_is = is;
    text_is = goes_on ∙ ap (λ (f : List ℕ). f ++ (t ++ u)) (begins ∙ ap (λ n. summary rate profile irq fiq (Some m.visits) (Some n)) small.0);
  }

  pub joins : (most : Option MostVisits) → AreMostVisits rate profile irq fiq (option_map (λ m. m.visits) most)
      → IfSome most (λ m. (m.total ≡ visits_bound profile irq fiq m.visits) × (m.total < 2 ^ 63)) → ends ≡ is_some most
      → (empty : List ℕ) → empty ≡ [] → front ≡ empty ++ summary rate profile irq fiq (option_map (λ m. m.visits) most) (option_map (λ m. m.total) most)
      → (second : List ℕ) → second ≡ front ++ t → text ≡ second ++ u → AreJoined rate profile irq fiq t u ends text
  joins most are small is empty none begins second goes_on ends_with =
      joins_by most are small is
      (begins ∙ ap (λ (e : List ℕ). e ++ summary rate profile irq fiq (option_map (λ m. m.visits) most) (option_map (λ m. m.total) most)) none)
      (one_more front t u second text goes_on ends_with)

-- ## The report

module _ (source : File) (own : Option File) (irq fiq : List ℕ) (rate : VisitRate) (profile : Profile) where
  runs_of : (both : HaveReports source own irq fiq profile) (visits : Option ℕ) → AreMostVisits rate profile both.irq_is.bounded.longest.bound both.fiq_is.bounded.longest.bound visits
      → IfSome visits (BoundRuns source own irq fiq rate profile both)
  runs_of both None are = tt
  runs_of both (Some k) are =
      let first = both.irq_is.bounded in
      let second = both.fiq_is.bounded in
      let dearest = fiq_entry_greatest profile (fiq_entry profile) refl in
      record {
        counted = bounds_visited first.accepted.loops.graph.words second.accepted.loops.graph.words second.accepted.stated profile second.accepted.flow second.longest.bound
            dearest second.walk.greatest first.accepted.stated first.accepted.flow first.longest.bound k first.walk.greatest;
        timed = λ every waited is.
            let fewest : AreFewestVisits profile first.longest.bound second.longest.bound every (waited_by profile waited) (Some k) =
            subst (λ (r : VisitRate). AreMostVisits r profile first.longest.bound second.longest.bound (Some k)) is are in
            bounds_every first.accepted.loops.graph.words second.accepted.loops.graph.words second.accepted.stated profile second.accepted.flow second.longest.bound
            second.walk.greatest first.accepted.stated first.accepted.flow first.longest.bound every (waited_by profile waited) k first.walk.greatest fewest.0;
      }

  module _ (b c : ℕ) (t u : List ℕ) (h : HasBound source irq profile b t) (f : HasFiqBound (fiq_bytes source own) fiq profile c u) (apart : AreApart source own) where
    both_reports : HaveReports source own irq fiq profile
    both_reports = record {
      apart = apart;
      irq_text = t;
      irq_is = h.1.report;
      fiq_text = u;
      fiq_is = f.1.report;
      entry_is = ap (λ (st : Stated). st.entry) f.1.stated_is ∙ f.2;
    }

    pub visits_reported : (ends : Bool) (text : List ℕ) → AreJoined rate profile b c t u ends text → IsVisitsReport source own irq fiq rate profile ends text
    unfolding both_reports
    visits_reported ends text joined =
        let there : AreJoined rate profile h.1.report.bounded.longest.bound f.1.report.bounded.longest.bound t u ends text =
        subst (λ (n : ℕ). AreJoined rate profile n f.1.report.bounded.longest.bound t u ends text) (sym h.1.bound_is)
        (subst (λ (n : ℕ). AreJoined rate profile b n t u ends text) (sym f.1.bound_is) joined) in
        record { both = both_reports; joined = there; runs = runs_of both_reports there.visits there.visits_are }

    -- why the texts cannot be joined
    pub joined_refusal : (e : ReportFault) → (e ≡ Memory) ⊎ ((e ≡ Walk walk_fault.BoundTooLarge) × AreTooMany rate profile b c)
        → BeforeOutput (AreRefused source own irq fiq rate profile) e
    unfolding both_reports
    joined_refusal e (inl memory) = (λ d. cc (memory, d), subst (AreRefused source own irq fiq rate profile) (sym memory) (inl tt))
    joined_refusal e (inr large) =
        let there : AreTooMany rate profile h.1.report.bounded.longest.bound f.1.report.bounded.longest.bound =
        subst (λ (n : ℕ). AreTooMany rate profile n f.1.report.bounded.longest.bound) (sym h.1.bound_is)
        (subst (λ (n : ℕ). AreTooMany rate profile b n) (sym f.1.bound_is) large.1) in
        (λ d. cc (large.0, d), inr (inr (large.0, record { both = both_reports; too_many = there })))

  -- ## What is accepted

  pub report_accepted : (ends : Bool) (text : List ℕ) → IsVisitsReport source own irq fiq rate profile ends text → AreAccepted source own irq fiq rate profile
  report_accepted ends text r = record {
    both = r.both;
    not_too_many = not_too_many rate profile r.both.irq_is.bounded.longest.bound r.both.fiq_is.bounded.longest.bound r.joined.visits r.joined.visits_are r.joined.small;
  }

  visits_refusals : (e : ReportFault) → AreAccepted source own irq fiq rate profile → AreRefused source own irq fiq rate profile e → (e ≡ Memory) ⊎ (e ≡ Device)
  visits_refusals e a (inl r) = accepted_refusals source irq profile e a.both.irq_is.bounded.accepted r
  visits_refusals e a (inr (inl r)) = fiqs_refusals source own fiq profile a.both.apart a.both.fiq_is.bounded.accepted a.both.entry_is e r.1
  visits_refusals e a (inr (inr r)) =
      let both = r.1.both in
      let first = one_bound source irq profile both.irq_is.bounded a.both.irq_is.bounded in
      let second = one_bound (fiq_bytes source own) fiq profile both.fiq_is.bounded a.both.fiq_is.bounded in
      absurd (a.not_too_many
      (subst (λ (n : ℕ). AreTooMany rate profile n a.both.fiq_is.bounded.longest.bound) first
      (subst (λ (n : ℕ). AreTooMany rate profile both.irq_is.bounded.longest.bound n) second r.1.too_many)))

  -- the same of an answer
  pub only_memory_or_device : {T : Type 0} (r : Result T ReportFault) → IfErr r (BeforeOutput (AreRefused source own irq fiq rate profile))
      → AreAccepted source own irq fiq rate profile → IfErr r (λ e. (e ≡ Memory) ⊎ (e ≡ Device))
  only_memory_or_device (Ok x) h a = tt
  only_memory_or_device (Err e) h a = visits_refusals e a h.1

-- why the texts cannot be joined comes alone
pub joined_alone : (rate : VisitRate) (profile : Profile) (b c : ℕ) (e : ReportFault) → (e ≡ Memory) ⊎ ((e ≡ Walk walk_fault.BoundTooLarge) × AreTooMany rate profile b c) → ComesAlone e
joined_alone rate profile b c e (inl memory) = subst ComesAlone (sym memory) tt
joined_alone rate profile b c e (inr large) = subst ComesAlone (sym large.0) tt
