-- How a handler comes to a label, from what the calls return.
use Rattle.std.proofs.Common.{◌≡◌, ◌≢◌, ◌∙◌, ◌⊎◌, ℕ, ◌≤◌, List, Option, Some, None, refl, sym, ap, subst, inl, inr, arith}
use Rattle.bus_ticks.specs.declared.profile.Profile.{Profile}
use Rattle.image.specs.Labels.{Names, address_of}
use Rattle.statement.specs.Stated.{Stated, StatedLoops}
use Rattle.control_flow.specs.Flow.{Flow}
use Rattle.loop_bounds.specs.Handler.{IsTreeOf}
use Rattle.loop_bounds.specs.Tree.{Tree}
use Rattle.longest_walk.specs.Longest.{IsWalkFault}
use Rattle.numbered_walks.specs.declared.fault.WalkFault.{WalkFault}
use Rattle.numbered_walks.specs.declared.fault.WalkFault.TheVariants as walk_fault
use Rattle.responses.specs.Response.{IsWorstArrival, IsWorstStepAt}
use Rattle.responses.specs.declared.interrupts.Interrupt.{Interrupt}
use Rattle.responses.specs.declared.interrupts.Interrupt.TheVariants.{Irq, Fiq}
use Rattle.sources.specs.Source.{Said, Says, source_of}
use Rattle.sources.specs.declared.read.Source.{Source}
use Rattle.source_reports.specs.DraftReport.{entry_of}
use Rattle.handlers.specs.Faults.{of_walk}
use Rattle.handlers.specs.Report.{BeforeOutput, HasLoops, IsRefused, IsWalkRefusal}
use Rattle.handlers.specs.declared.fault.ReportFault.{ReportFault}
use Rattle.handlers.specs.declared.fault.ReportFault.TheVariants as report_fault
use Rattle.handlers.proofs.HandlerLemmas.{handler_refusals, one_graph, one_ok}
use Rattle.handlers.proofs.ReportLemmas.{none_holds}
use Rattle.response_reports.specs.Question.{Question}
use Rattle.response_reports.specs.RespondReport.{EntersElsewhere, HasNoAddress, IsAimed, IsAimRefused, IsAskedOf, IsEntered, IsNotReached, vector_at}
use Rattle.response_reports.specs.RespondWork.{IsReachedAs}
use Rattle.response_reports.specs.declared.reaching.Reached.{Reached}

-- a walk fault that no walk allows is lack of memory
pub only_memory : (flow : Flow) (tree : Tree) (f : WalkFault) → ((other : WalkFault) → other ≢ walk_fault.Memory → IsWalkFault flow tree other → ⊥) → IsWalkFault flow tree f → of_walk f ≡ report_fault.Memory
only_memory flow tree walk_fault.Memory allowed h = refl
only_memory flow tree walk_fault.NoCompleteWalk allowed h = absurd (allowed walk_fault.NoCompleteWalk (λ e. cc e) h)
only_memory flow tree walk_fault.BoundTooLarge allowed h = absurd (allowed walk_fault.BoundTooLarge (λ e. cc e) h)

module _ (q : Question) (profile : Profile) (st : Stated) (flow : Flow) (loops : HasLoops q.source q.statement profile st flow)
    (said : Source) (says : Says q.source said) where
  pub entry_there : entry_of loops.graph.names q.label ≡ entry_of (address_of said.labels) q.label
  entry_there =
      let names : loops.graph.names ≡ address_of said.labels =
      ap (λ (p : Said). p.1) (one_ok (loops.graph.words, loops.graph.names) (said.image, address_of said.labels) (source_of q.source) loops.graph.source_is says) in
      ap (λ (n : Names). entry_of n q.label) names

  pub not_vector : ((i : Interrupt) → IsAskedOf q.fiq i → st.entry ≢ vector_at i) → EntersElsewhere q profile
  not_vector elsewhere = record { stated = st; flow = flow; loops = loops; elsewhere = elsewhere }

  module _ (interrupt : Interrupt) (asked_of : IsAskedOf q.fiq interrupt) (entry_is : st.entry ≡ vector_at interrupt) where
    abbrev entered : IsEntered q profile
    entered = record { stated = st; flow = flow; loops = loops; interrupt = interrupt; asked_of = asked_of; entry_is = entry_is }

    pub no_address : None ≡ entry_of (address_of said.labels) q.label → HasNoAddress q profile
    no_address none = record { entered = entered; at_is = entry_there ∙ sym none }

    module _ (at : ℕ) (found : Some at ≡ entry_of (address_of said.labels) q.label) where
      abbrev aimed : IsAimed q profile
      aimed = record { entered = entered; at = at; at_is = entry_there ∙ sym found }

      -- what refuses its report does so for its walks
      pub walk_refused : (e : ReportFault) → BeforeOutput (IsRefused q.source q.statement profile) e → (e ≡ report_fault.Memory) ⊎ IsAimRefused q profile e
      walk_refused (report_fault.Walk f) h =
          let r = h.1 in
          let same = one_graph q.source q.statement profile r.stated st r.flow flow r.loops.graph loops.graph in
          inr (record {
            aimed = aimed;
            not_memory = r.not_memory;
            holds =
                subst (λ (s : Stated). IsWalkRefusal flow s.loops f) same.same_stated (subst (λ (w : Flow). IsWalkRefusal w r.stated.loops f) same.same_flow r.holds);
          })
      walk_refused report_fault.Device h = absurd (h.0 refl)
      walk_refused e h = inl (handler_refusals q.source q.statement profile st flow e loops h.1)

      module _ (tree : Tree) (of : IsTreeOf flow st.loops tree) where
        module _ (allowed : (f : WalkFault) → f ≢ walk_fault.Memory → IsWalkFault flow tree f → ⊥) where
          abbrev none : (f : WalkFault) → f ≢ walk_fault.Memory → IsWalkRefusal flow st.loops f → ⊥
          none = none_holds q.source q.statement profile st flow tree loops of allowed

          pub not_reached : IsWorstArrival flow st.loops at None ⊎ IsWorstStepAt flow at None → IsNotReached q profile
          not_reached h = record { aimed = aimed; no_fault = none; none = h }

          pub reached : (arrival own : ℕ) → IsWorstArrival flow st.loops at (Some arrival) → IsWorstStepAt flow at (Some own) → (r : Reached)
              → interrupt ≡ r.interrupt → arrival ≡ r.arrival → own ≡ r.own → IsReachedAs q profile r
          reached arrival own arrival_is own_is r i a o = record {
            is = record { aimed = aimed; no_fault = none; arrival = arrival; arrival_is = arrival_is; own = own; own_is = own_is };
            interrupt_is = i;
            arrival_is = a;
            own_is = o;
          }
