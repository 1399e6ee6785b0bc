-- The visits of FIQ's handler to a response, from what the calls return.
use Rattle.std.proofs.Common.{◌≡◌, ◌∙◌, ℕ, ◌+◌, ◌≤◌, ◌<◌, List, Option, Some, None, refl, sym, ap, subst, inl, inr, arith}
use Rattle.std.specs.Prelude.{IfSome, option_map, ◌^◌}
use Rattle.bus_ticks.specs.declared.profile.Profile.{Profile}
use Rattle.longest_walk.specs.Visits.{visits_bound}
use Rattle.numbered_walks.specs.declared.fault.WalkFault.TheVariants as walk_fault
use Rattle.responses.specs.declared.response.ResponseParts.{ResponseParts}
use Rattle.handlers.specs.FiqHandler.{AreApart, IsFiqsRefused, fiq_bytes}
use Rattle.handlers.specs.Report.{BeforeOutput}
use Rattle.handlers.specs.Visits.{AreFewestVisits}
use Rattle.handlers.specs.declared.fault.ReportFault.{ReportFault}
use Rattle.handlers.specs.declared.fault.ReportFault.TheVariants as report_fault
use Rattle.response_reports.specs.Question.{FiqQuestion}
use Rattle.response_reports.specs.RespondReport.{AreTooMany, AreVisits, waited_of}
use Rattle.response_reports.specs.RespondText.{response_of, visited_time}
use Rattle.response_reports.specs.RespondWork.{AreTimed, AreTimedFor, AreTooManyFor, AreVisitsRefused, IsFiqBoundOf, IsVisitorBound}
use Rattle.response_reports.specs.declared.visits.FiqVisits.{FiqVisits}
use Rattle.response_reports.specs.declared.visits.VisitedTime.{VisitedTime}
use Rattle.sources.specs.File.{File}

module _ (profile : Profile) (p : ResponseParts) (source : File) (f : FiqQuestion) where
  -- FIQ's handler is refused
  pub visitor_refused : (e : ReportFault) → BeforeOutput (IsFiqsRefused source f.own f.statement profile) e → BeforeOutput (AreVisitsRefused profile p source (Some f)) e
  visitor_refused e h = (h.0, inl h.1)

  module _ (bound : ℕ) (apart : AreApart source f.own) (is : IsFiqBoundOf (fiq_bytes source f.own) f.statement profile bound) where
    visitor : IsVisitorBound source profile f bound
    visitor = record { visitor = record { apart = apart; bounded = is.bounded; entry_is = is.entry_is }; bound_is = is.bound_is }

    pub timed_for : (t : VisitedTime) → AreTimed profile p f bound t → AreTimedFor profile p source (Some f) (Some t)
    timed_for t timed = (bound, visitor, (t, timed, refl))

    -- or the time with its visits is too long
    pub visited_too_long : (e : ReportFault) → (e ≡ report_fault.Walk walk_fault.BoundTooLarge) × AreTooMany profile p f bound → BeforeOutput (AreVisitsRefused profile p source (Some f)) e
    visited_too_long e h = (λ d. cc (h.0, d), inr (h.0, (bound, visitor, h.1)))

  -- ## The time with visits, by the bound of FIQ's handler

  module _ (bound waited response : ℕ) (waited_is : waited ≡ waited_of f.waited p) (response_is : response ≡ response_of profile p) where
    abbrev v : Option ℕ → FiqVisits
    v visits = record { bound = bound; every = f.every; waited = waited; visits = visits }

    pub timed : (visits time : Option ℕ) → AreFewestVisits profile response bound f.every waited visits → option_map (visits_bound profile response bound) visits ≡ time → IfSome time (λ ticks. ticks < 2 ^ 63)
        → AreTimed profile p f bound (record { visits = v visits; time = time })
    timed visits time fewest time_is small =
        let by_parts : option_map (visits_bound profile (response_of profile p) bound) visits ≡ time = subst (λ (n : ℕ). option_map (visits_bound profile n bound) visits ≡ time) response_is time_is in
        record {
          are = record {
            bound_is = refl;
            every_is = refl;
            waited_is = waited_is;
            fewest = subst (λ (n : ℕ). AreFewestVisits profile n bound f.every waited visits) response_is fewest;
            small = subst (λ (t : Option ℕ). IfSome t (λ ticks. ticks < 2 ^ 63)) (sym by_parts) small;
          };
          time_is = by_parts;
        }

    pub too_many : (visits : ℕ) → AreFewestVisits profile response bound f.every waited (Some visits) → 2 ^ 63 ≤ visits_bound profile response bound visits → AreTooMany profile p f bound
    too_many visits fewest large = record {
      visits = visits;
      fewest = subst (λ (n : ℕ). AreFewestVisits profile (response_of profile p) bound f.every n (Some visits)) waited_is (subst (λ (n : ℕ). AreFewestVisits profile n bound f.every waited (Some visits)) response_is fewest);
      large = subst (λ (n : ℕ). 2 ^ 63 ≤ visits_bound profile n bound visits) response_is large;
    }
