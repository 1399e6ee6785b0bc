-- A run that serves IRQ and takes FIQ at most once in so many ticks.
use Rattle.std.specs.Prelude.{ℕ}
use Rattle.bus_ticks.specs.declared.profile.Profile.{Profile}
use Rattle.responses.specs.Visited.{HasVisitedService, service_inputs}
use Rattle.handlers.specs.Visits.{AreTakenApart, IsTakenEvery, TakesFiq}

-- A run that serves IRQ, with a visit; some step of it takes FIQ, any two that do are so many ticks apart,
-- and FIQ is taken at most once in so many, where it may have waited for so many.
pub record HasServiceEvery (profile : Profile) (every waited : ℕ) : Type 0 where
  pub has : HasVisitedService profile
  pub takes : TakesFiq has.s (service_inputs has.service)
  pub apart : AreTakenApart every has.s (service_inputs has.service)
  pub taken : IsTakenEvery every waited has.s (service_inputs has.service)
