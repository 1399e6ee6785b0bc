-- An answer by the profile that was read.
use Rattle.std.proofs.Common.{◌⊎◌, ℕ, List, Option, Result, inl}
use Rattle.bus_ticks.specs.declared.profile.Profile.{Profile}
use Rattle.handlers.specs.declared.fault.ReportFault.{ReportFault}
use Rattle.handlers.specs.Priced.{ByProfile, IsProfile, IsUnpriced}

pub by_profile : {O T : Type 0} {file : Option (List ℕ)} {Holds : Profile → Type 0} {old new : O}
    {result : Result T ReportFault} (profile : Profile) → IsProfile file profile → Holds profile
    → ByProfile file Holds ⊎ IsUnpriced file old new result
by_profile profile is holds = inl (record { profile = profile; is = is; holds = holds })
