-- The cycle profile of a call: that of a file, or where there is no file the first one.
use Rattle.std.specs.Prelude.{◌≡◌, ◌⊎◌, ℕ, List, Option, Some, None, Result, Ok, Err, option_map}
use Rattle.std.specs.Borrow.{Bor}
use Rattle.bus_ticks.specs.Numbers.{numbers_of, profile_one}
use Rattle.bus_ticks.specs.declared.profile.Profile.{Profile}
use Rattle.machine_file.specs.ProfileFile.{IsProfileFile}
use Rattle.handlers.specs.declared.fault.ReportFault.{ReportFault}
use Rattle.handlers.specs.declared.fault.ReportFault.TheVariants as report_fault

-- the bytes of a file, if one is given
abbrev pub given : Option (Bor (List ℕ)) → Option (List ℕ)
given file = option_map (λ f. f.now) file

abbrev pub IsProfile : Option (List ℕ) → Profile → Type 0
IsProfile None profile = numbers_of profile ≡ profile_one
IsProfile (Some text) profile = IsProfileFile text (Ok (numbers_of profile))

-- why a file has no profile; an allocation may fail whatever it says
abbrev pub HasNoProfile : Option (List ℕ) → ReportFault → Type 0
HasNoProfile file report_fault.Memory = Unit {0}
HasNoProfile (Some text) (report_fault.Profile fault) = IsProfileFile text (Err fault)
HasNoProfile file fault = ⊥

-- it holds by the profile
pub record ByProfile (file : Option (List ℕ)) (Holds : Profile → Type 0) : Type 0 where
  pub profile : Profile
  pub is : IsProfile file profile
  pub holds : Holds profile

-- why a call is refused, its profile's file too
abbrev pub PricedFault : Option (List ℕ) → (Profile → ReportFault → Type 0) → ReportFault → Type 0
PricedFault file IsFault fault = ByProfile file (λ profile. IsFault profile fault) ⊎ HasNoProfile file fault

-- there is no profile, and nothing was written
pub record IsUnpriced {O T : Type 0} (file : Option (List ℕ)) (old new : O)
    (result : Result T ReportFault) : Type 0 where
  pub fault : ReportFault
  pub no_profile : HasNoProfile file fault
  pub answered : result ≡ Err fault
  pub same : new ≡ old

-- the answer by the profile; or there is none, which is answered before all else
abbrev pub Priced : {O T : Type 0} → Option (List ℕ) → (Profile → Type 0) → O → O → Result T ReportFault
    → Type 0
Priced file Holds old new result = ByProfile file Holds ⊎ IsUnpriced file old new result
