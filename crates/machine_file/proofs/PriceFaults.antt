-- The faults of a cycle profile file key by key, as its readings have them.
use Rattle.std.proofs.Common.{◌≡◌, ◌≢◌, ◌⊎◌, ◌-◌, ◌^◌, ℕ, false, List, length, Any, MatchOption}
use Rattle.toml.specs.Data.{Data, Members}
use Rattle.bus_ticks.specs.Ranges.{AreInRange, AreOrdered}
use Rattle.toml_reading.specs.Documents.{has_only_keys, items_at}
use Rattle.toml_reading.specs.Lowest.{AtKeyOr, NumberFault}
use Rattle.machine_file.specs.ProfileFaults.{profile_faults}
use Rattle.machine_file.specs.ProfileFile.{profile_keys}
use Rattle.machine_file.specs.ProfileRules.{StatesNumbers, list_keys, number_keys}
use Rattle.machine_file.specs.declared.profile_faults.ProfileFileFault.{ProfileFileFault}
use Rattle.machine_file.specs.declared.profile_faults.ProfileFileFault.TheVariants.{UnknownKey, WrongKind, OutOfRange, Disordered}

abbrev pub TicksFault : Data → ProfileFileFault → Type 0
TicksFault d fault = NumberFault profile_faults (2 ^ 32 - 1) d fault

-- those of a list of four such numbers
abbrev pub FourFault : Data → ProfileFileFault → Type 0
FourFault d fault =
    MatchOption
    (items_at d)
    (fault ≡ WrongKind)
    (λ ds. ((length ds ≢ 4) × (fault ≡ WrongKind)) ⊎ Any (λ e. TicksFault e fault) ds)

-- a key that is missing or takes another value
abbrev pub PriceFault : Members → ProfileFileFault → Type 0
PriceFault ms fault =
    Any (λ key. AtKeyOr key ms (fault ≡ WrongKind) (λ d. TicksFault d fault)) number_keys
    ⊎ Any (λ key. AtKeyOr key ms (fault ≡ WrongKind) (λ d. FourFault d fault)) list_keys

-- fifteen numbers that are no profile
abbrev pub OrderFault : Members → ProfileFileFault → Type 0
OrderFault ms fault =
    (numbers : List ℕ)
    × StatesNumbers ms numbers
    × (((¬ AreInRange numbers) × (fault ≡ OutOfRange)) ⊎ ((¬ AreOrdered numbers) × (fault ≡ Disordered)))

abbrev pub HasPriceFault : Members → ProfileFileFault → Type 0
HasPriceFault ms fault =
    ((has_only_keys profile_keys ms ≡ false) × (fault ≡ UnknownKey)) ⊎ PriceFault ms fault ⊎ OrderFault ms fault
