-- The faults of a machine file key by key, as its readings have them.
use Rattle.std.proofs.Common.{◌≡◌, ◌≢◌, ◌⊎◌, ◌-◌, ◌^◌, ℕ, pos, false, List, codes, Any, MatchOption}
use Rattle.std.specs.List.{list_all}
use Rattle.toml.specs.Data.{Data, Members, as_integer, as_str}
use Rattle.memc.specs.declared.spots.PageSize.{PageSize}
use Rattle.toml_reading.specs.Documents.{has_only_keys}
use Rattle.toml_reading.specs.Lowest.{AtKey, AtKeyOr, IsNoAddress, ListFault, NameFault, NumberFault, TableFault}
use Rattle.machine_file.specs.MachineFaults.{machine_faults}
use Rattle.machine_file.specs.MachineFile.{is_letter, is_single}
use Rattle.ioc.specs.LineNames.{line_named}
use Rattle.machine_file.specs.MachineFaultRules.{AreNoRequests, IsNoPutAddress, IsPageTwice, IsStepTwice, IsUnmappable, IsWordTwice}
use Rattle.machine_file.specs.MachineRules.{kilobytes}
use Rattle.machine_file.specs.Names.{event_keys, file_keys, ioc_keys, map_keys, name_of, named_mode, named_registers, register_keys, vidc_keys, word_keys}
use Rattle.machine_file.specs.declared.machine_faults.MachineFileFault.{MachineFileFault}
use Rattle.machine_file.specs.declared.machine_faults.MachineFileFault.TheVariants.{UnknownKey, WrongKind, OutOfRange, Twice}

-- a number from 0 to a limit
abbrev pub UpToFault : ℕ → Data → MachineFileFault → Type 0
UpToFault limit d fault = NumberFault machine_faults limit d fault

abbrev pub WordFault : Data → MachineFileFault → Type 0
WordFault d fault = UpToFault (2 ^ 32 - 1) d fault

abbrev pub AddressFault : Data → MachineFileFault → Type 0
AddressFault d fault =
    MatchOption (as_integer d) (fault ≡ WrongKind) (λ z. IsNoAddress z × (fault ≡ OutOfRange))

abbrev pub SizeFault : Data → MachineFileFault → Type 0
SizeFault d fault =
    MatchOption
    (as_integer d)
    (fault ≡ WrongKind)
    (λ z. ((size : PageSize) → z ≢ pos (kilobytes size)) × (fault ≡ OutOfRange))

abbrev pub FlagsFault : Data → MachineFileFault → Type 0
FlagsFault d fault =
    MatchOption
    (as_str d)
    (fault ≡ WrongKind)
    (λ text. ((list_all is_letter text ≡ false) × (fault ≡ WrongKind)) ⊎ ((is_single text ≡ false) × (fault ≡ Twice)))

abbrev pub LinesFault : Data → MachineFileFault → Type 0
LinesFault d fault = ListFault machine_faults (NameFault machine_faults line_named) d fault

abbrev pub RegistersFault : Data → MachineFileFault → Type 0
RegistersFault d fault =
    TableFault
    machine_faults
    register_keys
    (λ ms f. Any (λ r. AtKey (name_of r) ms (λ e. WordFault e f)) named_registers)
    d
    fault

-- a word at a key that must be there
abbrev pub NeedsWord : Members → List ℕ → MachineFileFault → Type 0
NeedsWord ms key f = AtKeyOr key ms (f ≡ WrongKind) (λ e. WordFault e f)

-- the values of the keys of a page's table, an event's and a word's
abbrev pub PageFaults : Members → MachineFileFault → Type 0
PageFaults ms f =
    NeedsWord ms (codes "logical") f ⊎ NeedsWord ms (codes "physical") f ⊎ NeedsWord ms (codes "level") f

abbrev pub PageFault : Data → MachineFileFault → Type 0
PageFault d fault = TableFault machine_faults map_keys PageFaults d fault

abbrev pub EventFaults : Members → MachineFileFault → Type 0
EventFaults ms f =
    AtKeyOr (codes "step") ms (f ≡ WrongKind) (λ e. UpToFault 65535 e f)
    ⊎ AtKey (codes "bursts") ms (λ e. UpToFault 65535 e f)
    ⊎ AtKey (codes "lines") ms (λ e. LinesFault e f)
    ⊎ AtKey (codes "port") ms (λ e. WordFault e f)

abbrev pub EventFault : Data → MachineFileFault → Type 0
EventFault d fault = TableFault machine_faults event_keys EventFaults d fault

abbrev pub PutAddressFault : Data → MachineFileFault → Type 0
PutAddressFault d fault =
    MatchOption (as_integer d) (fault ≡ WrongKind) (λ z. IsNoPutAddress z × (fault ≡ OutOfRange))

abbrev pub NeedsPutAddress : Members → MachineFileFault → Type 0
NeedsPutAddress ms f = AtKeyOr (codes "at") ms (f ≡ WrongKind) (λ e. PutAddressFault e f)

abbrev pub PutWordFaults : Members → MachineFileFault → Type 0
PutWordFaults ms f = NeedsPutAddress ms f ⊎ NeedsWord ms (codes "value") f

abbrev pub PutWordFault : Data → MachineFileFault → Type 0
PutWordFault d fault = TableFault machine_faults word_keys PutWordFaults d fault

-- the values of the keys of IOC's table and of VIDC's
abbrev pub UpToAt : List ℕ → ℕ → Members → MachineFileFault → Type 0
UpToAt key limit ms f = AtKey key ms (λ e. UpToFault limit e f)

abbrev pub RequestsFault : Data → MachineFileFault → Type 0
RequestsFault d fault =
    MatchOption (as_integer d) (fault ≡ WrongKind) (λ z. AreNoRequests z × (fault ≡ OutOfRange))

abbrev pub IocFaults : Members → MachineFileFault → Type 0
IocFaults ms f =
    UpToAt (codes "mask_a") 0xFF ms f
    ⊎ UpToAt (codes "mask_b") 0xFF ms f
    ⊎ UpToAt (codes "mask_fiq") 0xFF ms f
    ⊎ AtKey (codes "requests_a") ms (λ e. RequestsFault e f)
    ⊎ UpToAt (codes "timer_0") 0xFFFF ms f
    ⊎ UpToAt (codes "count_0") 0xFFFF ms f
    ⊎ UpToAt (codes "timer_1") 0xFFFF ms f
    ⊎ UpToAt (codes "count_1") 0xFFFF ms f

abbrev pub IocFault : Data → MachineFileFault → Type 0
IocFault d fault = TableFault machine_faults ioc_keys IocFaults d fault

abbrev pub VidcFaults : Members → MachineFileFault → Type 0
VidcFaults ms f =
    UpToAt (codes "horizontal_cycle") 0x3FF ms f
    ⊎ UpToAt (codes "vertical_cycle") 0x3FF ms f
    ⊎ UpToAt (codes "display_end") 0x3FF ms f
    ⊎ UpToAt (codes "pixel_rate") 3 ms f
    ⊎ UpToAt (codes "ticks") (2 ^ 32 - 1) ms f

abbrev pub VidcFault : Data → MachineFileFault → Type 0
VidcFault d fault = TableFault machine_faults vidc_keys VidcFaults d fault

-- those of the values of its keys
abbrev pub ValueFault : Members → MachineFileFault → Type 0
ValueFault ms fault =
    AtKeyOr (codes "pc") ms (fault ≡ WrongKind) (λ d. AddressFault d fault)
    ⊎ AtKey (codes "mode") ms (λ d. NameFault machine_faults named_mode d fault)
    ⊎ AtKey (codes "flags") ms (λ d. FlagsFault d fault)
    ⊎ AtKey (codes "registers") ms (λ d. RegistersFault d fault)
    ⊎ AtKey (codes "low_rom") ms (λ d. UpToFault 3 d fault)
    ⊎ AtKey (codes "high_rom") ms (λ d. UpToFault 3 d fault)
    ⊎ AtKey (codes "pages") ms (λ d. SizeFault d fault)
    ⊎ AtKey (codes "map") ms (λ d. ListFault machine_faults PageFault d fault)
    ⊎ AtKey (codes "steps") ms (λ d. UpToFault 65536 d fault)
    ⊎ AtKey (codes "port") ms (λ d. WordFault d fault)
    ⊎ AtKey (codes "event") ms (λ d. ListFault machine_faults EventFault d fault)
    ⊎ AtKey (codes "word") ms (λ d. ListFault machine_faults PutWordFault d fault)
    ⊎ AtKey (codes "ioc") ms (λ d. IocFault d fault)
    ⊎ AtKey (codes "vidc") ms (λ d. VidcFault d fault)

abbrev pub HasKeyFault : Members → MachineFileFault → Type 0
HasKeyFault ms fault =
    ((has_only_keys file_keys ms ≡ false) × (fault ≡ UnknownKey))
    ⊎ ValueFault ms fault
    ⊎ (IsUnmappable ms × (fault ≡ OutOfRange))
    ⊎ (IsPageTwice ms × (fault ≡ Twice))
    ⊎ (IsStepTwice ms × (fault ≡ Twice))
    ⊎ (IsWordTwice ms × (fault ≡ Twice))
