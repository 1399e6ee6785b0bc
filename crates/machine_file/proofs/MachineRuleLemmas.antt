-- What is read of a machine file, against what its keys state and their faults.
use Rattle.std.proofs.Common.{◌≡◌, ℕ, ◌-◌, ◌^◌, ◌≤◌, ◌⊎◌, ◌↔◌, ◌&&◌, Bool, true, false, List, [], ◌∷◌, codes, map, replicate, nat_lt, inl, inr, refl, sym, ap, subst, ◌∙◌, arith}
use Rattle.std.specs.List.{list_all}
use Rattle.std.specs.Map.{keys_of}
use Rattle.std.proofs.lemmas.Bool.{and_cases, and_left, and_right}
use Rattle.toml.specs.Data.{Members, as_table, get_member}
use Rattle.arm2_effect.specs.declared.modes.Mode.{Mode}
use Rattle.arm2_effect.specs.declared.modes.Mode.TheVariants.{Svc}
use Rattle.memc.specs.Memory.{shift_of_size}
use Rattle.memc.specs.declared.spots.PageSize.{PageSize}
use Rattle.memc.specs.declared.spots.PageSize.TheVariants.{K4}
use Rattle.toml_reading.specs.Documents.{are_distinct, has_only_keys, tables_at}
use Rattle.toml_reading.specs.Lowest.{AtKey, AtKeyOr, IsListOf, IsNamed, IsNumber, KeysFault, ListFault, NameFault, entries_at}
use Rattle.toml_reading.specs.Readings.{pair, reading_map}
use Rattle.toml_reading.proofs.LowestLemmas.{Judges, and_then_judged, joint, judged_as, judged_one, optional_judged, required_judged, map_judged, two_tests}
use Rattle.toml_reading.proofs.LowestParts.{entries_state, keys_judged, named_judged, number_or_judged, number_read, numbers_read, some_weaker, tables_judged}
use Rattle.machine_file.specs.MachineFaults.{machine_faults, number_of}
use Rattle.machine_file.specs.MachineFile.{Read, are_single, controller_in, controller_of, event_at, events_in, flags_at, flags_in, is_mappable, machine_in, mapped, mode_at, mode_in, page_at, pages_in, pc_at, pc_in, processor_in, processor_of, registers_at, registers_in, schedule_in, schedule_of, set_flags, size_at, size_in, stated_of, put_words_in, devices_in}
use Rattle.machine_file.specs.MachineFaultRules.{IsPageTwice, IsStepTwice, IsUnmappable, are_below, page_numbers}
use Rattle.machine_file.specs.MachineRules.{AreFlags, AreRegisters, IsAddress, IsEvent, IsPage, IsSize, StatesController, StatesMachine, StatesProcessor, StatesSchedule}
use Rattle.machine_file.specs.Words.{IsWord}
use Rattle.machine_file.specs.Names.{file_keys, map_keys, named_mode}
use Rattle.machine_file.specs.Stated.{Controller, IocSetting, Processor, Schedule, Stated, VidcSetting}
use Rattle.machine_file.specs.declared.events.Event.{Event}
use Rattle.machine_file.specs.declared.flags.PsrFlags.{PsrFlags}
use Rattle.machine_file.specs.declared.machine_faults.MachineFileFault.{MachineFileFault}
use Rattle.machine_file.specs.declared.machine_faults.MachineFileFault.TheVariants.{WrongKind, OutOfRange, Twice}
use Rattle.machine_file.specs.declared.pages.MappedPage.{MappedPage}
use Rattle.machine_file.proofs.MachineValueLemmas.{address_judged, event_judged, event_low, flags_judged, page_judged, page_low, registers_judged, size_judged, size_low, list_low, some_low}
use Rattle.machine_file.proofs.KeyFaults.{AddressFault, EventFault, FlagsFault, HasKeyFault, PageFault, RegistersFault, SizeFault, UpToFault, WordFault}
use Rattle.machine_file.proofs.OnceLemmas.{once_judged}
use Rattle.machine_file.proofs.DeviceLemmas.{IocsFault, IocsStates, VidcsFault, VidcsStates, ioc_in_judged, vidc_in_judged}
use Rattle.machine_file.proofs.PutWordLemmas.{WordTwiceFault, WordsFault, WordsStates, words_judged}

-- ## The processor

module _ (ms : Members) where
  abbrev PcStates : ℕ → Type 0
  PcStates n = AtKey (codes "pc") ms (λ d. IsAddress d n)

  abbrev PcFault : MachineFileFault → Type 0
  PcFault f = AtKeyOr (codes "pc") ms (f ≡ WrongKind) (λ d. AddressFault d f)

  pc_judged : Judges machine_faults PcStates PcFault (pc_in ms)
  pc_judged =
      required_judged machine_faults IsAddress AddressFault pc_at address_judged (get_member (codes "pc") ms)

  abbrev ModeStates : Mode → Type 0
  ModeStates m = AtKeyOr (codes "mode") ms (m ≡ Svc) (λ d. IsNamed named_mode d m)

  abbrev ModeFault : MachineFileFault → Type 0
  ModeFault f = AtKey (codes "mode") ms (λ d. NameFault machine_faults named_mode d f)

  mode_judged : Judges machine_faults ModeStates ModeFault (mode_in ms)
  mode_judged =
      optional_judged
      machine_faults
      (IsNamed named_mode)
      (NameFault machine_faults named_mode)
      mode_at
      (named_judged machine_faults named_mode)
      Svc
      (get_member (codes "mode") ms)

  abbrev FlagStates : PsrFlags → Type 0
  FlagStates flags = AtKeyOr (codes "flags") ms (flags ≡ set_flags (codes "IF")) (λ d. AreFlags d flags)

  abbrev FlagFault : MachineFileFault → Type 0
  FlagFault f = AtKey (codes "flags") ms (λ d. FlagsFault d f)

  flags_in_judged : Judges machine_faults FlagStates FlagFault (flags_in ms)
  flags_in_judged =
      optional_judged
      machine_faults
      AreFlags
      FlagsFault
      flags_at
      flags_judged
      (set_flags (codes "IF"))
      (get_member (codes "flags") ms)

  abbrev RegisterStates : List ℕ → Type 0
  RegisterStates words = AtKeyOr (codes "registers") ms (words ≡ replicate 26 0) (λ d. AreRegisters d words)

  abbrev RegisterFault : MachineFileFault → Type 0
  RegisterFault f = AtKey (codes "registers") ms (λ d. RegistersFault d f)

  registers_in_judged : Judges machine_faults RegisterStates RegisterFault (registers_in ms)
  registers_in_judged =
      optional_judged
      machine_faults
      AreRegisters
      RegistersFault
      registers_at
      registers_judged
      (replicate 26 0)
      (get_member (codes "registers") ms)

  abbrev ProcessorStates : Processor → Type 0
  ProcessorStates p = (PcStates p.pc × (ModeStates p.mode × FlagStates p.flags)) × RegisterStates p.registers

  abbrev ProcessorFault : MachineFileFault → Type 0
  ProcessorFault f = (PcFault f ⊎ (ModeFault f ⊎ FlagFault f)) ⊎ RegisterFault f

  processor_judged : Judges machine_faults ProcessorStates ProcessorFault (processor_in ms)
  processor_judged =
      map_judged
      machine_faults
      _
      ProcessorStates
      ProcessorFault
      processor_of
      (λ p s. s)
      (λ p t. (((p.pc, (p.mode, p.flags)), p.registers), t, refl))
      _
      (joint (joint pc_judged (joint mode_judged flags_in_judged)) registers_in_judged)

  -- ## Pages

  abbrev SizeStates : PageSize → Type 0
  SizeStates size = AtKeyOr (codes "pages") ms (size ≡ K4) (λ d. IsSize d size)

  abbrev SizesFault : MachineFileFault → Type 0
  SizesFault f = AtKey (codes "pages") ms (λ d. SizeFault d f)

  size_in_judged : Judges machine_faults SizeStates SizesFault (size_in ms)
  size_in_judged =
      optional_judged machine_faults IsSize SizeFault size_at size_judged K4 (get_member (codes "pages") ms)

  abbrev PageStates : List MappedPage → Type 0
  PageStates pages = AtKeyOr (codes "map") ms (pages ≡ []) (λ d. IsListOf IsPage d pages)

  abbrev PagesFault : MachineFileFault → Type 0
  PagesFault f = AtKey (codes "map") ms (λ d. ListFault machine_faults PageFault d f)

  listed_judged : Judges machine_faults PageStates PagesFault (tables_at machine_faults page_at (get_member (codes "map") ms))
  listed_judged = tables_judged machine_faults IsPage PageFault page_at page_judged (codes "map") ms

-- the three numbers of a page that is read
page_number : (key : List ℕ) (f : MappedPage → ℕ)
    → ((ms : Members) (page : MappedPage) → (has_only_keys map_keys ms ≡ true) × (AtKey (codes "logical") ms (λ e. IsWord e page.logical) × AtKey (codes "physical") ms (λ e. IsWord e page.physical) × AtKey (codes "level") ms (λ e. IsWord e page.level)) → AtKey key ms (λ e. IsWord e (f page)))
    → (ms : Members) (pages : List MappedPage) → PageStates ms pages → page_numbers key ms ≡ map f pages
page_number key f part ms pages s =
    numbers_read
    IsPage
    key
    f
    (λ d page h. number_read (2 ^ 32 - 1) (f page) key d (some_weaker _ _ (λ t. part t page) (as_table d) h))
    (entries_at (codes "map") ms)
    pages
    (entries_state IsPage (codes "map") ms pages s)

logical_numbers : (ms : Members) (pages : List MappedPage) → PageStates ms pages
    → page_numbers (codes "logical") ms ≡ map (λ p. p.logical) pages
logical_numbers ms pages s = page_number (codes "logical") (λ p. p.logical) (λ t page h. h.1.0) ms pages s

physical_numbers : (ms : Members) (pages : List MappedPage) → PageStates ms pages
    → page_numbers (codes "physical") ms ≡ map (λ p. p.physical) pages
physical_numbers ms pages s = page_number (codes "physical") (λ p. p.physical) (λ t page h. h.1.1) ms pages s

level_numbers : (ms : Members) (pages : List MappedPage) → PageStates ms pages
    → page_numbers (codes "level") ms ≡ map (λ p. p.level) pages
level_numbers ms pages s = page_number (codes "level") (λ p. p.level) (λ t page h. h.1.2) ms pages s

shuffled : (a b c d e f : Bool) → (((a && b) && c) && ((d && e) && f)) ≡ (((a && d) && (b && e)) && (c && f))
shuffled false b c d e f = refl
shuffled true false c true e f = refl
shuffled true false c false e f = refl
shuffled true true false true true f = refl
shuffled true true false true false f = refl
shuffled true true false false e f = refl
shuffled true true true d e f = refl

-- pages can be mapped where each of their numbers is low enough
mappable_numbers : (shift : ℕ) (pages : List MappedPage)
    → list_all (is_mappable shift) pages ≡ ((are_below (2 ^ (25 - shift)) (map (λ p. p.logical) pages) && are_below 128 (map (λ p. p.physical) pages)) && are_below 4 (map (λ p. p.level) pages))
mappable_numbers shift [] = refl
mappable_numbers shift (p ∷ pages) =
    ap (λ b. is_mappable shift p && b) (mappable_numbers shift pages)
    ∙ shuffled (nat_lt p.logical (2 ^ (25 - shift))) (nat_lt p.physical 128) (nat_lt p.level 4) (are_below (2 ^ (25 - shift)) (map (λ p. p.logical) pages)) (are_below 128 (map (λ p. p.physical) pages)) (are_below 4 (map (λ p. p.level) pages))

-- pages that cannot be mapped, or one of them twice
abbrev PageLate : Members → MachineFileFault → Type 0
PageLate ms f = (IsUnmappable ms × (f ≡ OutOfRange)) ⊎ (IsPageTwice ms × (f ≡ Twice))

module _ (ms : Members) (a : PageSize × List MappedPage) (s : SizeStates ms a.0 × PageStates ms a.1) where
  abbrev low_logical : PageSize → Bool
  low_logical size = are_below (2 ^ (25 - shift_of_size size)) (page_numbers (codes "logical") ms)

  abbrev low_physical : Bool
  low_physical = are_below 128 (page_numbers (codes "physical") ms)

  abbrev low_level : Bool
  low_level = are_below 4 (page_numbers (codes "level") ms)

  in_numbers : list_all (is_mappable (shift_of_size a.0)) a.1 ≡ ((low_logical a.0 && low_physical) && low_level)
  in_numbers =
      rw (logical_numbers ms a.1 s.1, physical_numbers ms a.1 s.1, level_numbers ms a.1 s.1) (mappable_numbers (shift_of_size a.0) a.1)

  too_high : list_all (is_mappable (shift_of_size a.0)) a.1 ≡ false → IsUnmappable ms
  too_high e = elim (and_cases (low_logical a.0 && low_physical) low_level (sym in_numbers ∙ e)) [
    | inl x ↦ elim (and_cases (low_logical a.0) low_physical x) [
      | inl y ↦ inl (a.0, s.0, y)
      | inr y ↦ inr (inl y)
    ]
    | inr x ↦ inr (inr x)
  ]

  unmappable : IsUnmappable ms → ((low_logical a.0 && low_physical) && low_level) ≡ false
  unmappable (inl x) =
      let same : x.0 ≡ a.0 = judged_one machine_faults (SizeStates ms) (SizesFault ms) (size_in ms) (size_in_judged ms) x.0 a.0 x.1 s.0 in
      and_left (low_logical a.0 && low_physical) low_level (and_left (low_logical a.0) low_physical (ap low_logical (sym same) ∙ x.2))
  unmappable (inr (inl x)) =
      and_left (low_logical a.0 && low_physical) low_level (and_right (low_logical a.0) low_physical x)
  unmappable (inr (inr x)) = and_right (low_logical a.0 && low_physical) low_level x

  mappable_iff : list_all (is_mappable (shift_of_size a.0)) a.1 ≡ false ↔ IsUnmappable ms
  mappable_iff = (too_high, λ x. in_numbers ∙ unmappable x)

  abbrev once_logical : Bool
  once_logical = are_distinct (page_numbers (codes "logical") ms)

  abbrev once_physical : Bool
  once_physical = are_distinct (page_numbers (codes "physical") ms)

  single_numbers : are_single a.1 ≡ (once_logical && once_physical)
  single_numbers = rw (logical_numbers ms a.1 s.1, physical_numbers ms a.1 s.1) refl

  twice : IsPageTwice ms → (once_logical && once_physical) ≡ false
  twice (inl x) = and_left once_logical once_physical x
  twice (inr x) = and_right once_logical once_physical x

  single_iff : are_single a.1 ≡ false ↔ IsPageTwice ms
  single_iff =
      (λ e. and_cases once_logical once_physical (sym single_numbers ∙ e), λ x. single_numbers ∙ twice x)

  mapped_judged : Judges machine_faults (λ b. (b ≡ a) × (list_all (is_mappable (shift_of_size a.0)) a.1 ≡ true) × (are_single a.1 ≡ true)) (PageLate ms) (mapped a)
  mapped_judged =
      two_tests
      machine_faults
      a
      (list_all (is_mappable (shift_of_size a.0)) a.1)
      (IsUnmappable ms)
      mappable_iff
      (are_single a.1)
      (IsPageTwice ms)
      single_iff
      OutOfRange
      Twice
      (omega arith)

module _ (ms : Members) where
  abbrev MappedStates : PageSize × List MappedPage → Type 0
  MappedStates p =
      (SizeStates ms p.0 × PageStates ms p.1) × (list_all (is_mappable (shift_of_size p.0)) p.1 ≡ true) × (are_single p.1 ≡ true)

  pages_higher : (x y : MachineFileFault) → SizesFault ms x ⊎ PagesFault ms x → PageLate ms y
      → number_of x ≤ number_of y
  pages_higher x y h late = omega (arith, first h, second late)
    where
      first : SizesFault ms x ⊎ PagesFault ms x → number_of x ≤ 5
      first (inl z) = some_low x _ (size_low x) (get_member (codes "pages") ms) z
      first (inr z) = some_low x _ (list_low x PageFault (page_low x)) (get_member (codes "map") ms) z

      second : PageLate ms y → 5 ≤ number_of y
      second (inl z) = let r : number_of y ≡ 5 = ap number_of z.1 in omega (arith, r)
      second (inr z) = let r : number_of y ≡ 6 = ap number_of z.1 in omega (arith, r)

  abbrev Sized : PageSize × List MappedPage → Type 0
  Sized p = SizeStates ms p.0 × PageStates ms p.1

  abbrev Mapped : PageSize × List MappedPage → PageSize × List MappedPage → Type 0
  Mapped a b = (b ≡ a) × (list_all (is_mappable (shift_of_size a.0)) a.1 ≡ true) × (are_single a.1 ≡ true)

  pages_judged : Judges machine_faults MappedStates (λ f. (SizesFault ms f ⊎ PagesFault ms f) ⊎ PageLate ms f) (pages_in ms)
  pages_judged =
      judged_as
      machine_faults
      (λ b. (c : PageSize × List MappedPage) × Sized c × Mapped c b)
      MappedStates
      (λ f. (SizesFault ms f ⊎ PagesFault ms f) ⊎ PageLate ms f)
      (λ f. (SizesFault ms f ⊎ PagesFault ms f) ⊎ PageLate ms f)
      (λ b. (λ t. subst MappedStates (sym t.2.0) (t.1, t.2.1, t.2.2), λ w. (b, w.0, (refl, w.1, w.2))))
      (λ f. (λ h. h, λ h. h))
      (pages_in ms)
      (and_then_judged machine_faults Sized (λ f. SizesFault ms f ⊎ PagesFault ms f) (PageLate ms) Mapped mapped (λ a s. mapped_judged ms a s) pages_higher _ (joint (size_in_judged ms) (listed_judged ms)))

  -- ## The memory controller

  abbrev Rom : List ℕ → ℕ → Type 0
  Rom key n = AtKeyOr key ms (n ≡ 0) (λ d. IsNumber 3 d n)

  abbrev RomFault : List ℕ → MachineFileFault → Type 0
  RomFault key f = AtKey key ms (λ d. UpToFault 3 d f)

  rom_judged : (key : List ℕ)
      → Judges machine_faults (Rom key) (RomFault key) (Rattle.toml_reading.specs.Documents.number_or machine_faults key 3 0 ms)
  rom_judged key = number_or_judged machine_faults 3 key 0 ms

  abbrev ControllerStates : Controller → Type 0
  ControllerStates c =
      (Rom (codes "low_rom") c.low_rom × Rom (codes "high_rom") c.high_rom) × MappedStates (c.size, c.pages)

  abbrev ControllerFault : MachineFileFault → Type 0
  ControllerFault f =
      (RomFault (codes "low_rom") f ⊎ RomFault (codes "high_rom") f) ⊎ ((SizesFault ms f ⊎ PagesFault ms f) ⊎ PageLate ms f)

  controller_judged : Judges machine_faults ControllerStates ControllerFault (controller_in ms)
  controller_judged =
      map_judged
      machine_faults
      _
      ControllerStates
      ControllerFault
      controller_of
      (λ p s. s)
      (λ c t. (((c.low_rom, c.high_rom), (c.size, c.pages)), t, refl))
      _
      (joint (joint (rom_judged (codes "low_rom")) (rom_judged (codes "high_rom"))) pages_judged)

  -- ## What comes from outside

  abbrev EventStates : List (ℕ × Event) → Type 0
  EventStates events = AtKeyOr (codes "event") ms (events ≡ []) (λ d. IsListOf IsEvent d events)

  abbrev EventsFault : MachineFileFault → Type 0
  EventsFault f = AtKey (codes "event") ms (λ d. ListFault machine_faults EventFault d f)

  abbrev StepFault : MachineFileFault → Type 0
  StepFault f = IsStepTwice ms × (f ≡ Twice)

  abbrev OnceStates : List (ℕ × Event) → Type 0
  OnceStates events = EventStates events × (are_distinct (keys_of events) ≡ true)

  events_judged : Judges machine_faults OnceStates (λ f. EventsFault f ⊎ StepFault f) (events_in ms)
  events_judged =
      once_judged
      IsEvent
      EventFault
      event_at
      event_judged
      event_low
      (codes "step")
      (λ d e h. number_read 65535 e.0 (codes "step") d (some_weaker _ _ (λ t x. x.1.0) (as_table d) h))
      (codes "event")
      ms

  abbrev StepsStates : ℕ → Type 0
  StepsStates n = AtKeyOr (codes "steps") ms (n ≡ 65536) (λ d. IsNumber 65536 d n)

  abbrev StepsFault : MachineFileFault → Type 0
  StepsFault f = AtKey (codes "steps") ms (λ d. UpToFault 65536 d f)

  abbrev PortStates : ℕ → Type 0
  PortStates n = AtKeyOr (codes "port") ms (n ≡ 0) (λ d. IsWord d n)

  abbrev PortFault : MachineFileFault → Type 0
  PortFault f = AtKey (codes "port") ms (λ d. WordFault d f)

  abbrev ScheduleStates : Schedule → Type 0
  ScheduleStates s = (StepsStates s.steps × PortStates s.port) × OnceStates s.events

  abbrev ScheduleFault : MachineFileFault → Type 0
  ScheduleFault f = (StepsFault f ⊎ PortFault f) ⊎ (EventsFault f ⊎ StepFault f)

  schedule_judged : Judges machine_faults ScheduleStates ScheduleFault (schedule_in ms)
  schedule_judged =
      map_judged
      machine_faults
      _
      ScheduleStates
      ScheduleFault
      schedule_of
      (λ p s. s)
      (λ s t. (((s.steps, s.port), s.events), t, refl))
      _
      (joint (joint (number_or_judged machine_faults 65536 (codes "steps") 65536 ms) (number_or_judged machine_faults (2 ^ 32 - 1) (codes "port") 0 ms)) events_judged)

-- ## The file

abbrev FileStates : Members → Stated → Type 0
FileStates ms s =
    ProcessorStates ms s.processor
    × (ControllerStates ms s.controller × (ScheduleStates ms s.schedule × (WordsStates ms s.words × (IocsStates ms s.ioc × VidcsStates ms s.vidc))))

abbrev FileFault : Members → MachineFileFault → Type 0
FileFault ms f =
    ProcessorFault ms f
    ⊎ (ControllerFault ms f ⊎ (ScheduleFault ms f ⊎ ((WordsFault ms f ⊎ WordTwiceFault ms f) ⊎ (IocsFault ms f ⊎ VidcsFault ms f))))

abbrev parts_in : Members → Read (Processor × (Controller × (Schedule × (List (ℕ × ℕ) × (IocSetting × VidcSetting)))))
parts_in ms =
    pair
    machine_faults
    (processor_in ms)
    (pair machine_faults (controller_in ms) (pair machine_faults (schedule_in ms) (pair machine_faults (put_words_in ms) (devices_in ms))))

file_judged : (ms : Members)
    → Judges machine_faults (FileStates ms) (FileFault ms) (reading_map stated_of (parts_in ms))
file_judged ms =
    map_judged
    machine_faults
    _
    (FileStates ms)
    (FileFault ms)
    stated_of
    (λ p s. s)
    (λ s t. ((s.processor, (s.controller, (s.schedule, (s.words, (s.ioc, s.vidc))))), t, refl))
    _
    (joint (processor_judged ms) (joint (controller_judged ms) (joint (schedule_judged ms) (joint (words_judged ms) (joint (ioc_in_judged ms) (vidc_in_judged ms))))))

to_machine : (ms : Members) (s : Stated) → (has_only_keys file_keys ms ≡ true) × FileStates ms s
    → StatesMachine ms s
to_machine ms s h = record {
  known = h.0;
  processor = record { pc = h.1.0.0.0; mode = h.1.0.0.1.0; flags = h.1.0.0.1.1; registers = h.1.0.1 };
  controller = record {
    low_rom = h.1.1.0.0.0;
    high_rom = h.1.1.0.0.1;
    size = h.1.1.0.1.0.0;
    pages = h.1.1.0.1.0.1;
    mappable = h.1.1.0.1.1;
    pages_once = h.1.1.0.1.2;
  };
  schedule =
      record {
        steps = h.1.1.1.0.0.0;
        port = h.1.1.1.0.0.1;
        events = h.1.1.1.0.1.0;
        steps_once = h.1.1.1.0.1.1;
      };
  words = h.1.1.1.1.0.0;
  words_once = h.1.1.1.1.0.1;
  ioc = h.1.1.1.1.1.0;
  vidc = h.1.1.1.1.1.1;
}

from_processor : (ms : Members) (p : Processor) → StatesProcessor ms p → ProcessorStates ms p
from_processor ms p h = ((h.pc, (h.mode, h.flags)), h.registers)

from_controller : (ms : Members) (c : Controller) → StatesController ms c → ControllerStates ms c
from_controller ms c h = ((h.low_rom, h.high_rom), ((h.size, h.pages), h.mappable, h.pages_once))

from_schedule : (ms : Members) (s : Schedule) → StatesSchedule ms s → ScheduleStates ms s
from_schedule ms s h = ((h.steps, h.port), (h.events, h.steps_once))

from_machine : (ms : Members) (s : Stated) → StatesMachine ms s
    → (has_only_keys file_keys ms ≡ true) × FileStates ms s
from_machine ms s m = (
  m.known,
  (from_processor ms s.processor m.processor, (from_controller ms s.controller m.controller, (from_schedule ms s.schedule m.schedule, ((m.words, m.words_once), (m.ioc, m.vidc))))),
)

-- the faults in the order of the readings, and by whether one value alone shows them
to_faults : {K P M F R L H S A T O E D U W V X I Y : Type 0}
    → K ⊎ (((P ⊎ (M ⊎ F)) ⊎ R) ⊎ (((L ⊎ H) ⊎ ((S ⊎ A) ⊎ (U ⊎ W))) ⊎ (((T ⊎ O) ⊎ (E ⊎ V)) ⊎ ((D ⊎ X) ⊎ (I ⊎ Y)))))
    → K ⊎ ((P ⊎ (M ⊎ (F ⊎ (R ⊎ (L ⊎ (H ⊎ (S ⊎ (A ⊎ (T ⊎ (O ⊎ (E ⊎ (D ⊎ (I ⊎ Y))))))))))))) ⊎ (U ⊎ (W ⊎ (V ⊎ X))))
to_faults (inl x) = inl x
to_faults (inr (inl (inl (inl x)))) = inr (inl (inl x))
to_faults (inr (inl (inl (inr (inl x))))) = inr (inl (inr (inl x)))
to_faults (inr (inl (inl (inr (inr x))))) = inr (inl (inr (inr (inl x))))
to_faults (inr (inl (inr x))) = inr (inl (inr (inr (inr (inl x)))))
to_faults (inr (inr (inl (inl (inl x))))) = inr (inl (inr (inr (inr (inr (inl x))))))
to_faults (inr (inr (inl (inl (inr x))))) = inr (inl (inr (inr (inr (inr (inr (inl x)))))))
to_faults (inr (inr (inl (inr (inl (inl x)))))) = inr (inl (inr (inr (inr (inr (inr (inr (inl x))))))))
to_faults (inr (inr (inl (inr (inl (inr x)))))) =
    inr (inl (inr (inr (inr (inr (inr (inr (inr (inl x)))))))))
to_faults (inr (inr (inl (inr (inr (inl x)))))) = inr (inr (inl x))
to_faults (inr (inr (inl (inr (inr (inr x)))))) = inr (inr (inr (inl x)))
to_faults (inr (inr (inr (inl (inl (inl x)))))) =
    inr (inl (inr (inr (inr (inr (inr (inr (inr (inr (inl x))))))))))
to_faults (inr (inr (inr (inl (inl (inr x)))))) =
    inr (inl (inr (inr (inr (inr (inr (inr (inr (inr (inr (inl x)))))))))))
to_faults (inr (inr (inr (inl (inr (inl x)))))) =
    inr (inl (inr (inr (inr (inr (inr (inr (inr (inr (inr (inr (inl x))))))))))))
to_faults (inr (inr (inr (inl (inr (inr x)))))) = inr (inr (inr (inr (inl x))))
to_faults (inr (inr (inr (inr (inl (inl x)))))) =
    inr (inl (inr (inr (inr (inr (inr (inr (inr (inr (inr (inr (inr (inl x)))))))))))))
to_faults (inr (inr (inr (inr (inl (inr x)))))) = inr (inr (inr (inr (inr x))))
to_faults (inr (inr (inr (inr (inr (inl x)))))) =
    inr (inl (inr (inr (inr (inr (inr (inr (inr (inr (inr (inr (inr (inr (inl x))))))))))))))
to_faults (inr (inr (inr (inr (inr (inr x)))))) =
    inr (inl (inr (inr (inr (inr (inr (inr (inr (inr (inr (inr (inr (inr (inr x))))))))))))))

from_faults : {K P M F R L H S A T O E D U W V X I Y : Type 0}
    → K ⊎ ((P ⊎ (M ⊎ (F ⊎ (R ⊎ (L ⊎ (H ⊎ (S ⊎ (A ⊎ (T ⊎ (O ⊎ (E ⊎ (D ⊎ (I ⊎ Y))))))))))))) ⊎ (U ⊎ (W ⊎ (V ⊎ X))))
    → K ⊎ (((P ⊎ (M ⊎ F)) ⊎ R) ⊎ (((L ⊎ H) ⊎ ((S ⊎ A) ⊎ (U ⊎ W))) ⊎ (((T ⊎ O) ⊎ (E ⊎ V)) ⊎ ((D ⊎ X) ⊎ (I ⊎ Y)))))
from_faults (inl x) = inl x
from_faults (inr (inl (inl x))) = inr (inl (inl (inl x)))
from_faults (inr (inl (inr (inl x)))) = inr (inl (inl (inr (inl x))))
from_faults (inr (inl (inr (inr (inl x))))) = inr (inl (inl (inr (inr x))))
from_faults (inr (inl (inr (inr (inr (inl x)))))) = inr (inl (inr x))
from_faults (inr (inl (inr (inr (inr (inr (inl x))))))) = inr (inr (inl (inl (inl x))))
from_faults (inr (inl (inr (inr (inr (inr (inr (inl x)))))))) = inr (inr (inl (inl (inr x))))
from_faults (inr (inl (inr (inr (inr (inr (inr (inr (inl x))))))))) = inr (inr (inl (inr (inl (inl x)))))
from_faults (inr (inl (inr (inr (inr (inr (inr (inr (inr (inl x)))))))))) =
    inr (inr (inl (inr (inl (inr x)))))
from_faults (inr (inl (inr (inr (inr (inr (inr (inr (inr (inr (inl x))))))))))) =
    inr (inr (inr (inl (inl (inl x)))))
from_faults (inr (inl (inr (inr (inr (inr (inr (inr (inr (inr (inr (inl x)))))))))))) =
    inr (inr (inr (inl (inl (inr x)))))
from_faults (inr (inl (inr (inr (inr (inr (inr (inr (inr (inr (inr (inr (inl x))))))))))))) =
    inr (inr (inr (inl (inr (inl x)))))
from_faults (inr (inl (inr (inr (inr (inr (inr (inr (inr (inr (inr (inr (inr (inl x)))))))))))))) =
    inr (inr (inr (inr (inl (inl x)))))
from_faults (inr (inl (inr (inr (inr (inr (inr (inr (inr (inr (inr (inr (inr (inr (inl x))))))))))))))) =
    inr (inr (inr (inr (inr (inl x)))))
from_faults (inr (inl (inr (inr (inr (inr (inr (inr (inr (inr (inr (inr (inr (inr (inr x))))))))))))))) =
    inr (inr (inr (inr (inr (inr x)))))
from_faults (inr (inr (inl x))) = inr (inr (inl (inr (inr (inl x)))))
from_faults (inr (inr (inr (inl x)))) = inr (inr (inl (inr (inr (inr x)))))
from_faults (inr (inr (inr (inr (inl x))))) = inr (inr (inr (inl (inr (inr x)))))
from_faults (inr (inr (inr (inr (inr x))))) = inr (inr (inr (inr (inl (inr x)))))

pub machine_judged : (ms : Members)
    → Judges machine_faults (StatesMachine ms) (HasKeyFault ms) (machine_in ms)
machine_judged ms =
    judged_as
    machine_faults
    (λ s. (has_only_keys file_keys ms ≡ true) × FileStates ms s)
    (StatesMachine ms)
    (KeysFault machine_faults file_keys FileFault ms)
    (HasKeyFault ms)
    (λ s. (to_machine ms s, from_machine ms s))
    (λ f. (λ h. to_faults h, λ h. from_faults h))
    (machine_in ms)
    (keys_judged machine_faults file_keys FileStates FileFault (λ t. reading_map stated_of (parts_in t)) file_judged ms)
