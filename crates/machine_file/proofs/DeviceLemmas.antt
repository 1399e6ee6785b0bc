-- What is read of IOC and VIDC, against what they state and their faults.
use Rattle.std.proofs.Common.{◌≡◌, ℕ, ℤ, pos, ◌-◌, ◌^◌, ◌⊎◌, List, codes, Option, Some, None, IsSomeAnd, inl, inr, refl}
use Rattle.std.specs.Prelude.{IsTrue}
use Rattle.toml.specs.Data.{Data, Members, as_integer, get_member}
use Rattle.toml_reading.specs.Lowest.{AtKey, AtKeyOr, IsNumber}
use Rattle.toml_reading.specs.Readings.{pair, reading_map}
use Rattle.toml_reading.proofs.AddressLemmas.{tested_judged}
use Rattle.toml_reading.proofs.LowestLemmas.{Judges, joint, judged_as, map_judged, optional_judged, required_judged}
use Rattle.toml_reading.proofs.LowestParts.{number_judged, number_or_judged, table_judged}
use Rattle.machine_file.specs.MachineFaults.{machine_faults}
use Rattle.machine_file.specs.MachineFaultRules.{AreNoRequests}
use Rattle.machine_file.specs.MachineFile.{are_latched, bytes_in, cycles_in, display_in, ioc_at, ioc_in, ioc_with, requests_at, requests_in, requests_of, timer_in, timer_of, timers_in, vidc_at, vidc_in, vidc_with}
use Rattle.machine_file.specs.MachineRules.{AreRequests, IsIoc, IsVidc, StatesTimer}
use Rattle.machine_file.specs.Names.{ioc_keys, vidc_keys}
use Rattle.machine_file.specs.Stated.{IocSetting, VidcSetting, no_ioc, no_vidc}
use Rattle.machine_file.specs.Words.{HasNumber, MayHaveNumber, number_if, some_number_at}
use Rattle.machine_file.specs.declared.machine_faults.MachineFileFault.{MachineFileFault}
use Rattle.machine_file.specs.declared.machine_faults.MachineFileFault.TheVariants.{OutOfRange}
use Rattle.machine_file.proofs.KeyFaults.{IocFault, IocFaults, RequestsFault, UpToAt, UpToFault, VidcFault, VidcFaults}

-- ## Requests

abbrev Requests : ℤ → ℕ → Type 0
Requests z n = (z ≡ pos n) × IsTrue (are_latched n)

abbrev NoRequests : ℤ → MachineFileFault → Type 0
NoRequests z f = AreNoRequests z × (f ≡ OutOfRange)

pub requests_answers : (z : ℤ) → Judges machine_faults (Requests z) (NoRequests z) (requests_of z)
requests_answers =
    tested_judged
    machine_faults
    (λ n. IsTrue (are_latched n))
    are_latched
    (λ n. (λ e. e, λ e. e))
    requests_of
    (λ n. refl)
    (λ n. refl)

requests_judged : (d : Data) → Judges machine_faults (AreRequests d) (RequestsFault d) (requests_at d)
requests_judged d = required_judged machine_faults Requests NoRequests requests_of requests_answers (as_integer d)

-- ## Numbers that may be missing

module _ (limit : ℕ) where
  number_of : (d : Data) (o : Option ℕ) → IsSomeAnd o (IsNumber limit d) → (n : ℕ) × IsNumber limit d n × (o ≡ Some n)
  number_of d None t = absurd t
  number_of d (Some n) t = (n, t, refl)

  some_number_judged : (d : Data)
      → Judges machine_faults (λ o. IsSomeAnd o (IsNumber limit d)) (UpToFault limit d) (some_number_at machine_faults limit d)
  some_number_judged d =
      map_judged
      machine_faults
      (IsNumber limit d)
      (λ o. IsSomeAnd o (IsNumber limit d))
      (UpToFault limit d)
      (λ n. Some n)
      (λ n s. s)
      (number_of d)
      _
      (number_judged machine_faults limit d)

  number_if_judged : (key : List ℕ) (ms : Members)
      → Judges machine_faults (MayHaveNumber key limit ms) (UpToAt key limit ms) (number_if machine_faults key limit ms)
  number_if_judged key ms =
      optional_judged
      machine_faults
      (λ d o. IsSomeAnd o (IsNumber limit d))
      (UpToFault limit)
      (some_number_at machine_faults limit)
      some_number_judged
      None
      (get_member key ms)

  number_or_zero_judged : (key : List ℕ) (ms : Members)
      → Judges machine_faults (HasNumber key limit ms) (UpToAt key limit ms) (Rattle.toml_reading.specs.Documents.number_or machine_faults key limit 0 ms)
  number_or_zero_judged key ms = number_or_judged machine_faults limit key 0 ms

-- ## IOC

module _ (ms : Members) where
  abbrev RequestsStates : ℕ → Type 0
  RequestsStates n = AtKeyOr (codes "requests_a") ms (n ≡ 0) (λ e. AreRequests e n)

  abbrev RequestsAt : MachineFileFault → Type 0
  RequestsAt f = AtKey (codes "requests_a") ms (λ e. RequestsFault e f)

  requests_in_judged : Judges machine_faults RequestsStates RequestsAt (requests_in ms)
  requests_in_judged =
      optional_judged machine_faults AreRequests RequestsFault requests_at requests_judged 0 (get_member (codes "requests_a") ms)

  timer_judged : (latch count : List ℕ)
      → Judges machine_faults (StatesTimer latch count ms) (λ f. UpToAt latch 0xFFFF ms f ⊎ UpToAt count 0xFFFF ms f) (timer_in latch count ms)
  timer_judged latch count =
      map_judged
      machine_faults
      _
      (StatesTimer latch count ms)
      (λ f. UpToAt latch 0xFFFF ms f ⊎ UpToAt count 0xFFFF ms f)
      timer_of
      (λ p s. s)
      (λ t s. ((t.latch, t.count), s, refl))
      _
      (joint (number_or_zero_judged 0xFFFF latch ms) (number_if_judged 0xFFFF count ms))

  abbrev IocStates : IocSetting → Type 0
  IocStates s =
      HasNumber (codes "mask_a") 0xFF ms s.mask_a
      × HasNumber (codes "mask_b") 0xFF ms s.mask_b
      × HasNumber (codes "mask_fiq") 0xFF ms s.mask_fiq
      × RequestsStates s.requests_a
      × StatesTimer (codes "timer_0") (codes "count_0") ms s.timer_0
      × StatesTimer (codes "timer_1") (codes "count_1") ms s.timer_1

  abbrev IocGroups : MachineFileFault → Type 0
  IocGroups f =
      ((UpToAt (codes "mask_a") 0xFF ms f ⊎ UpToAt (codes "mask_b") 0xFF ms f) ⊎ (UpToAt (codes "mask_fiq") 0xFF ms f ⊎ RequestsAt f))
      ⊎ ((UpToAt (codes "timer_0") 0xFFFF ms f ⊎ UpToAt (codes "count_0") 0xFFFF ms f) ⊎ (UpToAt (codes "timer_1") 0xFFFF ms f ⊎ UpToAt (codes "count_1") 0xFFFF ms f))

  ioc_grouped : Judges machine_faults IocStates IocGroups (reading_map ioc_with (pair machine_faults (bytes_in ms) (timers_in ms)))
  ioc_grouped =
      map_judged
      machine_faults
      _
      IocStates
      IocGroups
      ioc_with
      (λ p s. (s.0.0.0, s.0.0.1, s.0.1.0, s.0.1.1, s.1.0, s.1.1))
      (λ s t. ((((s.mask_a, s.mask_b), (s.mask_fiq, s.requests_a)), (s.timer_0, s.timer_1)), (((t.0, t.1), (t.2, t.3)), (t.4, t.5)), refl))
      _
      (joint
      (joint
      (joint (number_or_zero_judged 0xFF (codes "mask_a") ms) (number_or_zero_judged 0xFF (codes "mask_b") ms))
      (joint (number_or_zero_judged 0xFF (codes "mask_fiq") ms) requests_in_judged))
      (joint (timer_judged (codes "timer_0") (codes "count_0")) (timer_judged (codes "timer_1") (codes "count_1"))))

eight_in_line : {A B C D E F G H : Type 0}
    → ((A ⊎ B) ⊎ (C ⊎ D)) ⊎ ((E ⊎ F) ⊎ (G ⊎ H)) → A ⊎ (B ⊎ (C ⊎ (D ⊎ (E ⊎ (F ⊎ (G ⊎ H))))))
eight_in_line (inl (inl (inl x))) = inl x
eight_in_line (inl (inl (inr x))) = inr (inl x)
eight_in_line (inl (inr (inl x))) = inr (inr (inl x))
eight_in_line (inl (inr (inr x))) = inr (inr (inr (inl x)))
eight_in_line (inr (inl (inl x))) = inr (inr (inr (inr (inl x))))
eight_in_line (inr (inl (inr x))) = inr (inr (inr (inr (inr (inl x)))))
eight_in_line (inr (inr (inl x))) = inr (inr (inr (inr (inr (inr (inl x))))))
eight_in_line (inr (inr (inr x))) = inr (inr (inr (inr (inr (inr (inr x))))))

eight_in_groups : {A B C D E F G H : Type 0}
    → A ⊎ (B ⊎ (C ⊎ (D ⊎ (E ⊎ (F ⊎ (G ⊎ H)))))) → ((A ⊎ B) ⊎ (C ⊎ D)) ⊎ ((E ⊎ F) ⊎ (G ⊎ H))
eight_in_groups (inl x) = inl (inl (inl x))
eight_in_groups (inr (inl x)) = inl (inl (inr x))
eight_in_groups (inr (inr (inl x))) = inl (inr (inl x))
eight_in_groups (inr (inr (inr (inl x)))) = inl (inr (inr x))
eight_in_groups (inr (inr (inr (inr (inl x))))) = inr (inl (inl x))
eight_in_groups (inr (inr (inr (inr (inr (inl x)))))) = inr (inl (inr x))
eight_in_groups (inr (inr (inr (inr (inr (inr (inl x))))))) = inr (inr (inl x))
eight_in_groups (inr (inr (inr (inr (inr (inr (inr x))))))) = inr (inr (inr x))

ioc_answers : (ms : Members)
    → Judges machine_faults (IocStates ms) (IocFaults ms) (reading_map ioc_with (pair machine_faults (bytes_in ms) (timers_in ms)))
ioc_answers ms =
    judged_as
    machine_faults
    (IocStates ms)
    (IocStates ms)
    (IocGroups ms)
    (IocFaults ms)
    (λ s. (λ h. h, λ h. h))
    (λ f. (λ h. eight_in_line h, λ h. eight_in_groups h))
    _
    (ioc_grouped ms)

ioc_judged : (d : Data) → Judges machine_faults (IsIoc d) (IocFault d) (ioc_at d)
ioc_judged d =
    table_judged
    machine_faults
    ioc_keys
    IocStates
    IocFaults
    (λ ms. reading_map ioc_with (pair machine_faults (bytes_in ms) (timers_in ms)))
    ioc_answers
    d

module _ (ms : Members) where
  abbrev pub IocsStates : IocSetting → Type 0
  IocsStates s = AtKeyOr (codes "ioc") ms (s ≡ no_ioc) (λ d. IsIoc d s)

  abbrev pub IocsFault : MachineFileFault → Type 0
  IocsFault f = AtKey (codes "ioc") ms (λ d. IocFault d f)

  pub ioc_in_judged : Judges machine_faults IocsStates IocsFault (ioc_in ms)
  ioc_in_judged = optional_judged machine_faults IsIoc IocFault ioc_at ioc_judged no_ioc (get_member (codes "ioc") ms)

-- ## VIDC

module _ (ms : Members) where
  abbrev VidcStates : VidcSetting → Type 0
  VidcStates s =
      MayHaveNumber (codes "horizontal_cycle") 0x3FF ms s.horizontal_cycle
      × MayHaveNumber (codes "vertical_cycle") 0x3FF ms s.vertical_cycle
      × HasNumber (codes "display_end") 0x3FF ms s.display_end
      × HasNumber (codes "pixel_rate") 3 ms s.pixel_rate
      × HasNumber (codes "ticks") (2 ^ 32 - 1) ms s.ticks

  abbrev VidcGroups : MachineFileFault → Type 0
  VidcGroups f =
      (UpToAt (codes "horizontal_cycle") 0x3FF ms f ⊎ UpToAt (codes "vertical_cycle") 0x3FF ms f)
      ⊎ ((UpToAt (codes "display_end") 0x3FF ms f ⊎ UpToAt (codes "pixel_rate") 3 ms f) ⊎ UpToAt (codes "ticks") (2 ^ 32 - 1) ms f)

  vidc_grouped : Judges machine_faults VidcStates VidcGroups (reading_map vidc_with (pair machine_faults (cycles_in ms) (display_in ms)))
  vidc_grouped =
      map_judged
      machine_faults
      _
      VidcStates
      VidcGroups
      vidc_with
      (λ p s. (s.0.0, s.0.1, s.1.0.0, s.1.0.1, s.1.1))
      (λ s t. (((s.horizontal_cycle, s.vertical_cycle), ((s.display_end, s.pixel_rate), s.ticks)), ((t.0, t.1), ((t.2, t.3), t.4)), refl))
      _
      (joint
      (joint (number_if_judged 0x3FF (codes "horizontal_cycle") ms) (number_if_judged 0x3FF (codes "vertical_cycle") ms))
      (joint
      (joint (number_or_zero_judged 0x3FF (codes "display_end") ms) (number_or_zero_judged 3 (codes "pixel_rate") ms))
      (number_or_zero_judged (2 ^ 32 - 1) (codes "ticks") ms)))

five_in_line : {A B C D E : Type 0} → (A ⊎ B) ⊎ ((C ⊎ D) ⊎ E) → A ⊎ (B ⊎ (C ⊎ (D ⊎ E)))
five_in_line (inl (inl x)) = inl x
five_in_line (inl (inr x)) = inr (inl x)
five_in_line (inr (inl (inl x))) = inr (inr (inl x))
five_in_line (inr (inl (inr x))) = inr (inr (inr (inl x)))
five_in_line (inr (inr x)) = inr (inr (inr (inr x)))

five_in_groups : {A B C D E : Type 0} → A ⊎ (B ⊎ (C ⊎ (D ⊎ E))) → (A ⊎ B) ⊎ ((C ⊎ D) ⊎ E)
five_in_groups (inl x) = inl (inl x)
five_in_groups (inr (inl x)) = inl (inr x)
five_in_groups (inr (inr (inl x))) = inr (inl (inl x))
five_in_groups (inr (inr (inr (inl x)))) = inr (inl (inr x))
five_in_groups (inr (inr (inr (inr x)))) = inr (inr x)

vidc_answers : (ms : Members)
    → Judges machine_faults (VidcStates ms) (VidcFaults ms) (reading_map vidc_with (pair machine_faults (cycles_in ms) (display_in ms)))
vidc_answers ms =
    judged_as
    machine_faults
    (VidcStates ms)
    (VidcStates ms)
    (VidcGroups ms)
    (VidcFaults ms)
    (λ s. (λ h. h, λ h. h))
    (λ f. (λ h. five_in_line h, λ h. five_in_groups h))
    _
    (vidc_grouped ms)

vidc_judged : (d : Data) → Judges machine_faults (IsVidc d) (VidcFault d) (vidc_at d)
vidc_judged d =
    table_judged
    machine_faults
    vidc_keys
    VidcStates
    VidcFaults
    (λ ms. reading_map vidc_with (pair machine_faults (cycles_in ms) (display_in ms)))
    vidc_answers
    d

module _ (ms : Members) where
  abbrev pub VidcsStates : VidcSetting → Type 0
  VidcsStates s = AtKeyOr (codes "vidc") ms (s ≡ no_vidc) (λ d. IsVidc d s)

  abbrev pub VidcsFault : MachineFileFault → Type 0
  VidcsFault f = AtKey (codes "vidc") ms (λ d. VidcFault d f)

  pub vidc_in_judged : Judges machine_faults VidcsStates VidcsFault (vidc_in ms)
  vidc_in_judged =
      optional_judged machine_faults IsVidc VidcFault vidc_at vidc_judged no_vidc (get_member (codes "vidc") ms)
