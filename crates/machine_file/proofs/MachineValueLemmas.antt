-- What is read of the values of a machine file, against what they state and their faults.
use Rattle.std.proofs.Common.{◌≡◌, ℕ, ℤ, pos, negsuc, ◌-◌, ◌^◌, ◌≤◌, ◌⊎◌, ◌↔◌, Bool, true, false, cond, eqb, get_or, List, [], ◌∷◌, map, codes, Any, Option, Some, None, Ok, Err, IsSomeAnd, MatchOption, inl, inr, refl, sym, ap, ◌∙◌, arith, le_of_eq, IsTrue}
use Rattle.std.specs.List.{AllZip, list_all}
use Rattle.std.proofs.lemmas.Bool.{eq-eqb, eqb-true, false≢true}
use Rattle.toml.specs.Data.{Data, Members, as_integer, as_str, as_table, get_member}
use Rattle.ioc.specs.declared.lines.Lines.{Lines}
use Rattle.memc.specs.declared.spots.PageSize.{PageSize}
use Rattle.memc.specs.declared.spots.PageSize.TheVariants.{K4, K8, K16, K32}
use Rattle.bus_ticks.specs.Prices.{is_word_address}
use Rattle.toml_reading.specs.Lowest.{AtKey, AtKeyOr, IsListOf, IsNamed, IsNoAddress, IsNumber, KeysFault, ListFault, NameFault, TableFault}
use Rattle.toml_reading.specs.Documents.{in_space, items_at, number_in, number_or}
use Rattle.toml_reading.specs.Readings.{all, pair, reading_map}
use Rattle.toml_reading.proofs.AddressLemmas.{integer_judged}
use Rattle.toml_reading.proofs.LowestLemmas.{AnswersBy, Judges, joint, judged_as, one_by_rank, optional_judged, required_judged, map_judged, two_tests}
use Rattle.toml_reading.proofs.LowestParts.{all_judged, list_judged, named_judged, not_whole, number_in_judged, number_judged, number_or_judged, table_judged, whole_same}
use Rattle.machine_file.specs.MachineFaults.{machine_faults, number_of}
use Rattle.machine_file.specs.MachineFile.{Read, event_at, event_of, flags_at, is_letter, is_single, flags_of_letters, line_at, lines_at, lines_in, page_at, page_of, pc_at, port_at, port_in, register_in, registers_at, set_flags, size_at, size_of, union}
use Rattle.ioc.specs.LineNames.{line_named}
use Rattle.machine_file.specs.MachineRules.{AreFlags, AreLines, AreRegisters, IsAddress, IsEvent, IsPage, IsSize, kilobytes}
use Rattle.machine_file.specs.Words.{IsWord, word_in}
use Rattle.machine_file.specs.Names.{event_keys, map_keys, name_of, named_registers, register_keys}
use Rattle.machine_file.specs.declared.events.Event.{Event}
use Rattle.machine_file.specs.declared.machine_faults.MachineFileFault.{MachineFileFault}
use Rattle.machine_file.specs.declared.machine_faults.MachineFileFault.TheVariants.{Memory, NotToml, UnknownKey, WrongKind, OutOfRange, Twice}
use Rattle.machine_file.specs.declared.pages.MappedPage.{MappedPage}
use Rattle.machine_file.proofs.KeyFaults.{AddressFault, EventFault, EventFaults, FlagsFault, LinesFault, NeedsWord, PageFault, PageFaults, RegistersFault, SizeFault, UpToFault, WordFault}

-- ## The ranks of faults

abbrev fault_at : ℕ → MachineFileFault
fault_at n = get_or (Memory ∷ Memory ∷ NotToml ∷ UnknownKey ∷ WrongKind ∷ OutOfRange ∷ Twice ∷ []) n Memory

at_rank : (f : MachineFileFault) → fault_at (number_of f) ≡ f
at_rank Memory = refl
at_rank _ = refl

pub one_rank : (f g : MachineFileFault) → number_of f ≡ number_of g → f ≡ g
one_rank = one_by_rank machine_faults fault_at at_rank

pub is_fault : (f g : MachineFileFault) → f ≡ g → number_of g ≤ number_of f
is_fault f g e = le_of_eq (ap number_of (sym e))

-- ## Addresses

pub address_judged : (d : Data) → Judges machine_faults (IsAddress d) (AddressFault d) (pc_at d)
address_judged d =
    required_judged
    machine_faults
    (λ z n. (z ≡ pos n) × IsTrue (is_word_address n))
    (λ z f. IsNoAddress z × (f ≡ OutOfRange))
    (in_space machine_faults)
    (integer_judged machine_faults)
    (as_integer d)

-- ## Page sizes

size_numbered : ℕ → PageSize
size_numbered n = cond (eqb n 4) K4 (cond (eqb n 8) K8 (cond (eqb n 16) K16 K32))

size_back : (s : PageSize) → size_numbered (kilobytes s) ≡ s
unfolding size_numbered
size_back K4 = refl
size_back _ = refl

abbrev OtherSize : ℤ → MachineFileFault → Type 0
OtherSize z f = ((s : PageSize) → z ≡ pos (kilobytes s) → ⊥) × (f ≡ OutOfRange)

module _ (n : ℕ) where
  sized : (s : PageSize) → n ≡ kilobytes s
      → AnswersBy machine_faults (λ t. pos n ≡ pos (kilobytes t)) (OtherSize (pos n)) (Ok s)
  sized s e = (
    record {
      stated = ap pos e;
      only =
          λ t is. sym (size_back t) ∙ ap size_numbered (sym (whole_same n (kilobytes t) is) ∙ e) ∙ size_back s;
    },
    λ f x. x.0 s (ap pos e),
  )

  other_size : eqb n 4 ≡ false → eqb n 8 ≡ false → eqb n 16 ≡ false → eqb n 32 ≡ false → (s : PageSize)
      → n ≡ kilobytes s → ⊥
  other_size a b c d K4 e = false≢true (sym a ∙ eq-eqb n 4 e)
  other_size a b c d K8 e = false≢true (sym b ∙ eq-eqb n 8 e)
  other_size a b c d K16 e = false≢true (sym c ∙ eq-eqb n 16 e)
  other_size a b c d K32 e = false≢true (sym d ∙ eq-eqb n 32 e)

  size_tested : (a b c d : Bool) → eqb n 4 ≡ a → eqb n 8 ≡ b → eqb n 16 ≡ c → eqb n 32 ≡ d
      → AnswersBy machine_faults (λ t. pos n ≡ pos (kilobytes t)) (OtherSize (pos n)) (cond a (Ok K4) (cond b (Ok K8) (cond c (Ok K16) (cond d (Ok K32) (Err OutOfRange)))))
  size_tested true b c d ea eb ec ed = sized K4 (eqb-true n 4 ea)
  size_tested false true c d ea eb ec ed = sized K8 (eqb-true n 8 eb)
  size_tested false false true d ea eb ec ed = sized K16 (eqb-true n 16 ec)
  size_tested false false false true ea eb ec ed = sized K32 (eqb-true n 32 ed)
  size_tested false false false false ea eb ec ed =
      let none : (s : PageSize) → pos n ≡ pos (kilobytes s) → ⊥ = λ s e. other_size ea eb ec ed s (whole_same n (kilobytes s) e) in
      (none, record { has = (none, refl); least = λ f x. is_fault f OutOfRange x.1 })

pub size_answers : (z : ℤ) → AnswersBy machine_faults (λ s. z ≡ pos (kilobytes s)) (OtherSize z) (size_of z)
size_answers (pos n) = size_tested n (eqb n 4) (eqb n 8) (eqb n 16) (eqb n 32) refl refl refl refl
size_answers (negsuc n) = (
  λ s e. not_whole n (kilobytes s) e,
  record { has = (λ s e. not_whole n (kilobytes s) e, refl); least = λ f x. is_fault f OutOfRange x.1 },
)

pub size_judged : (d : Data) → Judges machine_faults (IsSize d) (SizeFault d) (size_at d)
size_judged d =
    required_judged
    machine_faults
    (λ z s. z ≡ pos (kilobytes s))
    OtherSize
    size_of
    (λ z. record { answers = size_answers z })
    (as_integer d)

-- ## Letters

pub same_test : (b : Bool) → b ≡ false ↔ (b ≡ false)
same_test b = (λ e. e, λ e. e)

letters_judged : (text : List ℕ)
    → Judges machine_faults (λ flags. (flags ≡ set_flags text) × (list_all is_letter text ≡ true) × (is_single text ≡ true)) (λ f. ((list_all is_letter text ≡ false) × (f ≡ WrongKind)) ⊎ ((is_single text ≡ false) × (f ≡ Twice))) (flags_of_letters text)
letters_judged text =
    two_tests
    machine_faults
    (set_flags text)
    (list_all is_letter text)
    (list_all is_letter text ≡ false)
    (same_test (list_all is_letter text))
    (is_single text)
    (is_single text ≡ false)
    (same_test (is_single text))
    WrongKind
    Twice
    (omega arith)

pub flags_judged : (d : Data) → Judges machine_faults (AreFlags d) (FlagsFault d) (flags_at d)
flags_judged d =
    required_judged
    machine_faults
    (λ text flags. (flags ≡ set_flags text) × (list_all is_letter text ≡ true) × (is_single text ≡ true))
    (λ text f. ((list_all is_letter text ≡ false) × (f ≡ WrongKind)) ⊎ ((is_single text ≡ false) × (f ≡ Twice)))
    flags_of_letters
    letters_judged
    (as_str d)

-- ## Lines and ports of events

lines_of : (d : Data) (o : Option Lines) → IsSomeAnd o (AreLines d)
    → (ls : List Lines) × IsListOf (IsNamed line_named) d ls × (o ≡ Some (union ls))
lines_of d None t = absurd t
lines_of d (Some l) t = (t.0, t.1, ap (λ (x : Lines). Some x) t.2)

lines_judged : (d : Data) → Judges machine_faults (λ o. IsSomeAnd o (AreLines d)) (LinesFault d) (lines_at d)
lines_judged d =
    map_judged
    machine_faults
    (IsListOf (IsNamed line_named) d)
    (λ o. IsSomeAnd o (AreLines d))
    (LinesFault d)
    (λ ls. Some (union ls))
    (λ ls s. (ls, s, refl))
    (lines_of d)
    _
    (list_judged machine_faults (IsNamed line_named) (NameFault machine_faults line_named) line_at (named_judged machine_faults line_named) d)

port_of : (d : Data) (o : Option ℕ) → IsSomeAnd o (IsWord d) → (n : ℕ) × IsWord d n × (o ≡ Some n)
port_of d None t = absurd t
port_of d (Some n) t = (n, t, refl)

port_judged : (d : Data) → Judges machine_faults (λ o. IsSomeAnd o (IsWord d)) (WordFault d) (port_at d)
port_judged d =
    map_judged
    machine_faults
    (IsWord d)
    (λ o. IsSomeAnd o (IsWord d))
    (WordFault d)
    (λ n. Some n)
    (λ n s. s)
    (port_of d)
    _
    (number_judged machine_faults (2 ^ 32 - 1) d)

-- ## Tables

registers_answers : (ms : Members)
    → Judges machine_faults (λ ws. AllZip (λ r n. AtKeyOr (name_of r) ms (n ≡ 0) (λ e. IsWord e n)) named_registers ws) (λ f. Any (λ r. AtKey (name_of r) ms (λ e. WordFault e f)) named_registers) (all machine_faults (map (register_in ms) named_registers))
registers_answers ms =
    all_judged
    machine_faults
    (λ r n. AtKeyOr (name_of r) ms (n ≡ 0) (λ e. IsWord e n))
    (λ r f. AtKey (name_of r) ms (λ e. WordFault e f))
    (register_in ms)
    (λ r. number_or_judged machine_faults (2 ^ 32 - 1) (name_of r) 0 ms)
    named_registers

pub registers_judged : (d : Data) → Judges machine_faults (AreRegisters d) (RegistersFault d) (registers_at d)
registers_judged d =
    table_judged
    machine_faults
    register_keys
    (λ ms ws. AllZip (λ r n. AtKeyOr (name_of r) ms (n ≡ 0) (λ e. IsWord e n)) named_registers ws)
    (λ ms f. Any (λ r. AtKey (name_of r) ms (λ e. WordFault e f)) named_registers)
    (λ ms. all machine_faults (map (register_in ms) named_registers))
    registers_answers
    d

module _ (ms : Members) where
  abbrev pub Word : List ℕ → ℕ → Type 0
  Word key n = AtKey key ms (λ e. IsWord e n)

  pub word : (key : List ℕ) → Judges machine_faults (Word key) (NeedsWord ms key) (word_in machine_faults key ms)
  word key = number_in_judged machine_faults (2 ^ 32 - 1) key ms

abbrev PageStates : Members → MappedPage → Type 0
PageStates ms page =
    Word ms (codes "logical") page.logical × Word ms (codes "physical") page.physical × Word ms (codes "level") page.level

three_to : {A B C : Type 0} → (A ⊎ B) ⊎ C → A ⊎ (B ⊎ C)
three_to (inl (inl x)) = inl x
three_to (inl (inr x)) = inr (inl x)
three_to (inr x) = inr (inr x)

three_back : {A B C : Type 0} → A ⊎ (B ⊎ C) → (A ⊎ B) ⊎ C
three_back (inl x) = inl (inl x)
three_back (inr (inl x)) = inl (inr x)
three_back (inr (inr x)) = inr x

abbrev numbers_of_page : Members → Read ((ℕ × ℕ) × ℕ)
numbers_of_page ms =
    pair
    machine_faults
    (pair machine_faults (word_in machine_faults (codes "logical") ms) (word_in machine_faults (codes "physical") ms))
    (word_in machine_faults (codes "level") ms)

page_numbers_judged : (ms : Members)
    → Judges machine_faults (λ (p : (ℕ × ℕ) × ℕ). PageStates ms (page_of p)) (PageFaults ms) (numbers_of_page ms)
page_numbers_judged ms =
    judged_as
    machine_faults
    _
    (λ (p : (ℕ × ℕ) × ℕ). PageStates ms (page_of p))
    _
    (PageFaults ms)
    (λ p. (λ s. (s.0.0, s.0.1, s.1), λ t. ((t.0, t.1), t.2)))
    (λ f. (λ h. three_to h, λ h. three_back h))
    (numbers_of_page ms)
    (joint (joint (word ms (codes "logical")) (word ms (codes "physical"))) (word ms (codes "level")))

page_answers : (ms : Members)
    → Judges machine_faults (PageStates ms) (PageFaults ms) (reading_map page_of (numbers_of_page ms))
page_answers ms =
    map_judged
    machine_faults
    (λ (p : (ℕ × ℕ) × ℕ). PageStates ms (page_of p))
    (PageStates ms)
    (PageFaults ms)
    page_of
    (λ p s. s)
    (λ page t. (((page.logical, page.physical), page.level), t, refl))
    (numbers_of_page ms)
    (page_numbers_judged ms)

pub page_judged : (d : Data) → Judges machine_faults (IsPage d) (PageFault d) (page_at d)
page_judged d =
    table_judged
    machine_faults
    map_keys
    PageStates
    PageFaults
    (λ ms. reading_map page_of (numbers_of_page ms))
    page_answers
    d

abbrev EventStates : Members → ℕ × Event → Type 0
EventStates ms event =
    AtKey (codes "step") ms (λ e. IsNumber 65535 e event.0)
    × AtKeyOr (codes "bursts") ms (event.1.bursts ≡ 0) (λ e. IsNumber 65535 e event.1.bursts)
    × AtKeyOr (codes "lines") ms (event.1.lines ≡ None) (λ e. IsSomeAnd event.1.lines (AreLines e))
    × AtKeyOr (codes "port") ms (event.1.port ≡ None) (λ e. IsSomeAnd event.1.port (IsWord e))

abbrev event_parts : Members → Read (ℕ × (ℕ × (Option Lines × Option ℕ)))
event_parts ms =
    pair
    machine_faults
    (number_in machine_faults (codes "step") 65535 ms)
    (pair machine_faults (number_or machine_faults (codes "bursts") 65535 0 ms) (pair machine_faults (lines_in ms) (port_in ms)))

lines_in_judged : (ms : Members)
    → Judges machine_faults (λ o. AtKeyOr (codes "lines") ms (o ≡ None) (λ e. IsSomeAnd o (AreLines e))) (λ f. AtKey (codes "lines") ms (λ e. LinesFault e f)) (lines_in ms)
lines_in_judged ms =
    optional_judged
    machine_faults
    (λ e o. IsSomeAnd o (AreLines e))
    LinesFault
    lines_at
    lines_judged
    None
    (get_member (codes "lines") ms)

port_in_judged : (ms : Members)
    → Judges machine_faults (λ o. AtKeyOr (codes "port") ms (o ≡ None) (λ e. IsSomeAnd o (IsWord e))) (λ f. AtKey (codes "port") ms (λ e. WordFault e f)) (port_in ms)
port_in_judged ms =
    optional_judged
    machine_faults
    (λ e o. IsSomeAnd o (IsWord e))
    WordFault
    port_at
    port_judged
    None
    (get_member (codes "port") ms)

event_answers : (ms : Members)
    → Judges machine_faults (EventStates ms) (EventFaults ms) (reading_map event_of (event_parts ms))
event_answers ms =
    map_judged
    machine_faults
    _
    (EventStates ms)
    (EventFaults ms)
    event_of
    (λ p s. (s.0, s.1.0, s.1.1.0, s.1.1.1))
    (λ e t. ((e.0, (e.1.bursts, (e.1.lines, e.1.port))), (t.0, (t.1, (t.2, t.3))), refl))
    (event_parts ms)
    (joint (number_in_judged machine_faults 65535 (codes "step") ms) (joint (number_or_judged machine_faults 65535 (codes "bursts") 0 ms) (joint (lines_in_judged ms) (port_in_judged ms))))

pub event_judged : (d : Data) → Judges machine_faults (IsEvent d) (EventFault d) (event_at d)
event_judged d =
    table_judged
    machine_faults
    event_keys
    EventStates
    EventFaults
    (λ ms. reading_map event_of (event_parts ms))
    event_answers
    d

-- ## Ranks of the faults of pages and events

abbrev pub IsLow : MachineFileFault → Type 0
IsLow f = number_of f ≤ 5

module _ (f : MachineFileFault) where
  pub low_at : (g : MachineFileFault) → number_of g ≤ 5 → f ≡ g → IsLow f
  low_at g low e = let r : number_of f ≡ number_of g = ap number_of e in omega (arith, r, low)

  pub some_low : {X : Type 0} (P : X → Type 0) → ((x : X) → P x → IsLow f) → (o : Option X) → IsSomeAnd o P
      → IsLow f
  some_low P each None h = absurd h
  some_low P each (Some x) h = each x h

  pub match_low : {X : Type 0} (P : X → Type 0) → ((x : X) → P x → IsLow f) → (o : Option X)
      → MatchOption o (f ≡ WrongKind) P → IsLow f
  match_low P each None h = low_at WrongKind (omega arith) h
  match_low P each (Some x) h = each x h

  up_to_low : (limit : ℕ) (d : Data) → UpToFault limit d f → IsLow f
  up_to_low limit d h = match_low _ (λ z x. low_at OutOfRange (omega arith) x.1) (as_integer d) h

  pub size_low : (d : Data) → SizeFault d f → IsLow f
  size_low d h = match_low _ (λ z x. low_at OutOfRange (omega arith) x.1) (as_integer d) h

  pub list_low : (H : Data → MachineFileFault → Type 0) → ((d : Data) → H d f → IsLow f) → (d : Data)
      → ListFault machine_faults H d f → IsLow f
  list_low H each d h = match_low _ (λ ds a. each a.1 a.4) (items_at d) h

  keys_low : (keys : List (List ℕ)) (H : Members → MachineFileFault → Type 0)
      → ((ms : Members) → H ms f → IsLow f) → (ms : Members) → KeysFault machine_faults keys H ms f
      → IsLow f
  keys_low keys H each ms (inl e) = low_at UnknownKey (omega arith) e.1
  keys_low keys H each ms (inr h) = each ms h

  pub table_low : (keys : List (List ℕ)) (H : Members → MachineFileFault → Type 0)
      → ((ms : Members) → H ms f → IsLow f) → (d : Data) → TableFault machine_faults keys H d f → IsLow f
  table_low keys H each d h = match_low _ (keys_low keys H each) (as_table d) h

  pub needs_low : (key : List ℕ) (ms : Members) → NeedsWord ms key f → IsLow f
  needs_low key ms h = match_low _ (λ d x. up_to_low (2 ^ 32 - 1) d x) (get_member key ms) h

  page_faults_low : (ms : Members) → PageFaults ms f → IsLow f
  page_faults_low ms (inl h) = needs_low (codes "logical") ms h
  page_faults_low ms (inr (inl h)) = needs_low (codes "physical") ms h
  page_faults_low ms (inr (inr h)) = needs_low (codes "level") ms h

  pub page_low : (d : Data) → PageFault d f → IsLow f
  page_low d h = table_low map_keys PageFaults page_faults_low d h

  event_faults_low : (ms : Members) → EventFaults ms f → IsLow f
  event_faults_low ms (inl h) = match_low _ (λ d x. up_to_low 65535 d x) (get_member (codes "step") ms) h
  event_faults_low ms (inr (inl h)) =
      some_low _ (λ d x. up_to_low 65535 d x) (get_member (codes "bursts") ms) h
  event_faults_low ms (inr (inr (inl h))) =
      some_low
      _
      (λ d x. list_low (NameFault machine_faults line_named) (λ e y. low_at WrongKind (omega arith) y.1) d x)
      (get_member (codes "lines") ms)
      h
  event_faults_low ms (inr (inr (inr h))) =
      some_low _ (λ d x. up_to_low (2 ^ 32 - 1) d x) (get_member (codes "port") ms) h

  pub event_low : (d : Data) → EventFault d f → IsLow f
  event_low d h = table_low event_keys EventFaults event_faults_low d h
