-- What is read of the words that are put into memory, against what they state and their faults.
use Rattle.std.proofs.Common.{◌≡◌, ℕ, ℤ, pos, ◌⊎◌, true, List, [], ◌∷◌, codes, Ok, inl, inr, refl, arith, All}
use Rattle.std.specs.Prelude.{IsTrue}
use Rattle.std.specs.List.{AllZip}
use Rattle.std.specs.Map.{keys_of}
use Rattle.std.proofs.lemmas.List.Elements.{All-cons}
use Rattle.toml.specs.Data.{Data, Members, as_integer, as_table, get_member}
use Rattle.image.specs.Image.{may_hold}
use Rattle.toml_reading.specs.Documents.{are_distinct, tables_at}
use Rattle.toml_reading.specs.Lowest.{AtKey, AtKeyOr, IsListOf, ListFault, entries_at}
use Rattle.toml_reading.specs.Readings.{pair}
use Rattle.toml_reading.proofs.AddressLemmas.{tested_judged}
use Rattle.toml_reading.proofs.LowestLemmas.{Judges, joint, judged_value, required_judged}
use Rattle.toml_reading.proofs.LowestParts.{entries_state, number_read, some_weaker, table_judged, tables_judged}
use Rattle.machine_file.specs.MachineFaults.{machine_faults}
use Rattle.machine_file.specs.MachineFile.{put_address_at, put_address_in, put_address_of, put_word_at, put_words_in}
use Rattle.machine_file.specs.Words.{word_in}
use Rattle.machine_file.specs.MachineFaultRules.{IsNoPutAddress, IsWordTwice}
use Rattle.machine_file.specs.MachineRules.{IsPutAddress, IsPutWord}
use Rattle.machine_file.specs.Names.{word_keys}
use Rattle.machine_file.specs.declared.machine_faults.MachineFileFault.{MachineFileFault}
use Rattle.machine_file.specs.declared.machine_faults.MachineFileFault.TheVariants.{OutOfRange, Twice}
use Rattle.machine_file.proofs.MachineValueLemmas.{IsLow, Word, low_at, match_low, needs_low, table_low, word}
use Rattle.machine_file.proofs.FaultTableLemmas.{some_fact}
use Rattle.machine_file.proofs.KeyFaults.{NeedsPutAddress, PutAddressFault, PutWordFault, PutWordFaults}
use Rattle.machine_file.proofs.OnceLemmas.{once_judged}

-- ## Addresses

abbrev PutAddress : ℤ → ℕ → Type 0
PutAddress z a = (z ≡ pos a) × IsTrue (may_hold a)

abbrev NoPutAddress : ℤ → MachineFileFault → Type 0
NoPutAddress z f = IsNoPutAddress z × (f ≡ OutOfRange)

pub put_address_answers : (z : ℤ) → Judges machine_faults (PutAddress z) (NoPutAddress z) (put_address_of z)
put_address_answers =
    tested_judged
    machine_faults
    (λ a. IsTrue (may_hold a))
    may_hold
    (λ n. (λ e. e, λ e. e))
    put_address_of
    (λ n. refl)
    (λ n. refl)

put_address_judged : (d : Data) → Judges machine_faults (IsPutAddress d) (PutAddressFault d) (put_address_at d)
put_address_judged d = required_judged machine_faults PutAddress NoPutAddress put_address_of put_address_answers (as_integer d)

-- ## One word

module _ (ms : Members) where
  abbrev PutAt : ℕ → Type 0
  PutAt a = AtKey (codes "at") ms (λ e. IsPutAddress e a)

  put_address_in_judged : Judges machine_faults PutAt (NeedsPutAddress ms) (put_address_in ms)
  put_address_in_judged =
      required_judged machine_faults IsPutAddress PutAddressFault put_address_at put_address_judged (get_member (codes "at") ms)

abbrev PutWordStates : Members → ℕ × ℕ → Type 0
PutWordStates ms w = PutAt ms w.0 × Word ms (codes "value") w.1

put_word_judged : (d : Data) → Judges machine_faults (IsPutWord d) (PutWordFault d) (put_word_at d)
put_word_judged d =
    table_judged
    machine_faults
    word_keys
    PutWordStates
    PutWordFaults
    (λ ms. pair machine_faults (put_address_in ms) (word_in machine_faults (codes "value") ms))
    (λ ms. joint (put_address_in_judged ms) (word ms (codes "value")))
    d

module _ (f : MachineFileFault) where
  word_address_low : (d : Data) → PutAddressFault d f → IsLow f
  word_address_low d h = match_low f _ (λ z x. low_at f OutOfRange (omega arith) x.1) (as_integer d) h

  put_word_faults_low : (ms : Members) → PutWordFaults ms f → IsLow f
  put_word_faults_low ms (inl h) = match_low f _ word_address_low (get_member (codes "at") ms) h
  put_word_faults_low ms (inr h) = needs_low f (codes "value") ms h

  put_word_low : (d : Data) → PutWordFault d f → IsLow f
  put_word_low d h = table_low f word_keys PutWordFaults put_word_faults_low d h

-- ## All words

module _ (ms : Members) where
  abbrev WordsListed : List (ℕ × ℕ) → Type 0
  WordsListed words = AtKeyOr (codes "word") ms (words ≡ []) (λ d. IsListOf IsPutWord d words)

  abbrev pub WordsFault : MachineFileFault → Type 0
  WordsFault f = AtKey (codes "word") ms (λ d. ListFault machine_faults PutWordFault d f)

  abbrev pub WordTwiceFault : MachineFileFault → Type 0
  WordTwiceFault f = IsWordTwice ms × (f ≡ Twice)

  listed_judged :
      Judges machine_faults WordsListed WordsFault (tables_at machine_faults put_word_at (get_member (codes "word") ms))
  listed_judged = tables_judged machine_faults IsPutWord PutWordFault put_word_at put_word_judged (codes "word") ms

  abbrev pub WordsStates : List (ℕ × ℕ) → Type 0
  WordsStates words = WordsListed words × (are_distinct (keys_of words) ≡ true)

  pub words_judged : Judges machine_faults WordsStates (λ f. WordsFault f ⊎ WordTwiceFault f) (put_words_in ms)
  words_judged =
      once_judged
      IsPutWord
      PutWordFault
      put_word_at
      put_word_judged
      put_word_low
      (codes "at")
      (λ d e h. number_read e.0 e.0 (codes "at") d (some_weaker _ _ (λ t x. some_weaker _ _ (λ v p. some_weaker _ _ (λ z q. (q.0, omega arith)) (as_integer v) p) (get_member (codes "at") t) x.1.0) (as_table d) h))
      (codes "word")
      ms

-- ## Where the words are

word_address_held : (d : Data) (word : ℕ × ℕ) → IsPutWord d word → IsTrue (may_hold word.0)
word_address_held d word h =
    some_fact _ _ (λ t x. some_fact _ _ (λ v p. some_fact _ _ (λ z q. q.1) (as_integer v) p) (get_member (codes "at") t) x.1.0) (as_table d) h

all_held : (ds : List Data) (words : List (ℕ × ℕ)) → AllZip IsPutWord ds words → All (λ e. IsTrue (may_hold e.0)) words
all_held [] [] h = λ k d lt. absurd (omega (arith, lt))
all_held [] (w ∷ ws) h = absurd h
all_held (d ∷ ds) [] h = λ k d lt. absurd (omega (arith, lt))
all_held (d ∷ ds) (w ∷ ws) h =
    All-cons (λ e. IsTrue (may_hold e.0)) w ws (word_address_held d w h.0) (all_held ds ws h.1)

pub words_held : (ms : Members) (words : List (ℕ × ℕ))
    → tables_at machine_faults put_word_at (get_member (codes "word") ms) ≡ Ok words
    → All (λ e. IsTrue (may_hold e.0)) words
words_held ms words is =
    all_held
    (entries_at (codes "word") ms)
    words
    (entries_state IsPutWord (codes "word") ms words ((judged_value machine_faults (WordsListed ms) (WordsFault ms) _ (listed_judged ms) words).0 is))
