-- The faults of a cycle profile file key by key are those of the whole file.
use Rattle.std.proofs.Common.{◌≡◌, ◌≢◌, ◌⊎◌, ◌↔◌, ◌-◌, ◌^◌, ℕ, List, length, Any, Option, Some, None, Ok, Err, IsSomeAnd, MatchOption, is_some, inl, inr, refl, ap}
use Rattle.std.specs.Prelude.{⊤}
use Rattle.std.proofs.lemmas.Bool.{true≢false}
use Rattle.toml.specs.Data.{Data, Members, as_integer, get_member}
use Rattle.toml_reading.specs.Documents.{items_at}
use Rattle.toml_reading.specs.Lowest.{AtKey, IsLowest, IsOutside}
use Rattle.toml_reading.proofs.LowestLemmas.{Judges, judged_as, judged_fault, judged_value}
use Rattle.machine_file.specs.ProfileFaults.{profile_faults}
use Rattle.machine_file.specs.ProfileFile.{IsPriced, Read, numbers_in}
use Rattle.machine_file.specs.ProfileRules.{AreNotFour, HasOtherNumber, HasProfileFault, HasWrongKind, IsNoNumber, IsOtherNumber, StatesProfile, list_keys, number_keys}
use Rattle.machine_file.specs.declared.profile_faults.ProfileFileFault.{ProfileFileFault}
use Rattle.machine_file.specs.declared.profile_faults.ProfileFileFault.TheVariants.{WrongKind, OutOfRange}
use Rattle.machine_file.proofs.PriceFaults.{FourFault, HasPriceFault, OrderFault, PriceFault, TicksFault}
use Rattle.machine_file.proofs.ProfileRuleLemmas.{one_rank, profile_judged}

module _ (f : ProfileFileFault) where
  -- a value of the wrong kind, or a number that has not 32 bits
  abbrev Parts : Type 0 → Type 0 → Type 0
  Parts Kind Number = (Kind × (f ≡ WrongKind)) ⊎ (Number × (f ≡ OutOfRange))

  ticks_at : {X : Type 0} (O : X → Type 0) (o : Option X)
      → MatchOption o (f ≡ WrongKind) (λ z. O z × (f ≡ OutOfRange)) ↔ Parts (o ≡ None) (IsSomeAnd o O)
  ticks_at O None = (λ e. inl (refl, e), λ x. elim x [ inl y ↦ y.1 | inr y ↦ absurd y.0 ])
  ticks_at O (Some z) = (λ e. inr e, λ x. elim x [ inl y ↦ absurd (true≢false (ap is_some y.0)) | inr y ↦ y ])

  ticks_parts : (d : Data) → TicksFault d f ↔ Parts (IsNoNumber d) (IsOtherNumber d)
  ticks_parts d = ticks_at (IsOutside (2 ^ 32 - 1)) (as_integer d)

  to_items : (ds : List Data) → ((length ds ≢ 4) × (f ≡ WrongKind)) ⊎ Any (λ e. TicksFault e f) ds
      → Parts ((length ds ≢ 4) ⊎ Any IsNoNumber ds) (Any IsOtherNumber ds)
  to_items ds (inl h) = inl (inl h.0, h.1)
  to_items ds (inr h) = elim ((ticks_parts h.1).0 h.4) [
    | inl y ↦ inl (inr (h.0, h.1, h.2, h.3, y.0), y.1)
    | inr y ↦ inr ((h.0, h.1, h.2, h.3, y.0), y.1)
  ]

  wrong_items : (ds : List Data) → (length ds ≢ 4) ⊎ Any IsNoNumber ds → f ≡ WrongKind
      → ((length ds ≢ 4) × (f ≡ WrongKind)) ⊎ Any (λ e. TicksFault e f) ds
  wrong_items ds (inl h) e = inl (h, e)
  wrong_items ds (inr h) e = inr (h.0, h.1, h.2, h.3, (ticks_parts h.1).1 (inl (h.4, e)))

  from_items : (ds : List Data) → Parts ((length ds ≢ 4) ⊎ Any IsNoNumber ds) (Any IsOtherNumber ds)
      → ((length ds ≢ 4) × (f ≡ WrongKind)) ⊎ Any (λ e. TicksFault e f) ds
  from_items ds (inl h) = wrong_items ds h.0 h.1
  from_items ds (inr h) = inr (h.0.0, h.0.1, h.0.2, h.0.3, (ticks_parts h.0.1).1 (inr (h.0.4, h.1)))

  four_at : (o : Option (List Data))
      → MatchOption o (f ≡ WrongKind) (λ ds. ((length ds ≢ 4) × (f ≡ WrongKind)) ⊎ Any (λ e. TicksFault e f) ds) ↔ Parts (MatchOption o ⊤ (λ ds. (length ds ≢ 4) ⊎ Any IsNoNumber ds)) (IsSomeAnd o (Any IsOtherNumber))
  four_at None = (λ e. inl (tt, e), λ x. elim x [ inl y ↦ y.1 | inr y ↦ absurd y.0 ])
  four_at (Some ds) = (to_items ds, from_items ds)

  four_parts : (d : Data) → FourFault d f ↔ Parts (AreNotFour d) (IsSomeAnd (items_at d) (Any IsOtherNumber))
  four_parts d = four_at (items_at d)

  module _ (ms : Members) (V K N : Data → Type 0) (each : (d : Data) → V d ↔ Parts (K d) (N d)) where
    abbrev Faulty : List ℕ → Type 0
    Faulty key = MatchOption (get_member key ms) (f ≡ WrongKind) V

    split_at : (o : Option Data) → MatchOption o (f ≡ WrongKind) V
        → ((o ≡ None) × (f ≡ WrongKind)) ⊎ Parts (IsSomeAnd o K) (IsSomeAnd o N)
    split_at None e = inl (refl, e)
    split_at (Some d) h = inr ((each d).0 h)

    missing_at : (o : Option Data) → o ≡ None → f ≡ WrongKind → MatchOption o (f ≡ WrongKind) V
    missing_at None h e = e
    missing_at (Some d) h e = absurd (true≢false (ap is_some h))

    kind_at : (o : Option Data) → IsSomeAnd o K → f ≡ WrongKind → MatchOption o (f ≡ WrongKind) V
    kind_at None h e = absurd h
    kind_at (Some d) h e = (each d).1 (inl (h, e))

    number_at : (o : Option Data) → IsSomeAnd o N → f ≡ OutOfRange → MatchOption o (f ≡ WrongKind) V
    number_at None h e = absurd h
    number_at (Some d) h e = (each d).1 (inr (h, e))

    split_keys : (keys : List (List ℕ)) → Any Faulty keys
        → (Any (λ key. get_member key ms ≡ None) keys × (f ≡ WrongKind)) ⊎ Parts (Any (λ key. AtKey key ms K) keys) (Any (λ key. AtKey key ms N) keys)
    split_keys keys h = elim (split_at (get_member h.1 ms) h.4) [
      | inl y ↦ inl ((h.0, h.1, h.2, h.3, y.0), y.1)
      | inr x ↦ elim x [
        | inl y ↦ inr (inl ((h.0, h.1, h.2, h.3, y.0), y.1))
        | inr y ↦ inr (inr ((h.0, h.1, h.2, h.3, y.0), y.1))
      ]
    ]

    missing_key : (keys : List (List ℕ)) → f ≡ WrongKind → Any (λ key. get_member key ms ≡ None) keys
        → Any Faulty keys
    missing_key keys e h = (h.0, h.1, h.2, h.3, missing_at (get_member h.1 ms) h.4 e)

    kind_key : (keys : List (List ℕ)) → f ≡ WrongKind → Any (λ key. AtKey key ms K) keys → Any Faulty keys
    kind_key keys e h = (h.0, h.1, h.2, h.3, kind_at (get_member h.1 ms) h.4 e)

    number_key : (keys : List (List ℕ)) → f ≡ OutOfRange → Any (λ key. AtKey key ms N) keys → Any Faulty keys
    number_key keys e h = (h.0, h.1, h.2, h.3, number_at (get_member h.1 ms) h.4 e)

module _ (ms : Members) (f : ProfileFileFault) where
  abbrev One : Data → Type 0
  One d = TicksFault d f

  abbrev Four : Data → Type 0
  Four d = FourFault d f

  abbrev OtherFour : Data → Type 0
  OtherFour d = IsSomeAnd (items_at d) (Any IsOtherNumber)

  of_price : PriceFault ms f → HasProfileFault ms f
  of_price (inl h) = elim (split_keys f ms One IsNoNumber IsOtherNumber (ticks_parts f) number_keys h) [
    | inl y ↦ inr (inl (inl (inl y.0), y.1))
    | inr x ↦ elim x [
      | inl y ↦ inr (inl (inr (inl y.0), y.1))
      | inr y ↦ inr (inr (inl (inl (inl y.0), y.1)))
    ]
  ]
  of_price (inr h) = elim (split_keys f ms Four AreNotFour OtherFour (four_parts f) list_keys h) [
    | inl y ↦ inr (inl (inl (inr y.0), y.1))
    | inr x ↦ elim x [
      | inl y ↦ inr (inl (inr (inr y.0), y.1))
      | inr y ↦ inr (inr (inl (inl (inr y.0), y.1)))
    ]
  ]

  of_order : OrderFault ms f → HasProfileFault ms f
  of_order h = elim h.2 [
    | inl y ↦ inr (inr (inl (inr (h.0, h.1, y.0), y.1)))
    | inr y ↦ inr (inr (inr ((h.0, h.1, y.0), y.1)))
  ]

  to_profile_fault : HasPriceFault ms f → HasProfileFault ms f
  to_profile_fault (inl h) = inl h
  to_profile_fault (inr (inl h)) = of_price h
  to_profile_fault (inr (inr h)) = of_order h

  from_kind : HasWrongKind ms → f ≡ WrongKind → PriceFault ms f
  from_kind (inl (inl h)) e =
      inl (missing_key f ms One IsNoNumber IsOtherNumber (ticks_parts f) number_keys e h)
  from_kind (inl (inr h)) e = inr (missing_key f ms Four AreNotFour OtherFour (four_parts f) list_keys e h)
  from_kind (inr (inl h)) e = inl (kind_key f ms One IsNoNumber IsOtherNumber (ticks_parts f) number_keys e h)
  from_kind (inr (inr h)) e = inr (kind_key f ms Four AreNotFour OtherFour (four_parts f) list_keys e h)

  from_number : HasOtherNumber ms → f ≡ OutOfRange → PriceFault ms f
  from_number (inl h) e = inl (number_key f ms One IsNoNumber IsOtherNumber (ticks_parts f) number_keys e h)
  from_number (inr h) e = inr (number_key f ms Four AreNotFour OtherFour (four_parts f) list_keys e h)

  from_profile_fault : HasProfileFault ms f → HasPriceFault ms f
  from_profile_fault (inl h) = inl h
  from_profile_fault (inr (inl h)) = inr (inl (from_kind h.0 h.1))
  from_profile_fault (inr (inr (inl h))) = elim h.0 [
    | inl y ↦ inr (inl (from_number y h.1))
    | inr y ↦ inr (inr (y.0, y.1, inl (y.2, h.1)))
  ]
  from_profile_fault (inr (inr (inr h))) = inr (inr (h.0.0, h.0.1, inr (h.0.2, h.1)))

whole_judged : (ms : Members) (answer : Read (List ℕ)) → IsPriced (numbers_in ms) answer
    → Judges profile_faults (StatesProfile ms) (HasProfileFault ms) answer
whole_judged ms answer p =
    judged_as
    profile_faults
    (StatesProfile ms)
    (StatesProfile ms)
    (HasPriceFault ms)
    (HasProfileFault ms)
    (λ ns. (λ s. s, λ s. s))
    (λ f. (to_profile_fault ms f, from_profile_fault ms f))
    answer
    (profile_judged ms answer p)

pub profile_stated : (ms : Members) (answer : Read (List ℕ)) → IsPriced (numbers_in ms) answer
    → (numbers : List ℕ) → answer ≡ Ok numbers ↔ StatesProfile ms numbers
profile_stated ms answer p =
    judged_value profile_faults (StatesProfile ms) (HasProfileFault ms) answer (whole_judged ms answer p)

pub profile_fault : (ms : Members) (answer : Read (List ℕ)) → IsPriced (numbers_in ms) answer
    → (fault : ProfileFileFault) → answer ≡ Err fault ↔ IsLowest profile_faults (HasProfileFault ms) fault
profile_fault ms answer p =
    judged_fault
    profile_faults
    (StatesProfile ms)
    (HasProfileFault ms)
    one_rank
    answer
    (whole_judged ms answer p)
