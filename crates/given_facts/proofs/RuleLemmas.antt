-- What is read of a file of facts, against what its document states and the faults at its spots.
use Rattle.std.proofs.Common.{◌≡◌, ◌≢◌, ◌⊎◌, ℕ, ◌≤◌, ◌<◌, ◌-◌, ◌^◌, ◌↔◌, ℤ, Bool, true, false, ◌||◌, length, List, [], ◌∷◌, Option, Some, None, Ok, Err, IsSomeAnd, MatchOption, Any, unwrap_or, option_map, option_and_then, inl, inr, refl, sym, ap, subst, ◌∙◌, arith}
use Rattle.std.specs.Prelude.{codes, filter_map, is_some, nat_le}
use Rattle.std.specs.Borrow.{Bor}
use Rattle.std.specs.List.{AllZip, cons_option, slice_get}
use Rattle.std.specs.Str.{bytes_eq}
use Rattle.std.proofs.lemmas.Bool.{cases_Bool, false≢true, le-leb, leb-false, leb-true, true≢false}
use Rattle.std.proofs.lemmas.Option.{none-some}
use Rattle.toml.specs.Data.{Data, Members, as_integer, as_str, as_table, get_member}
use Rattle.arm2_decode.specs.Names.{register_number}
use Rattle.arm2_decode.specs.declared.names.Register.{Register}
use Rattle.known_words.specs.declared.given.Given.{Given}
use Rattle.toml_reading.specs.Documents.{are_distinct, has_only_keys, is_one_of, items_at, once, tables_at}
use Rattle.toml_reading.specs.Lowest.{AtKey, AtKeyOr, IsListOf, IsLowest, IsNamed, IsOutside, ListFault, NameFault, NumberFault}
use Rattle.toml_reading.specs.Readings.{and_then, pair, reading_map}
use Rattle.toml_reading.proofs.LowestLemmas.{Judges, and_then_judged, check_judged, joint, judged_as, judged_fault, judged_one, judged_value, map_judged, one_test, required_judged}
use Rattle.toml_reading.proofs.LowestParts.{any_none, entries_state, named_judged, number_in_judged, some_weaker, tables_judged}
use Rattle.machine_file.specs.declared.spots.Part.{Part}
use Rattle.machine_file.specs.declared.spots.Part.TheVariants.{Unknown, Value, Missing}
use Rattle.machine_file.proofs.PlaceLemmas.{bytes_is}
use Rattle.given_facts.specs.GivenFaults.{given_faults, number_of}
use Rattle.given_facts.specs.GivenFile.{ends_in, fact_at, fact_in, fact_keys, fact_of, facts_in, file_keys, is_range, listed_facts, named_register, numbers, ordered, range_in, register_at, register_in, value_in, word_in}
use Rattle.given_facts.specs.GivenPlaces.{AtFact, HasGivenFault, IsDisordered, IsGivenFaultAt, PartFault, ValueFault, entries, number_in}
use Rattle.given_facts.specs.GivenRules.{HasWord, IsFact, StatesEnds, StatesFact, StatesFacts}
use Rattle.given_facts.specs.declared.faults.GivenFault.{GivenFault}
use Rattle.given_facts.specs.declared.faults.GivenFault.TheVariants.{Memory, UnknownKey, WrongKind, OutOfRange, Twice}
use Rattle.given_facts.specs.declared.spots.GivenSpot.{GivenSpot}
use Rattle.given_facts.specs.declared.spots.GivenSpot.TheVariants as spot
use Rattle.given_facts.proofs.PlaceLemmas.{one_rank}
use Rattle.given_facts.proofs.RepeatLemmas.{index_repeat, repeat_index}
use Rattle.given_facts.proofs.TestLemmas.{any_index, in_some, index_any, of_some, of_unknown, unknown_of}

-- ## Words and registers

abbrev NeedsWord : List ℕ → Members → GivenFault → Type 0
NeedsWord key ms f = AtKeyOr key ms (f ≡ WrongKind) (λ d. NumberFault given_faults (2 ^ 32 - 1) d f)

word_judged : (key : List ℕ) (ms : Members) → Judges given_faults (HasWord key ms) (NeedsWord key ms) (word_in key ms)
word_judged key ms = number_in_judged given_faults (2 ^ 32 - 1) key ms

abbrev HasRegister : Members → Register → Type 0
HasRegister ms r = AtKey (codes "register") ms (λ d. IsNamed named_register d r)

abbrev NeedsRegister : Members → GivenFault → Type 0
NeedsRegister ms f = AtKeyOr (codes "register") ms (f ≡ WrongKind) (λ d. NameFault given_faults named_register d f)

register_judged : (ms : Members) → Judges given_faults (HasRegister ms) (NeedsRegister ms) (register_in ms)
register_judged ms =
    required_judged given_faults (IsNamed named_register) (NameFault given_faults named_register) register_at
    (named_judged given_faults named_register) (get_member (codes "register") ms)

-- ## The ends of a range

number_low : (o : Option ℤ) (f : GivenFault) → MatchOption o (f ≡ WrongKind) (λ z. IsOutside (2 ^ 32 - 1) z × (f ≡ OutOfRange)) → number_of f ≤ 5
number_low None f h = let r : number_of f ≡ 4 = ap number_of h in omega (arith, r)
number_low (Some z) f h = let r : number_of f ≡ 5 = ap number_of h.1 in omega (arith, r)

needs_low : (o : Option Data) (f : GivenFault) → MatchOption o (f ≡ WrongKind) (λ d. NumberFault given_faults (2 ^ 32 - 1) d f) → number_of f ≤ 5
needs_low None f h = let r : number_of f ≡ 4 = ap number_of h in omega (arith, r)
needs_low (Some d) f h = number_low (as_integer d) f h

module _ (ms : Members) where
  abbrev Ends : ℕ × ℕ → Type 0
  Ends p = HasWord (codes "from") ms p.0 × HasWord (codes "to") ms p.1

  abbrev EndsFault : GivenFault → Type 0
  EndsFault f = NeedsWord (codes "from") ms f ⊎ NeedsWord (codes "to") ms f

  ends_judged : Judges given_faults Ends EndsFault (pair given_faults (word_in (codes "from") ms) (word_in (codes "to") ms))
  ends_judged = joint (word_judged (codes "from") ms) (word_judged (codes "to") ms)

  abbrev Late : GivenFault → Type 0
  Late f = IsDisordered ms × (f ≡ OutOfRange)

  disordered_iff : (p : ℕ × ℕ) → Ends p → nat_le p.0 p.1 ≡ false ↔ IsDisordered ms
  disordered_iff p s = (
    λ e. (p.0, p.1, s.0, s.1, leb-false p.0 p.1 e),
    λ d.
        let same : (d.0, d.1) ≡ p = judged_one given_faults Ends EndsFault _ ends_judged (d.0, d.1) p (d.2, d.3) s in
        let low : p.1 < p.0 = subst (λ (q : ℕ × ℕ). q.1 < q.0) same d.4 in
        elim (cases_Bool (nat_le p.0 p.1)) [
          | inl le ↦ let most = leb-true p.0 p.1 le in absurd (omega (arith, most, low))
          | inr more ↦ more
        ],
  )

  ends_higher : (x y : GivenFault) → EndsFault x → Late y → number_of x ≤ number_of y
  ends_higher x y (inl h) late =
      let low = needs_low (get_member (codes "from") ms) x h in
      let r : number_of y ≡ 5 = ap number_of late.1 in
      omega (arith, low, r)
  ends_higher x y (inr h) late =
      let low = needs_low (get_member (codes "to") ms) x h in
      let r : number_of y ≡ 5 = ap number_of late.1 in
      omega (arith, low, r)

  abbrev InOrder : ℕ × ℕ → ℕ × ℕ → Type 0
  InOrder a b = (b ≡ a) × (nat_le a.0 a.1 ≡ true)

  range_judged : Judges given_faults (λ p. (q : ℕ × ℕ) × Ends q × InOrder q p) (λ f. EndsFault f ⊎ Late f) (range_in ms)
  range_judged =
      and_then_judged given_faults Ends EndsFault Late InOrder ordered
      (λ a s. one_test given_faults a (nat_le a.0 a.1) (IsDisordered ms) (disordered_iff a s) OutOfRange)
      ends_higher _ ends_judged

  abbrev IsValue : ℕ × ℕ → Type 0
  IsValue p = HasWord (codes "value") ms p.0 × (p.1 ≡ p.0)

  value_judged : Judges given_faults IsValue (NeedsWord (codes "value") ms) (value_in ms)
  value_judged =
      map_judged given_faults (HasWord (codes "value") ms) IsValue (NeedsWord (codes "value") ms) (λ n. (n, n))
      (λ n s. (s, refl)) (λ p t. (p.0, t.0, (λ i. (p.0, t.1 i)))) _ (word_judged (codes "value") ms)

  abbrev BothFault : GivenFault → Type 0
  BothFault f =
      ((is_range ms ≡ true) × (EndsFault f ⊎ Late f)) ⊎ ((is_range ms ≡ false) × NeedsWord (codes "value") ms f)

  abbrev StatesBoth : ℕ × ℕ → Type 0
  StatesBoth p = StatesEnds ms p.0 p.1

  to_range : is_range ms ≡ true → (p : ℕ × ℕ) → (q : ℕ × ℕ) × Ends q × InOrder q p → StatesBoth p
  to_range e p t = inl (
    e,
    subst (λ (q : ℕ × ℕ). HasWord (codes "from") ms q.0) (sym t.2.0) t.1.0,
    subst (λ (q : ℕ × ℕ). HasWord (codes "to") ms q.1) (sym t.2.0) t.1.1,
    subst (λ (q : ℕ × ℕ). q.0 ≤ q.1) (sym t.2.0) (leb-true t.0.0 t.0.1 t.2.1),
  )

  of_range : is_range ms ≡ true → (p : ℕ × ℕ) → StatesBoth p → (q : ℕ × ℕ) × Ends q × InOrder q p
  of_range e p (inl s) = (p, (s.1, s.2), (refl, le-leb p.0 p.1 s.3))
  of_range e p (inr s) = absurd (true≢false (sym e ∙ s.0))

  of_value : is_range ms ≡ false → (p : ℕ × ℕ) → StatesBoth p → IsValue p
  of_value e p (inl s) = absurd (true≢false (sym s.0 ∙ e))
  of_value e p (inr s) = (s.1, s.2)

  both_judged : Judges given_faults StatesBoth BothFault (ends_in ms)
  both_judged = elim (cases_Bool (is_range ms)) [
    | inl e ↦ rw e (judged_as given_faults _ StatesBoth _ BothFault
        (λ p. (to_range e p, of_range e p))
        (λ f. (λ h. inl (e, h), λ h. elim h [ inl x ↦ x.1 | inr y ↦ absurd (true≢false (sym e ∙ y.0)) ]))
        (range_in ms) range_judged)
    | inr e ↦ rw e (judged_as given_faults IsValue StatesBoth (NeedsWord (codes "value") ms) BothFault
        (λ p. (λ t. inr (e, t.0, t.1), of_value e p))
        (λ f. (λ h. inr (e, h), λ h. elim h [ inl x ↦ absurd (true≢false (sym x.0 ∙ e)) | inr y ↦ y.1 ]))
        (value_in ms) value_judged)
  ]

  -- ## One fact

  abbrev Parts : Register × (ℕ × ℕ) → Type 0
  Parts p = HasRegister ms p.0 × StatesBoth p.1

  abbrev PartsFault : GivenFault → Type 0
  PartsFault f = NeedsRegister ms f ⊎ BothFault f

  parts_judged : Judges given_faults Parts PartsFault (pair given_faults (register_in ms) (ends_in ms))
  parts_judged = joint (register_judged ms) both_judged

  read_judged : Judges given_faults (StatesFact ms) PartsFault (reading_map fact_of (pair given_faults (register_in ms) (ends_in ms)))
  read_judged =
      map_judged given_faults Parts (StatesFact ms) PartsFault fact_of (λ p s. s)
      (λ g t. ((g.register, (g.low, g.high)), t, refl)) _ parts_judged

  abbrev KeysFault : GivenFault → Type 0
  KeysFault f = ((has_only_keys (fact_keys ms) ms ≡ false) × (f ≡ UnknownKey)) ⊎ PartsFault f

  keys_judged : Judges given_faults (λ g. (has_only_keys (fact_keys ms) ms ≡ true) × StatesFact ms g) KeysFault (fact_in ms)
  keys_judged = check_judged given_faults (StatesFact ms) PartsFault (has_only_keys (fact_keys ms) ms) UnknownKey _ read_judged

abbrev FactFault : Data → GivenFault → Type 0
FactFault d f = MatchOption (as_table d) (f ≡ WrongKind) (λ ms. KeysFault ms f)

fact_judged : (d : Data) → Judges given_faults (IsFact d) (FactFault d) (fact_at d)
fact_judged d =
    required_judged given_faults (λ ms g. (has_only_keys (fact_keys ms) ms ≡ true) × StatesFact ms g) KeysFault fact_in keys_judged (as_table d)

-- ## Their registers

named_number : (r : Register) (o : Option Data) → IsSomeAnd o (λ e. IsNamed named_register e r)
    → option_map register_number (option_and_then named_register (option_and_then as_str o)) ≡ Some (register_number r)
named_number r None h = absurd h
named_number r (Some e) h = ap (option_map register_number) h

number_of_fact : (o : Option Members) (g : Given) → IsSomeAnd o (λ ms. (has_only_keys (fact_keys ms) ms ≡ true) × StatesFact ms g)
    → option_map register_number (option_and_then named_register (option_and_then as_str (option_and_then (get_member (codes "register")) o))) ≡ Some (register_number g.register)
number_of_fact None g h = absurd h
number_of_fact (Some ms) g h = named_number g.register (get_member (codes "register") ms) h.1.0

numbers_are : (ds : List Data) (facts : List Given) → AllZip IsFact ds facts → filter_map number_in ds ≡ numbers facts
numbers_are [] [] h = refl
numbers_are [] (g ∷ gs) h = absurd h
numbers_are (d ∷ ds) [] h = absurd h
numbers_are (d ∷ ds) (g ∷ gs) h =
    ap (λ o. cons_option o (filter_map number_in ds)) (number_of_fact (as_table d) g h.0)
    ∙ ap (λ ns. register_number g.register ∷ ns) (numbers_are ds gs h.1)

-- ## The file

rank_low : (f : GivenFault) → number_of f ≤ 6
rank_low Memory = omega arith
rank_low _ = omega arith

module _ (ms : Members) where
  abbrev Listed : List Given → Type 0
  Listed facts = AtKeyOr (codes "given") ms (facts ≡ []) (λ d. IsListOf IsFact d facts)

  abbrev ListedFault : GivenFault → Type 0
  ListedFault f = AtKey (codes "given") ms (λ d. ListFault given_faults FactFault d f)

  abbrev IsTwice : Type 0
  IsTwice = are_distinct (filter_map number_in (entries ms)) ≡ false

  abbrev TwiceFault : GivenFault → Type 0
  TwiceFault f = IsTwice × (f ≡ Twice)

  twice_iff : (facts : List Given) → Listed facts → are_distinct (numbers facts) ≡ false ↔ IsTwice
  twice_iff facts s =
      let same : filter_map number_in (entries ms) ≡ numbers facts =
      numbers_are (entries ms) facts (entries_state IsFact (codes "given") ms facts s) in
      (λ e. ap are_distinct same ∙ e, λ e. ap are_distinct (sym same) ∙ e)

  twice_higher : (x y : GivenFault) → ListedFault x → TwiceFault y → number_of x ≤ number_of y
  twice_higher x y h late =
      let low = rank_low x in let r : number_of y ≡ 6 = ap number_of late.1 in omega (arith, low, r)

  abbrev OnceListed : List Given → Type 0
  OnceListed facts = Listed facts × (are_distinct (numbers facts) ≡ true)

  abbrev Once : List Given → List Given → Type 0
  Once a b = (b ≡ a) × (are_distinct (numbers a) ≡ true)

  once_judged : Judges given_faults OnceListed (λ f. ListedFault f ⊎ TwiceFault f) (listed_facts ms)
  once_judged =
      judged_as
      given_faults
      (λ b. (c : List Given) × Listed c × Once c b)
      OnceListed
      (λ f. ListedFault f ⊎ TwiceFault f)
      (λ f. ListedFault f ⊎ TwiceFault f)
      (λ b. (λ t. subst OnceListed (sym t.2.0) (t.1, t.2.1), λ w. (b, w.0, (refl, w.1))))
      (λ f. (λ h. h, λ h. h))
      (and_then (tables_at given_faults fact_at (get_member (codes "given") ms)) (once Twice numbers))
      (and_then_judged given_faults Listed ListedFault TwiceFault Once (once Twice numbers)
      (λ a s. one_test given_faults a (are_distinct (numbers a)) IsTwice (twice_iff a s) Twice)
      twice_higher _ (tables_judged given_faults IsFact FactFault fact_at fact_judged (codes "given") ms))

  abbrev FileFault : GivenFault → Type 0
  FileFault f = ((has_only_keys file_keys ms ≡ false) × (f ≡ UnknownKey)) ⊎ (ListedFault f ⊎ TwiceFault f)

  abbrev StatesFile : List Given → Type 0
  StatesFile facts = (has_only_keys file_keys ms ≡ true) × OnceListed facts

  file_judged : Judges given_faults StatesFile FileFault (facts_in ms)
  file_judged =
      check_judged given_faults OnceListed (λ f. ListedFault f ⊎ TwiceFault f) (has_only_keys file_keys ms) UnknownKey (listed_facts ms) once_judged

-- ## A fault has a spot

lent : List ℕ → Bor (List ℕ)
lent w = record { ref_ptr = (0, 0); now = w }

takes_register : (t : Members) → is_one_of (fact_keys t) (codes "register") ≡ true
takes_register t = elim (cases_Bool (is_range t)) [ inl e ↦ rw e refl | inr e ↦ rw e refl ]

from_other : codes "from" ≢ codes "register"
from_other e = let l : 4 ≡ 8 = ap length e in omega (arith, l)

to_other : codes "to" ≢ codes "register"
to_other e = let l : 2 ≡ 8 = ap length e in omega (arith, l)

value_other : codes "value" ≢ codes "register"
value_other e = let l : 5 ≡ 8 = ap length e in omega (arith, l)

module _ (ms : Members) (f : GivenFault) where
  module _ (n : ℕ) (d : Data) (is : slice_get (entries ms) n ≡ Some d) (t : Members) (some : as_table d ≡ Some t) where
    at_fact : (P : Members → Type 0) → P t → AtFact n ms P
    at_fact P p = of_some (λ e. IsSomeAnd (as_table e) P) (slice_get (entries ms) n) d is (of_some P (as_table d) t some p)

    word_spot : (key : List ℕ) → is_one_of (fact_keys t) key ≡ true → key ≢ codes "register" → NeedsWord key t f → HasGivenFault ms f
    unfolding lent
    word_spot key takes other h = by_value (get_member key t) refl h
      where
        by_value : (o : Option Data) → o ≡ get_member key t
            → MatchOption o (f ≡ WrongKind) (λ e. NumberFault given_faults (2 ^ 32 - 1) e f) → HasGivenFault ms f
        by_value None none k =
            (spot.Fact n (Missing (lent key)), at_fact (λ u. PartFault (Missing (lent key)) u f) (takes, sym none, k))
        by_value (Some e) there k = (
          spot.Fact n (Value (lent key)),
          at_fact (λ u. PartFault (Value (lent key)) u f) (takes, of_some (ValueFault key f) (get_member key t) e (sym there) (inr (other, k))),
        )

    register_spot : NeedsRegister t f → HasGivenFault ms f
    unfolding lent
    register_spot h = by_value (get_member (codes "register") t) refl h
      where
        by_value : (o : Option Data) → o ≡ get_member (codes "register") t
            → MatchOption o (f ≡ WrongKind) (λ e. NameFault given_faults named_register e f) → HasGivenFault ms f
        by_value None none k = (
          spot.Fact n (Missing (lent (codes "register"))),
          at_fact (λ u. PartFault (Missing (lent (codes "register"))) u f) (takes_register t, sym none, k),
        )
        by_value (Some e) there k = (
          spot.Fact n (Value (lent (codes "register"))),
          at_fact (λ u. PartFault (Value (lent (codes "register"))) u f)
              (takes_register t, of_some (ValueFault (codes "register") f) (get_member (codes "register") t) e (sym there) (inl (refl, k))),
        )

    table_spot : KeysFault t f → HasGivenFault ms f
    unfolding lent
    table_spot (inl h) =
        let u = unknown_of (fact_keys t) t h.0 in
        (spot.Fact n (Unknown (lent u.0)), at_fact (λ v. PartFault (Unknown (lent u.0)) v f) (u.1, u.2, h.1))
    table_spot (inr (inl h)) = register_spot h
    table_spot (inr (inr (inl h))) = elim h.1 [
      | inl ends ↦ elim ends [
        | inl low ↦ word_spot (codes "from") (rw h.0 refl) from_other low
        | inr high ↦ word_spot (codes "to") (rw h.0 refl) to_other high
      ]
      | inr late ↦ (spot.Disordered n, (at_fact IsDisordered late.0, late.1))
    ]
    table_spot (inr (inr (inr h))) = word_spot (codes "value") (rw h.0 refl) value_other h.1

  fact_spot : (n : ℕ) (d : Data) → slice_get (entries ms) n ≡ Some d → (o : Option Members) → o ≡ as_table d
      → MatchOption o (f ≡ WrongKind) (λ t. KeysFault t f) → HasGivenFault ms f
  fact_spot n d is None none h =
      (spot.NoTable n, (of_some (λ e. as_table e ≡ None) (slice_get (entries ms) n) d is (sym none), h))
  fact_spot n d is (Some t) some h = table_spot n d is t (sym some) h

  abbrev OneFact : Data → Type 0
  OneFact e = FactFault e f

  in_items : (l : Option (List Data)) → MatchOption l (f ≡ WrongKind) (Any OneFact)
      → ((l ≡ None) × (f ≡ WrongKind)) ⊎ Any OneFact (unwrap_or l [])
  in_items None h = inl (refl, h)
  in_items (Some ds) h = inr h

  in_list : (o : Option Data) → IsSomeAnd o (λ d. ListFault given_faults FactFault d f)
      → (IsSomeAnd o (λ d. items_at d ≡ None) × (f ≡ WrongKind)) ⊎ Any OneFact (unwrap_or (option_and_then items_at o) [])
  in_list None h = absurd h
  in_list (Some d) h = in_items (items_at d) h

  any_spot : Any OneFact (entries ms) → HasGivenFault ms f
  any_spot h =
      let at = any_index OneFact (entries ms) h in
      let d = in_some OneFact (slice_get (entries ms) at.0) at.1 in
      fact_spot at.0 d.0 d.1 (as_table d.0) refl d.2

  fault_spot : FileFault ms f → HasGivenFault ms f
  unfolding lent
  fault_spot (inl h) = let u = unknown_of file_keys ms h.0 in (spot.Unknown (lent u.0), (u.1, u.2, h.1))
  fault_spot (inr (inl h)) = elim (in_list (get_member (codes "given") ms) h) [
    | inl none ↦ (spot.NoList, none)
    | inr some ↦ any_spot some
  ]
  fault_spot (inr (inr h)) = let at = repeat_index number_in (entries ms) h.0 in (spot.Second at.0, (at.1, h.1))

  -- ## From a spot

  some_or : (M : Type 0) (P : Data → Type 0) (o : Option Data) → IsSomeAnd o P → MatchOption o M P
  some_or M P None h = absurd h
  some_or M P (Some e) h = h

  missing : (P : Data → Type 0) (o : Option Data) → o ≡ None → f ≡ WrongKind → MatchOption o (f ≡ WrongKind) P
  missing P None is e = e
  missing P (Some d) is e = absurd (none-some d (sym is))

  abbrev WordAt : Data → Type 0
  WordAt e = NumberFault given_faults (2 ^ 32 - 1) e f

  abbrev NameAt : Data → Type 0
  NameAt e = NameFault given_faults named_register e f

  as_word : (key : List ℕ) → key ≢ codes "register" → (e : Data) → ValueFault key f e → WordAt e
  as_word key other e (inl h) = absurd (other h.0)
  as_word key other e (inr h) = h.1

  as_name : (e : Data) → ValueFault (codes "register") f e → NameAt e
  as_name e (inl h) = h.1
  as_name e (inr h) = absurd (h.0 refl)

  or_either : (a b : Bool) → (a || b) ≡ true → (a ≡ true) ⊎ (b ≡ true)
  or_either true b e = inl refl
  or_either false b e = inr e

  module _ (t : Members) where
    -- the key is one that the fact takes
    abbrev TakenKey : List ℕ → Type 0
    TakenKey key =
        (codes "register" ≡ key)
        ⊎ (((is_range t ≡ true) × ((codes "from" ≡ key) ⊎ (codes "to" ≡ key))) ⊎ ((is_range t ≡ false) × (codes "value" ≡ key)))

    same_key : (k key : List ℕ) → bytes_eq k key ≡ true → k ≡ key
    same_key k key e = (bytes_is k key).0 e

    taken_key : (key : List ℕ) → is_one_of (fact_keys t) key ≡ true → TakenKey key
    taken_key key h = elim (cases_Bool (is_range t)) [
      | inl e ↦ elim (or_either (bytes_eq (codes "register") key) _ (rw e at h)) [
        | inl one ↦ inl (same_key (codes "register") key one)
        | inr more ↦ elim (or_either (bytes_eq (codes "from") key) _ more) [
          | inl two ↦ inr (inl (e, inl (same_key (codes "from") key two)))
          | inr last ↦ elim (or_either (bytes_eq (codes "to") key) false last) [
            | inl three ↦ inr (inl (e, inr (same_key (codes "to") key three)))
            | inr past ↦ absurd (false≢true past)
          ]
        ]
      ]
      | inr e ↦ elim (or_either (bytes_eq (codes "register") key) _ (rw e at h)) [
        | inl one ↦ inl (same_key (codes "register") key one)
        | inr more ↦ elim (or_either (bytes_eq (codes "value") key) false more) [
          | inl two ↦ inr (inr (e, same_key (codes "value") key two))
          | inr past ↦ absurd (false≢true past)
        ]
      ]
    ]

    -- what is wrong at a key that the fact takes
    abbrev AtTaken : List ℕ → Type 0
    AtTaken key = IsSomeAnd (get_member key t) (ValueFault key f) ⊎ ((get_member key t ≡ None) × (f ≡ WrongKind))

    needs_word : (key : List ℕ) → key ≢ codes "register" → AtTaken key → NeedsWord key t f
    needs_word key other (inl h) =
        some_or (f ≡ WrongKind) WordAt (get_member key t) (some_weaker (ValueFault key f) WordAt (as_word key other) (get_member key t) h)
    needs_word key other (inr h) = missing WordAt (get_member key t) h.0 h.1

    needs_register : AtTaken (codes "register") → NeedsRegister t f
    needs_register (inl h) =
        some_or (f ≡ WrongKind) NameAt (get_member (codes "register") t)
        (some_weaker (ValueFault (codes "register") f) NameAt as_name (get_member (codes "register") t) h)
    needs_register (inr h) = missing NameAt (get_member (codes "register") t) h.0 h.1

    taken_fault : (key : List ℕ) → TakenKey key → AtTaken key → KeysFault t f
    taken_fault key (inl is) h = inr (inl (needs_register (subst AtTaken (sym is) h)))
    taken_fault key (inr (inl (range, inl is))) h =
        inr (inr (inl (range, inl (inl (needs_word (codes "from") from_other (subst AtTaken (sym is) h))))))
    taken_fault key (inr (inl (range, inr is))) h =
        inr (inr (inl (range, inl (inr (needs_word (codes "to") to_other (subst AtTaken (sym is) h))))))
    taken_fault key (inr (inr (single, is))) h =
        inr (inr (inr (single, needs_word (codes "value") value_other (subst AtTaken (sym is) h))))

    part_fault : (p : Part) → PartFault p t f → KeysFault t f
    part_fault (Unknown key) h = inl (of_unknown (fact_keys t) t key.now h.0 h.1, h.2)
    part_fault (Value key) h = taken_fault key.now (taken_key key.now h.0) (inl h.1)
    part_fault (Missing key) h = taken_fault key.now (taken_key key.now h.0) (inr (h.1, h.2))

    there : (P : Data → Type 0) (o : Option Data) → IsSomeAnd o P → is_some o ≡ true
    there P None h = absurd h
    there P (Some d) h = refl

    disordered_fault : IsDisordered t → f ≡ OutOfRange → KeysFault t f
    disordered_fault h e = inr (inr (inl (rw (there _ (get_member (codes "from") t) h.2) refl, inr (h, e))))

  table_fault : (P : Members → Type 0) → ((t : Members) → P t → KeysFault t f) → (o : Option Members) → IsSomeAnd o P
      → MatchOption o (f ≡ WrongKind) (λ t. KeysFault t f)
  table_fault P to None h = absurd h
  table_fault P to (Some t) h = to t h

  no_table_fault : (o : Option Members) → o ≡ None → f ≡ WrongKind → MatchOption o (f ≡ WrongKind) (λ t. KeysFault t f)
  no_table_fault None is e = e
  no_table_fault (Some t) is e = absurd (none-some t (sym is))

  back_items : (l : Option (List Data)) → Any OneFact (unwrap_or l []) → MatchOption l (f ≡ WrongKind) (Any OneFact)
  back_items None h = absurd (any_none OneFact h)
  back_items (Some ds) h = h

  back_list : (o : Option Data) → Any OneFact (unwrap_or (option_and_then items_at o) []) → IsSomeAnd o (λ d. ListFault given_faults FactFault d f)
  back_list None h = absurd (any_none OneFact h)
  back_list (Some d) h = back_items (items_at d) h

  no_items : (l : Option (List Data)) → l ≡ None → f ≡ WrongKind → MatchOption l (f ≡ WrongKind) (Any OneFact)
  no_items None is e = e
  no_items (Some ds) is e = absurd (none-some ds (sym is))

  entry_fault : (n : ℕ) (P : Data → Type 0) → ((d : Data) → P d → OneFact d) → IsSomeAnd (slice_get (entries ms) n) P → FileFault ms f
  entry_fault n P to h =
      inr (inl (back_list (get_member (codes "given") ms) (index_any OneFact (entries ms) n (some_weaker P OneFact to (slice_get (entries ms) n) h))))

  spot_fault : (s : GivenSpot) → IsGivenFaultAt ms s f → FileFault ms f
  spot_fault (spot.Unknown key) h = inl (of_unknown file_keys ms key.now h.0 h.1, h.2)
  spot_fault spot.NoList h =
      inr (inl (some_weaker (λ d. items_at d ≡ None) (λ d. ListFault given_faults FactFault d f) (λ d none. no_items (items_at d) none h.1) (get_member (codes "given") ms) h.0))
  spot_fault (spot.NoTable n) h = entry_fault n (λ d. as_table d ≡ None) (λ d none. no_table_fault (as_table d) none h.1) h.0
  spot_fault (spot.Fact n part) h =
      entry_fault n (λ d. IsSomeAnd (as_table d) (λ t. PartFault part t f))
      (λ d k. table_fault (λ t. PartFault part t f) (λ t p. part_fault t part p) (as_table d) k) h
  spot_fault (spot.Disordered n) h =
      entry_fault n (λ d. IsSomeAnd (as_table d) IsDisordered)
      (λ d k. table_fault IsDisordered (λ t p. disordered_fault t p h.1) (as_table d) k) h.0
  spot_fault (spot.Second n) h = inr (inr (index_repeat number_in (entries ms) n h.0, h.1))

-- ## The law

law_judged : (ms : Members) → Judges given_faults (StatesFacts ms) (HasGivenFault ms) (facts_in ms)
law_judged ms =
    judged_as given_faults (StatesFile ms) (StatesFacts ms) (FileFault ms) (HasGivenFault ms)
    (λ facts. (
      λ s. record { known = s.0; listed = s.1.0; once = s.1.1 },
      λ s. (s.known, (s.listed, s.once)),
    ))
    (λ f. (fault_spot ms f, λ h. spot_fault ms f h.0 h.1))
    (facts_in ms) (file_judged ms)

pub facts_stated : (ms : Members) (facts : List Given) → facts_in ms ≡ Ok facts ↔ StatesFacts ms facts
facts_stated ms = judged_value given_faults (StatesFacts ms) (HasGivenFault ms) (facts_in ms) (law_judged ms)

pub fault_answered : (ms : Members) (fault : GivenFault) → facts_in ms ≡ Err fault ↔ IsLowest given_faults (HasGivenFault ms) fault
fault_answered ms = judged_fault given_faults (StatesFacts ms) (HasGivenFault ms) one_rank (facts_in ms) (law_judged ms)
