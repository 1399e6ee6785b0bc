-- What is tested at a spot of a file of facts, against the fault that the document has there.
use Rattle.std.proofs.Common.{◌≡◌, ◌≢◌, ◌⊎◌, ℕ, ◌<◌, ◌-◌, ◌^◌, ◌↔◌, Bool, true, false, not, ◌&&◌, cond, ltb, get_or, List, [], ◌∷◌, Option, Some, None, Ok, Err, IsSomeAnd, MatchOption, inl, inr, refl, sym, ap, subst, ◌∙◌, arith}
use Rattle.std.specs.Prelude.{codes, is_none, is_some}
use Rattle.std.specs.List.{slice_get}
use Rattle.std.specs.Option.{option_and_then}
use Rattle.std.specs.Result.{result_ok}
use Rattle.std.specs.Str.{bytes_eq}
use Rattle.std.proofs.lemmas.Bool.{cases_Bool, eq-eqb, eqb-true, false≢true, lt-ltb, ltb-true, true≢false}
use Rattle.toml.specs.Data.{Data, Members, as_integer, as_str, as_table, get_member}
use Rattle.toml_reading.specs.Documents.{is_one_of, items_at}
use Rattle.toml_reading.specs.Lowest.{AtKey, IsNumber, IsOutside, NameFault, NumberFault}
use Rattle.toml_reading.specs.Readings.{pair}
use Rattle.toml_reading.proofs.LowestLemmas.{AnswersBy, one_by_rank, pair_judged}
use Rattle.toml_reading.proofs.LowestParts.{number_in_judged}
use Rattle.machine_file.specs.MachinePlaceTests.{holds_of, is_outside}
use Rattle.machine_file.specs.declared.spots.Part.{Part}
use Rattle.machine_file.specs.declared.spots.Part.TheVariants.{Unknown, Value, Missing}
use Rattle.machine_file.proofs.PlaceLemmas.{bytes_is, in_line, never, outside_is, three}
use Rattle.given_facts.proofs.RepeatLemmas.{repeat_is}
use Rattle.given_facts.proofs.TestLemmas.{and_is, by_way, holds_inside, holds_is, none_is, not_is, same_test}
use Rattle.given_facts.specs.GivenFaults.{given_faults, number_of}
use Rattle.given_facts.specs.GivenFile.{Read, fact_keys, file_keys, named_register, word_in}
use Rattle.given_facts.specs.GivenPlaces.{IsDisordered, IsGivenFaultAt, PartFault, ValueFault, entries, number_in}
use Rattle.given_facts.specs.GivenPlaceTests.{entry_at, found, has_unknown, is_disordered, is_no_word, is_same, names_none, number_gives, part_gives, takes, value_gives}
use Rattle.given_facts.specs.declared.faults.GivenFault.{GivenFault}
use Rattle.given_facts.specs.declared.faults.GivenFault.TheVariants.{Memory, NotToml, UnknownKey, WrongKind, OutOfRange, Twice}
use Rattle.given_facts.specs.declared.spots.GivenSpot.{GivenSpot}
use Rattle.given_facts.specs.declared.spots.GivenSpot.TheVariants as spot

-- ## Faults

abbrev fault_at : ℕ → GivenFault
fault_at n = get_or (Memory ∷ Memory ∷ NotToml ∷ UnknownKey ∷ WrongKind ∷ OutOfRange ∷ Twice ∷ []) n Memory

at_rank : (f : GivenFault) → fault_at (number_of f) ≡ f
at_rank Memory = refl
at_rank _ = refl

-- no two faults have one number
pub one_rank : (f g : GivenFault) → number_of f ≡ number_of g → f ≡ g
one_rank = one_by_rank given_faults fault_at at_rank

same_is : (g f : GivenFault) → is_same g f ≡ true ↔ (f ≡ g)
same_is g f = (
  λ e. one_rank f g (sym (eqb-true (number_of g) (number_of f) e)),
  λ e. eq-eqb (number_of g) (number_of f) (ap number_of (sym e)),
)

-- a test beside a fault
module _ (g f : GivenFault) (b : Bool) (P : Type 0) (is : b ≡ true ↔ P) where
  beside : (is_same g f && b) ≡ true ↔ (P × (f ≡ g))
  beside =
      let both = and_is (is_same g f) b (same_is g f) is in
      (λ e. let h = both.0 e in (h.1, h.0), λ h. both.1 (h.1, h.0))

-- ## Values

unlike : (f g : GivenFault) → (number_of f ≡ number_of g → ⊥) → f ≡ g → ⊥
unlike f g other e = other (ap number_of e)

abbrev WordFault : GivenFault → Data → Type 0
WordFault f d = NumberFault given_faults (2 ^ 32 - 1) d f

kind_is : (o : Option _) (f : GivenFault) → f ≡ WrongKind
    → is_none o ≡ true ↔ MatchOption o (f ≡ WrongKind) (λ z. IsOutside (2 ^ 32 - 1) z × (f ≡ OutOfRange))
kind_is None f e = (λ _. e, λ _. refl)
kind_is (Some z) f e =
    (λ t. absurd (false≢true t), λ h. absurd (unlike WrongKind OutOfRange (λ n. omega (arith, n)) (sym e ∙ h.1)))

range_is : (o : Option _) (f : GivenFault) → f ≡ OutOfRange
    → holds_of (is_outside (2 ^ 32 - 1)) o ≡ true
    ↔ MatchOption o (f ≡ WrongKind) (λ z. IsOutside (2 ^ 32 - 1) z × (f ≡ OutOfRange))
range_is None f e = never (λ h. unlike WrongKind OutOfRange (λ n. omega (arith, n)) (sym h ∙ e))
range_is (Some z) f e = let is = outside_is (2 ^ 32 - 1) z in (λ t. (is.0 t, e), λ h. is.1 h.0)

none_of : (o : Option _) (f : GivenFault) → (f ≡ WrongKind → ⊥) → (f ≡ OutOfRange → ⊥)
    → MatchOption o (f ≡ WrongKind) (λ z. IsOutside (2 ^ 32 - 1) z × (f ≡ OutOfRange)) → ⊥
none_of None f kind range h = kind h
none_of (Some z) f kind range h = range h.1

word_is : (f : GivenFault) (d : Data) → number_gives f d ≡ true ↔ WordFault f d
word_is WrongKind d = kind_is (as_integer d) WrongKind refl
word_is OutOfRange d = range_is (as_integer d) OutOfRange refl
word_is Memory d =
    never (none_of (as_integer d) Memory (unlike Memory WrongKind (λ e. omega (arith, e))) (unlike Memory OutOfRange (λ e. omega (arith, e))))
word_is NotToml d =
    never (none_of (as_integer d) NotToml (unlike NotToml WrongKind (λ e. omega (arith, e))) (unlike NotToml OutOfRange (λ e. omega (arith, e))))
word_is UnknownKey d =
    never (none_of (as_integer d) UnknownKey (unlike UnknownKey WrongKind (λ e. omega (arith, e))) (unlike UnknownKey OutOfRange (λ e. omega (arith, e))))
word_is Twice d =
    never (none_of (as_integer d) Twice (unlike Twice WrongKind (λ e. omega (arith, e))) (unlike Twice OutOfRange (λ e. omega (arith, e))))

name_is : (f : GivenFault) (d : Data) → (is_same WrongKind f && names_none d) ≡ true ↔ NameFault given_faults named_register d f
name_is f d = beside WrongKind f (names_none d) _ (none_is (option_and_then named_register (as_str d)))

-- one of two by a test
module _ (b t u : Bool) (P A B : Type 0) (test : b ≡ true ↔ P) (yes : t ≡ true ↔ A) (no : u ≡ true ↔ B) where
  chosen_is : cond b t u ≡ true ↔ ((P × A) ⊎ ((P → ⊥) × B))
  chosen_is = elim (cases_Bool b) [
    | inl is ↦ let p = test.0 is in rw is (
      λ e. inl (p, yes.0 e),
      λ h. elim h [ inl x ↦ yes.1 x.1 | inr y ↦ absurd (y.0 p) ],
    )
    | inr is ↦ let p : P → ⊥ = λ h. true≢false (sym (test.1 h) ∙ is) in rw is (
      λ e. inr (p, no.0 e),
      λ h. elim h [ inl x ↦ absurd (p x.0) | inr y ↦ no.1 y.1 ],
    )
  ]

value_is : (key : List ℕ) (f : GivenFault) (d : Data) → value_gives key f d ≡ true ↔ ValueFault key f d
value_is key f d =
    chosen_is (bytes_eq key (codes "register")) (is_same WrongKind f && names_none d) (number_gives f d) _ _ _
    (bytes_is key (codes "register")) (name_is f d) (word_is f d)

-- ## Keys

unknown_is : (keys : List (List ℕ)) (key : List ℕ) (ms : Members) (f : GivenFault)
    → (is_same UnknownKey f && has_unknown keys key ms) ≡ true
    ↔ ((is_some (get_member key ms) ≡ true) × (is_one_of keys key ≡ false) × (f ≡ UnknownKey))
unknown_is keys key ms f =
    let b = is_one_of keys key in
    let there = is_some (get_member key ms) in
    by_way
    (beside UnknownKey f (there && not b) ((there ≡ true) × (b ≡ false)) (and_is there (not b) (same_test there) (not_is b)))
    three

part_is : (part : Part) (ms : Members) (f : GivenFault) → part_gives part ms f ≡ true ↔ PartFault part ms f
part_is (Unknown key) ms f = unknown_is (fact_keys ms) key.now ms f
part_is (Value key) ms f =
    and_is (takes ms key.now) _ (same_test (takes ms key.now))
    (holds_is (value_gives key.now f) (ValueFault key.now f) (value_is key.now f) (get_member key.now ms))
part_is (Missing key) ms f =
    let taken = takes ms key.now in
    let none = is_none (get_member key.now ms) in
    by_way
    (beside WrongKind f (taken && none) _ (and_is taken none (same_test taken) (none_is (get_member key.now ms))))
    three

-- ## The words of a range

module _ (S T : ℕ → Type 0) (H : GivenFault → Type 0) where
  ends_by : (r : Read (ℕ × ℕ)) → AnswersBy given_faults (λ p. S p.0 × T p.1) H r
      → holds_of (λ p. ltb p.1 p.0) (result_ok r) ≡ true ↔ ((low high : ℕ) × S low × T high × (high < low))
  ends_by (Ok p) h = (
    λ e. (p.0, p.1, h.0.stated.0, h.0.stated.1, ltb-true p.1 p.0 e),
    λ k. let same : (k.0, k.1) ≡ p = h.0.only (k.0, k.1) (k.2, k.3) in
        lt-ltb p.1 p.0 (subst (λ (q : ℕ × ℕ). q.1 < q.0) same k.4),
  )
  ends_by (Err g) h = never (λ k. h.0 (k.0, k.1) (k.2, k.3))

disordered_is : (ms : Members) → is_disordered ms ≡ true ↔ IsDisordered ms
disordered_is ms =
    ends_by
    (λ n. AtKey (codes "from") ms (λ d. IsNumber (2 ^ 32 - 1) d n))
    (λ n. AtKey (codes "to") ms (λ d. IsNumber (2 ^ 32 - 1) d n))
    _
    (pair given_faults (word_in (codes "from") ms) (word_in (codes "to") ms))
    (pair_judged given_faults _ _ _ _ _ _
    (number_in_judged given_faults (2 ^ 32 - 1) (codes "from") ms)
    (number_in_judged given_faults (2 ^ 32 - 1) (codes "to") ms)).answers

-- ## Spots

pub found_is : (ms : Members) (s : GivenSpot) (f : GivenFault) → found ms s f ≡ true ↔ IsGivenFaultAt ms s f
found_is ms (spot.Unknown key) f = unknown_is file_keys key.now ms f
found_is ms spot.NoList f =
    beside WrongKind f _ _
    (holds_is (λ d. is_none (items_at d)) (λ d. items_at d ≡ None) (λ d. none_is (items_at d)) (get_member (codes "given") ms))
found_is ms (spot.NoTable n) f =
    beside WrongKind f _ _
    (holds_is (λ d. is_none (as_table d)) (λ d. as_table d ≡ None) (λ d. none_is (as_table d)) (entry_at n ms))
found_is ms (spot.Fact n part) f =
    holds_inside as_table (λ t. part_gives part t f) (λ t. PartFault part t f) (λ t. part_is part t f) (entry_at n ms)
found_is ms (spot.Disordered n) f =
    beside OutOfRange f _ _ (holds_inside as_table is_disordered IsDisordered disordered_is (entry_at n ms))
found_is ms (spot.Second n) f = beside Twice f _ _ (repeat_is number_in (entries ms) n)
