-- What is tested at a spot of a cycle profile, against the fault that the document has there.
use Rattle.std.proofs.Common.{◌≡◌, ◌≢◌, ℕ, ◌<◌, ◌-◌, ◌^◌, ◌↔◌, Bool, true, false, not, ◌&&◌, ◌||◌, eqb, leb, ltb, List, [], ◌∷◌, length, take, slice_index, Option, Some, None, Ok, Err, IsSomeAnd, MatchOption, inl, inr, refl, sym, ap, subst, ◌∙◌, arith, option_map}
use Rattle.std.specs.Prelude.{⊤, is_none, is_some}
use Rattle.std.specs.List.{slice_get}
use Rattle.std.specs.Option.{option_and_then}
use Rattle.std.specs.Result.{result_ok}
use Rattle.std.proofs.lemmas.Bool.{eq-eqb, eqb-true, lt-ltb, ltb-true}
use Rattle.toml.specs.Data.{Data, Members, as_integer, get_member}
use Rattle.bus_ticks.specs.Ranges.{IsPrice, device_number, rom_number}
use Rattle.toml_reading.specs.Documents.{is_one_of, items_at}
use Rattle.toml_reading.specs.Lowest.{IsOutside}
use Rattle.toml_reading.proofs.LowestLemmas.{AnswersBy}
use Rattle.machine_file.specs.MachinePlaceTests.{holds_of, is_outside}
use Rattle.machine_file.specs.ProfileFaults.{number_of, profile_faults}
use Rattle.machine_file.specs.ProfileFile.{Parts, Read, joined, parts_in, profile_keys}
use Rattle.machine_file.specs.ProfilePlaces.{IsDearer, IsNoPrice, IsNotFour, IsProfileFaultAt, OfNumbers, PartFault, PriceFault, ValueFault, price_key}
use Rattle.machine_file.specs.ProfilePlaceTests.{are_not_four, found, is_dearer, is_no_price, is_not_four, is_other_number, is_out_of_range, is_same, part_gives, price_gives, stated_numbers, value_gives}
use Rattle.machine_file.specs.ProfileRules.{IsOtherNumber, StatesNumbers, list_keys, number_keys}
use Rattle.machine_file.specs.declared.profile_faults.ProfileFileFault.{ProfileFileFault}
use Rattle.machine_file.specs.declared.profile_faults.ProfileFileFault.TheVariants.{Memory, NotToml, UnknownKey, WrongKind, OutOfRange, Disordered}
use Rattle.machine_file.specs.declared.spots.Part.{Part}
use Rattle.machine_file.specs.declared.spots.Part.TheVariants.{Unknown, Value, Missing}
use Rattle.machine_file.specs.declared.spots.PriceOrder.{PriceOrder}
use Rattle.machine_file.specs.declared.spots.PriceOrder.TheVariants.{SByQuad, QuadByN, NByDevices, RomByDevices, ControlByDevices}
use Rattle.machine_file.specs.declared.spots.ProfileSpot.{ProfileSpot}
use Rattle.machine_file.specs.declared.spots.ProfileSpot.TheVariants as spot
use Rattle.machine_file.proofs.PlaceLemmas.{in_line, le_is, never, outside_is, three}
use Rattle.machine_file.proofs.PriceFaults.{PriceFault as KeysPriceFault}
use Rattle.machine_file.proofs.ProfileRuleLemmas.{one_rank, parts_judged}
use Rattle.machine_file.proofs.TestLemmas.{and_is, by_way, holds_inside, holds_is, none_is, not_is, or_is, same_test, unmet_is}

-- ## Faults

same_is : (g f : ProfileFileFault) → is_same g f ≡ true ↔ (f ≡ g)
same_is g f = (
  λ e. one_rank f g (sym (eqb-true (number_of g) (number_of f) e)),
  λ e. eq-eqb (number_of g) (number_of f) (ap number_of (sym e)),
)

-- a test beside a fault
module _ (g f : ProfileFileFault) (b : Bool) (P : Type 0) (is : b ≡ true ↔ P) where
  beside : (is_same g f && b) ≡ true ↔ (P × (f ≡ g))
  beside =
      let both = and_is (is_same g f) b (same_is g f) is in
      (λ e. let h = both.0 e in (h.1, h.0), λ h. both.1 (h.1, h.0))

-- ## Keys

number_is : (d : Data) → is_other_number d ≡ true ↔ IsOtherNumber d
number_is d = holds_is (is_outside (2 ^ 32 - 1)) (IsOutside (2 ^ 32 - 1)) (outside_is (2 ^ 32 - 1)) (as_integer d)

neither : (f : ProfileFileFault) (d : Data) → (f ≡ WrongKind → ⊥) → (f ≡ OutOfRange → ⊥) → false ≡ true ↔ PriceFault f d
neither f d kind range = never (λ h. elim h [ inl x ↦ kind x.1 | inr x ↦ range x.1 ])

unlike : (f g : ProfileFileFault) → (number_of f ≡ number_of g → ⊥) → f ≡ g → ⊥
unlike f g other e = other (ap number_of e)

price_is : (f : ProfileFileFault) (d : Data) → price_gives f d ≡ true ↔ PriceFault f d
price_is WrongKind d =
    let is = none_is (as_integer d) in (
      λ e. inl (is.0 e, refl),
      λ h. elim h [ inl x ↦ is.1 x.0 | inr x ↦ absurd (unlike WrongKind OutOfRange (λ e. omega (arith, e)) x.1) ],
    )
price_is OutOfRange d =
    let is = number_is d in (
      λ e. inr (is.0 e, refl),
      λ h. elim h [ inl x ↦ absurd (unlike OutOfRange WrongKind (λ e. omega (arith, e)) x.1) | inr x ↦ is.1 x.0 ],
    )
price_is Memory d =
    neither Memory d (unlike Memory WrongKind (λ e. omega (arith, e))) (unlike Memory OutOfRange (λ e. omega (arith, e)))
price_is NotToml d =
    neither NotToml d (unlike NotToml WrongKind (λ e. omega (arith, e))) (unlike NotToml OutOfRange (λ e. omega (arith, e)))
price_is UnknownKey d =
    neither UnknownKey d (unlike UnknownKey WrongKind (λ e. omega (arith, e))) (unlike UnknownKey OutOfRange (λ e. omega (arith, e)))
price_is Disordered d =
    neither Disordered d (unlike Disordered WrongKind (λ e. omega (arith, e))) (unlike Disordered OutOfRange (λ e. omega (arith, e)))

equal_is : (m n : ℕ) → eqb m n ≡ true ↔ (m ≡ n)
equal_is m n = (λ e. eqb-true m n e, λ e. eq-eqb m n e)

less_is : (m n : ℕ) → ltb m n ≡ true ↔ (m < n)
less_is m n = (λ e. ltb-true m n e, λ h. lt-ltb m n h)

four_is : (o : Option (List Data)) → are_not_four o ≡ true ↔ MatchOption o ⊤ (λ ds. length ds ≢ 4)
four_is None = (λ e. tt, λ h. refl)
four_is (Some ds) = unmet_is (eqb (length ds) 4) (equal_is (length ds) 4)

value_is : (key : List ℕ) (f : ProfileFileFault) (d : Data) → value_gives key f d ≡ true ↔ ValueFault key f d
value_is key f d =
    or_is _ _
    (and_is (is_one_of number_keys key) (price_gives f d) (same_test (is_one_of number_keys key)) (price_is f d))
    (by_way
    (and_is (is_one_of list_keys key) (is_same WrongKind f && is_not_four d) (same_test (is_one_of list_keys key))
    (beside WrongKind f (is_not_four d) (IsNotFour d) (four_is (items_at d))))
    in_line)

part_is : (part : Part) (ms : Members) (f : ProfileFileFault) → part_gives part ms f ≡ true ↔ PartFault part ms f
part_is (Unknown key) ms f =
    let b = is_one_of profile_keys key.now in
    let there = is_some (get_member key.now ms) in
    by_way
    (beside UnknownKey f (there && not b) ((there ≡ true) × (b ≡ false)) (and_is there (not b) (same_test there) (not_is b)))
    three
part_is (Value key) ms f = holds_is (value_gives key.now f) (ValueFault key.now f) (value_is key.now f) (get_member key.now ms)
part_is (Missing key) ms f =
    let number = is_one_of number_keys key.now in
    let list = is_one_of list_keys key.now in
    let none = is_none (get_member key.now ms) in
    by_way
    (beside WrongKind f ((number || list) && none) _
    (and_is (number || list) none (or_is number list (same_test number) (same_test list)) (none_is (get_member key.now ms))))
    three

-- ## Prices

in_item : (i : ℕ) (f : ProfileFileFault) (o : Option Data)
    → holds_of (price_gives f) (option_and_then (λ ds. slice_get ds i) (option_and_then items_at o)) ≡ true
    ↔ IsSomeAnd o (λ d. IsSomeAnd (items_at d) (λ ds. IsSomeAnd (slice_get ds i) (PriceFault f)))
in_item i f None = never (λ h. h)
in_item i f (Some d) = holds_inside (λ ds. slice_get ds i) (price_gives f) (PriceFault f) (price_is f) (items_at d)

parts_of : (ms : Members) (ns : List ℕ) → StatesNumbers ms ns → (p : Parts) × StatesNumbers ms (joined p) × (ns ≡ joined p)
parts_of ms (n ∷ s ∷ quad ∷ rom_0 ∷ rom_1 ∷ rom_2 ∷ rom_3 ∷ slow ∷ medium ∷ fast ∷ synchronous ∷ control ∷ unfitted ∷ internal ∷ burst ∷ []) t =
    ((((n, (s, quad)), (((rom_0, rom_1), (rom_2, rom_3)), ((slow, medium), (fast, synchronous)))), ((control, unfitted), (internal, burst))), t, refl)
parts_of ms _ t = absurd t

module _ (ms : Members) (test : List ℕ → Bool) (P : List ℕ → Type 0) (each : (ns : List ℕ) → test ns ≡ true ↔ P ns) where
  numbers_by :
      (H : ProfileFileFault → Type 0) (r : Read Parts)
      → AnswersBy profile_faults (λ p. StatesNumbers ms (joined p)) H r
      → holds_of test (option_map joined (result_ok r)) ≡ true ↔ OfNumbers ms P
  numbers_by H (Ok p) h = (
    λ e. (joined p, h.0.stated, (each (joined p)).0 e),
    λ k. let q = parts_of ms k.0 k.1 in
        (each (joined p)).1 (subst (λ (ns : List ℕ). P ns) (q.2 ∙ ap joined (h.0.only q.0 q.1)) k.2),
  )
  numbers_by H (Err g) h = never (λ k. let q = parts_of ms k.0 k.1 in h.0 q.0 q.1)

  numbers_is : holds_of test (stated_numbers ms) ≡ true ↔ OfNumbers ms P
  numbers_is = numbers_by (KeysPriceFault ms) (parts_in ms) (parts_judged ms).answers

no_price_is : (ticks : ℕ) → is_no_price ticks ≡ true ↔ (¬ IsPrice ticks)
no_price_is ticks =
    unmet_is (leb 1 ticks && ltb ticks 256) (and_is (leb 1 ticks) (ltb ticks 256) (le_is 1 ticks) (less_is ticks 256))

range_is : (i : ℕ) (ns : List ℕ) → is_out_of_range i ns ≡ true ↔ IsNoPrice i ns
range_is i ns =
    or_is _ _
    (holds_is is_no_price (λ ticks. ¬ IsPrice ticks) no_price_is (slice_get (take 14 ns) i))
    (and_is (eqb i 14) _ (equal_is i 14) (unmet_is (ltb (slice_index ns 14) 256) (less_is (slice_index ns 14) 256)))

dearer_is : (order : PriceOrder) (ns : List ℕ) → is_dearer order ns ≡ true ↔ IsDearer order ns
dearer_is SByQuad ns = less_is (slice_index ns 2) (slice_index ns 1)
dearer_is QuadByN ns = less_is (slice_index ns 0) (slice_index ns 2)
dearer_is NByDevices ns = less_is (device_number ns) (slice_index ns 0)
dearer_is RomByDevices ns = less_is (device_number ns) (rom_number ns)
dearer_is ControlByDevices ns = less_is (device_number ns) (slice_index ns 11)

-- ## Spots

pub found_is : (ms : Members) (s : ProfileSpot) (f : ProfileFileFault) → found ms s f ≡ true ↔ IsProfileFaultAt ms s f
found_is ms (spot.Own part) f = part_is part ms f
found_is ms (spot.Item list i) f = in_item i f (get_member (price_key list) ms)
found_is ms (spot.Price i) f =
    beside OutOfRange f (holds_of (is_out_of_range i) (stated_numbers ms)) (OfNumbers ms (IsNoPrice i)) (numbers_is ms (is_out_of_range i) (IsNoPrice i) (range_is i))
found_is ms (spot.Disordered order) f =
    beside Disordered f (holds_of (is_dearer order) (stated_numbers ms)) (OfNumbers ms (IsDearer order)) (numbers_is ms (is_dearer order) (IsDearer order) (dearer_is order))
