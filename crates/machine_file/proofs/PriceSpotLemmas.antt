-- A cycle profile's document has a fault exactly where some spot has it.
use Rattle.std.proofs.Common.{◌≡◌, ◌≢◌, ℕ, zero, suc, ◌≤◌, ◌<◌, ◌⊎◌, true, List, [], ◌∷◌, length, take, slice_index, All, Option, Some, None, IsSomeAnd, MatchOption, Any, inl, inr, refl, sym, subst, arith}
use Rattle.std.specs.Prelude.{⊤}
use Rattle.std.specs.Borrow.{Bor}
use Rattle.std.specs.List.{slice_get}
use Rattle.std.proofs.lemmas.Bool.{cases_lt}
use Rattle.std.proofs.lemmas.List.Elements.{All-cons, All-head, All-nil, All-tail}
use Rattle.std.specs.Str.{bytes_eq}
use Rattle.toml.specs.Data.{Data, Members, get_member}
use Rattle.bus_ticks.specs.Ranges.{AreInRange, AreOrdered, IsPrice, device_number, rom_number}
use Rattle.toml_reading.specs.Documents.{is_one_of, items_at}
use Rattle.toml_reading.specs.Lowest.{AtKey}
use Rattle.toml_reading.proofs.LowestParts.{any_one_of, some_weaker}
use Rattle.machine_file.specs.ProfileFile.{profile_keys}
use Rattle.machine_file.specs.ProfilePlaces.{IsDearer, IsNoPrice, IsProfileFaultAt, PartFault, PriceFault, TakesFour, ValueFault, price_key}
use Rattle.machine_file.specs.ProfileRules.{AreNotFour, HasOtherNumber, HasProfileFault, HasWrongKind, IsNoNumber, IsOtherNumber, list_keys, number_keys}
use Rattle.machine_file.specs.declared.profile_faults.ProfileFileFault.{ProfileFileFault}
use Rattle.machine_file.specs.declared.profile_faults.ProfileFileFault.TheVariants.{WrongKind, OutOfRange}
use Rattle.machine_file.specs.declared.spots.Part.{Part}
use Rattle.machine_file.specs.declared.spots.Part.TheVariants.{Unknown, Value, Missing}
use Rattle.machine_file.specs.declared.spots.PriceList.{PriceList}
use Rattle.machine_file.specs.declared.spots.PriceList.TheVariants.{Rom, Io}
use Rattle.machine_file.specs.declared.spots.PriceOrder.{PriceOrder}
use Rattle.machine_file.specs.declared.spots.PriceOrder.TheVariants.{SByQuad, QuadByN, NByDevices, RomByDevices, ControlByDevices}
use Rattle.machine_file.specs.declared.spots.ProfileSpot.{ProfileSpot}
use Rattle.machine_file.specs.declared.spots.ProfileSpot.TheVariants as spot
use Rattle.machine_file.proofs.FaultTableLemmas.{any_map}
use Rattle.machine_file.proofs.PlaceLemmas.{bytes_is}
use Rattle.machine_file.proofs.TestLemmas.{any_index, in_some, index_any, list_any_is, of_some, of_unknown, unknown_of}

-- ## Keys of a list of keys

one_of : (keys : List (List ℕ)) (P : List ℕ → Type 0) (h : Any P keys) → is_one_of keys h.1 ≡ true
one_of keys P h =
    (list_any_is (λ key. bytes_eq key h.1) (λ key. key ≡ h.1) (λ key. bytes_is key h.1) keys).1 (h.0, h.1, h.2, h.3, refl)

of_one : (keys : List (List ℕ)) (P : List ℕ → Type 0) (k : List ℕ) → is_one_of keys k ≡ true → P k → Any P keys
of_one keys P k e p =
    any_map (λ key. key ≡ k) P (λ key same. subst P (sym same) p) keys
    ((list_any_is (λ key. bytes_eq key k) (λ key. key ≡ k) (λ key. bytes_is key k) keys).0 e)

-- ## Numbers

priced_or_not : (ticks : ℕ) → IsPrice ticks ⊎ (¬ IsPrice ticks)
priced_or_not ticks = elim (cases_lt 0 ticks) [
  | inl some ↦ elim (cases_lt ticks 256) [
    | inl low ↦ inl (some, low)
    | inr high ↦ inr (λ p. let low = p.1 in absurd (omega (arith, low, high)))
  ]
  | inr none ↦ inr (λ p. let some = p.0 in absurd (omega (arith, some, none)))
]

prices_or_not : (xs : List ℕ) → All IsPrice xs ⊎ ((i : ℕ) × IsSomeAnd (slice_get xs i) (λ ticks. ¬ IsPrice ticks))
prices_or_not [] = inl (All-nil IsPrice)
prices_or_not (x ∷ xs) = elim (priced_or_not x) [
  | inl p ↦ elim (prices_or_not xs) [ inl all ↦ inl (All-cons IsPrice x xs p all) | inr at ↦ inr (suc at.0, at.1) ]
  | inr n ↦ inr (zero, n)
]

all_priced : (xs : List ℕ) → All IsPrice xs → (i : ℕ) → IsSomeAnd (slice_get xs i) (λ ticks. ¬ IsPrice ticks) → ⊥
all_priced [] all i h = h
all_priced (x ∷ xs) all zero h = h (All-head IsPrice x xs all)
all_priced (x ∷ xs) all (suc i) h = all_priced xs (All-tail IsPrice x xs all) i h

no_price : (ns : List ℕ) → ¬ AreInRange ns → (i : ℕ) × IsNoPrice i ns
no_price ns unfit = elim (prices_or_not (take 14 ns)) [
  | inl all ↦ (14, inr (refl, λ low. unfit (record { prices = all; burst = low })))
  | inr at ↦ (at.0, inl at.1)
]

out_of_range : (i : ℕ) (ns : List ℕ) → IsNoPrice i ns → ¬ AreInRange ns
out_of_range i ns (inl h) fit = all_priced (take 14 ns) fit.prices i h
out_of_range i ns (inr h) fit = h.1 fit.burst

dearer : (ns : List ℕ) → ¬ AreOrdered ns → (order : PriceOrder) × IsDearer order ns
dearer ns unfit = elim (cases_lt (slice_index ns 2) (slice_index ns 1)) [
  | inl h ↦ (SByQuad, h)
  | inr s ↦ elim (cases_lt (slice_index ns 0) (slice_index ns 2)) [
    | inl h ↦ (QuadByN, h)
    | inr quad ↦ elim (cases_lt (device_number ns) (slice_index ns 0)) [
      | inl h ↦ (NByDevices, h)
      | inr n ↦ elim (cases_lt (device_number ns) (rom_number ns)) [
        | inl h ↦ (RomByDevices, h)
        | inr rom ↦ elim (cases_lt (device_number ns) (slice_index ns 11)) [
          | inl h ↦ (ControlByDevices, h)
          | inr control ↦ absurd (unfit (record { s_first = s; quad_second = quad; n_below = n; rom_below = rom; control_below = control }))
        ]
      ]
    ]
  ]
]

not_above : (m n : ℕ) → m < n → n ≤ m → ⊥
not_above m n low high = absurd (omega (arith, low, high))

disordered : (order : PriceOrder) (ns : List ℕ) → IsDearer order ns → ¬ AreOrdered ns
disordered SByQuad ns h fit = not_above (slice_index ns 2) (slice_index ns 1) h fit.s_first
disordered QuadByN ns h fit = not_above (slice_index ns 0) (slice_index ns 2) h fit.quad_second
disordered NByDevices ns h fit = not_above (device_number ns) (slice_index ns 0) h fit.n_below
disordered RomByDevices ns h fit = not_above (device_number ns) (rom_number ns) h fit.rom_below
disordered ControlByDevices ns h fit = not_above (device_number ns) (slice_index ns 11) h fit.control_below

-- ## Lists

takes_four : (list : PriceList) → TakesFour (price_key list)
takes_four Rom = refl
takes_four Io = refl

-- that of one of the two lists
list_of : (P : List ℕ → Type 0) → Any P list_keys → (list : PriceList) × P (price_key list)
list_of P h = elim ((any_one_of P list_keys).1 h) [
  | inl rom ↦ (Rom, rom)
  | inr later ↦ elim later [ inl io ↦ (Io, io) | inr none ↦ absurd none ]
]

module _ (ms : Members) (f : ProfileFileFault) where
  abbrev SpotOf : Type 0
  SpotOf = (s : ProfileSpot) × IsProfileFaultAt ms s f

  lent : List ℕ → Bor (List ℕ)
  lent w = record { ref_ptr = (0, 0); now = w }

  -- ## To a spot

  missing : (key : List ℕ) → (is_one_of number_keys key ≡ true) ⊎ (is_one_of list_keys key ≡ true) → get_member key ms ≡ None → f ≡ WrongKind → SpotOf
  unfolding lent
  missing key one none e = (spot.Own (Missing (lent key)), (one, none, e))

  number_spot : (P : Data → Type 0) → ((d : Data) → P d → PriceFault f d) → Any (λ key. AtKey key ms P) number_keys → SpotOf
  unfolding lent
  number_spot P each h =
      (spot.Own (Value (lent h.1)), some_weaker P (ValueFault h.1 f) (λ d p. inl (one_of number_keys (λ key. AtKey key ms P) h, each d p)) (get_member h.1 ms) h.4)

  item_spot : (list : PriceList) (P : Data → Type 0) → ((d : Data) → P d → PriceFault f d) → AtKey (price_key list) ms (λ d. IsSomeAnd (items_at d) (Any P)) → SpotOf
  item_spot list P each h =
      let d = in_some (λ d. IsSomeAnd (items_at d) (Any P)) (get_member (price_key list) ms) h in
      let ds = in_some (Any P) (items_at d.0) d.2 in
      let at = any_index P ds.0 ds.2 in (
        spot.Item list at.0,
        of_some (λ d. IsSomeAnd (items_at d) (λ es. IsSomeAnd (slice_get es at.0) (PriceFault f))) (get_member (price_key list) ms) d.0 d.1
            (of_some (λ es. IsSomeAnd (slice_get es at.0) (PriceFault f)) (items_at d.0) ds.0 ds.1
            (some_weaker P (PriceFault f) each (slice_get ds.0 at.0) at.1)),
      )

  -- no list of four, or a value in it that is no number
  four_cases : (o : Option (List Data)) → MatchOption o ⊤ (λ ds. (length ds ≢ 4) ⊎ Any IsNoNumber ds) → MatchOption o ⊤ (λ ds. length ds ≢ 4) ⊎ IsSomeAnd o (Any IsNoNumber)
  four_cases None h = inl h
  four_cases (Some ds) h = h

  four_spot : (list : PriceList) → f ≡ WrongKind → AtKey (price_key list) ms AreNotFour → SpotOf
  unfolding lent
  four_spot list e h =
      let d = in_some AreNotFour (get_member (price_key list) ms) h in
      elim (four_cases (items_at d.0) d.2) [
        | inl other ↦ (spot.Own (Value (lent (price_key list))), of_some (ValueFault (price_key list) f) (get_member (price_key list) ms) d.0 d.1 (inr (takes_four list, other, e)))
        | inr any ↦ item_spot list IsNoNumber (λ d p. inl (p, e)) (of_some (λ d. IsSomeAnd (items_at d) (Any IsNoNumber)) (get_member (price_key list) ms) d.0 d.1 any)
      ]

  kind_spot : f ≡ WrongKind → HasWrongKind ms → SpotOf
  kind_spot e (inl (inl h)) = missing h.1 (inl (one_of number_keys _ h)) h.4 e
  kind_spot e (inl (inr h)) = missing h.1 (inr (one_of list_keys _ h)) h.4 e
  kind_spot e (inr (inl h)) = number_spot IsNoNumber (λ d p. inl (p, e)) h
  kind_spot e (inr (inr h)) = let list = list_of (λ key. AtKey key ms AreNotFour) h in four_spot list.0 e list.1

  range_spot : f ≡ OutOfRange → HasOtherNumber ms → SpotOf
  range_spot e (inl h) = number_spot IsOtherNumber (λ d p. inr (p, e)) h
  range_spot e (inr h) =
      let list = list_of (λ key. AtKey key ms (λ d. IsSomeAnd (items_at d) (Any IsOtherNumber))) h in
      item_spot list.0 IsOtherNumber (λ d p. inr (p, e)) list.1

  -- a fault has a spot
  pub fault_spot : HasProfileFault ms f → SpotOf
  unfolding lent
  fault_spot (inl h) =
      let u = unknown_of profile_keys ms h.0 in (spot.Own (Unknown (lent u.0)), (u.1, u.2, h.1))
  fault_spot (inr (inl h)) = kind_spot h.1 h.0
  fault_spot (inr (inr (inl h))) = elim h.0 [
    | inl other ↦ range_spot h.1 other
    | inr unfit ↦ let at = no_price unfit.0 unfit.2 in (spot.Price at.0, ((unfit.0, unfit.1, at.1), h.1))
  ]
  fault_spot (inr (inr (inr h))) =
      let unfit = h.0 in let order = dearer unfit.0 unfit.2 in (spot.Disordered order.0, ((unfit.0, unfit.1, order.1), h.1))

  -- ## From a spot

  in_list : (P : List ℕ → Type 0) (list : PriceList) → P (price_key list) → Any P list_keys
  in_list P list p = of_one list_keys P (price_key list) (takes_four list) p

  number_fault : (key : List ℕ) (d : Data) → is_one_of number_keys key ≡ true → get_member key ms ≡ Some d → PriceFault f d → HasProfileFault ms f
  number_fault key d one at (inl h) =
      inr (inl (inr (inl (of_one number_keys (λ k. AtKey k ms IsNoNumber) key one (of_some IsNoNumber (get_member key ms) d at h.0))), h.1))
  number_fault key d one at (inr h) =
      inr (inr (inl (inl (inl (of_one number_keys (λ k. AtKey k ms IsOtherNumber) key one (of_some IsOtherNumber (get_member key ms) d at h.0))), h.1)))

  not_four : (o : Option (List Data)) → MatchOption o ⊤ (λ ds. length ds ≢ 4) → MatchOption o ⊤ (λ ds. (length ds ≢ 4) ⊎ Any IsNoNumber ds)
  not_four None h = h
  not_four (Some ds) h = inl h

  no_number : (o : Option (List Data)) (ds : List Data) → o ≡ Some ds → Any IsNoNumber ds → MatchOption o ⊤ (λ es. (length es ≢ 4) ⊎ Any IsNoNumber es)
  no_number o ds is h = subst (λ (p : Option (List Data)). MatchOption p ⊤ (λ es. (length es ≢ 4) ⊎ Any IsNoNumber es)) (sym is) (inr h)

  list_fault : (key : List ℕ) → is_one_of list_keys key ≡ true → AtKey key ms AreNotFour → f ≡ WrongKind → HasProfileFault ms f
  list_fault key one h e = inr (inl (inr (inr (of_one list_keys (λ k. AtKey k ms AreNotFour) key one h)), e))

  value_fault : (key : List ℕ) (d : Data) → get_member key ms ≡ Some d → ValueFault key f d → HasProfileFault ms f
  value_fault key d at (inl h) = number_fault key d h.0 at h.1
  value_fault key d at (inr h) =
      list_fault key h.0 (of_some AreNotFour (get_member key ms) d at (not_four (items_at d) h.1)) h.2

  item_fault : (list : PriceList) (d : Data) (ds : List Data) (i : ℕ) (e : Data) → get_member (price_key list) ms ≡ Some d → items_at d ≡ Some ds → slice_get ds i ≡ Some e → PriceFault f e → HasProfileFault ms f
  item_fault list d ds i e at is item (inl h) =
      list_fault (price_key list) (takes_four list)
      (of_some AreNotFour (get_member (price_key list) ms) d at (no_number (items_at d) ds is (index_any IsNoNumber ds i (of_some IsNoNumber (slice_get ds i) e item h.0)))) h.1
  item_fault list d ds i e at is item (inr h) =
      inr (inr (inl (
        inl (inr (in_list (λ k. AtKey k ms (λ d. IsSomeAnd (items_at d) (Any IsOtherNumber))) list
            (of_some (λ d. IsSomeAnd (items_at d) (Any IsOtherNumber)) (get_member (price_key list) ms) d at
            (of_some (Any IsOtherNumber) (items_at d) ds is (index_any IsOtherNumber ds i (of_some IsOtherNumber (slice_get ds i) e item h.0)))))),
        h.1,
      )))

  part_fault : (p : Part) → PartFault p ms f → HasProfileFault ms f
  part_fault (Unknown key) h = inl (of_unknown profile_keys ms key.now h.0 h.1, h.2)
  part_fault (Value key) h =
      let d = in_some (ValueFault key.now f) (get_member key.now ms) h in value_fault key.now d.0 d.1 d.2
  part_fault (Missing key) h = elim h.0 [
    | inl one ↦ inr (inl (inl (inl (of_one number_keys (λ k. get_member k ms ≡ None) key.now one h.1)), h.2))
    | inr one ↦ inr (inl (inl (inr (of_one list_keys (λ k. get_member k ms ≡ None) key.now one h.1)), h.2))
  ]

  -- a spot has a fault of the document
  pub spot_fault : (s : ProfileSpot) → IsProfileFaultAt ms s f → HasProfileFault ms f
  spot_fault (spot.Own p) h = part_fault p h
  spot_fault (spot.Item list i) h =
      let d = in_some (λ d. IsSomeAnd (items_at d) (λ ds. IsSomeAnd (slice_get ds i) (PriceFault f))) (get_member (price_key list) ms) h in
      let ds = in_some (λ es. IsSomeAnd (slice_get es i) (PriceFault f)) (items_at d.0) d.2 in
      let e = in_some (PriceFault f) (slice_get ds.0 i) ds.2 in
      item_fault list d.0 ds.0 i e.0 d.1 ds.1 e.1 e.2
  spot_fault (spot.Price i) h =
      let n = h.0 in inr (inr (inl (inr (n.0, n.1, out_of_range i n.0 n.2), h.1)))
  spot_fault (spot.Disordered order) h =
      let n = h.0 in inr (inr (inr ((n.0, n.1, disordered order n.0 n.2), h.1)))
