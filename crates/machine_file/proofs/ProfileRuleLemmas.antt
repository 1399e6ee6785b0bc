-- What is read of a cycle profile file, against what its keys state and their faults.
use Rattle.std.proofs.Common.{◌≡◌, ◌≢◌, ℕ, ℤ, ◌-◌, ◌^◌, ◌≤◌, ◌⊎◌, ◌↔◌, true, get_or, List, [], ◌∷◌, length, take, codes, All, Any, MatchOption, slice_index, Option, Some, None, Ok, Err, inl, inr, refl, sym, ap, subst, arith, le_of_eq}
use Rattle.std.specs.List.{AllZip}
use Rattle.std.proofs.lemmas.Bool.{cases_lt}
use Rattle.std.proofs.lemmas.List.Elements.{All-cons, All-head, All-nil, All-tail}
use Rattle.std.proofs.lemmas.Slice.Zip.{AllZip-long}
use Rattle.toml.specs.Data.{Data, Members, as_integer, get_member}
use Rattle.bus_ticks.specs.Ranges.{AreInRange, AreOrdered, IsPrice, device_number, rom_number}
use Rattle.toml_reading.specs.Documents.{has_only_keys, items_at}
use Rattle.toml_reading.specs.Lowest.{AtKey, AtKeyOr, IsListOf, IsOutside, KeysFault}
use Rattle.toml_reading.specs.Readings.{pair}
use Rattle.toml_reading.proofs.LowestLemmas.{AnswersBy, Judges, pair_judged, judged_as, one_by_rank, required_judged, map_judged}
use Rattle.toml_reading.proofs.LowestParts.{OneOf, any_one_of, keys_judged, number_in_judged, number_judged}
use Rattle.machine_file.specs.ProfileFaults.{number_of, profile_faults}
use Rattle.machine_file.specs.ProfileFile.{Four, IsPriced, Parts, Read, four_at, four_in, four_of, joined, numbers_in, parts_in, profile_keys}
use Rattle.machine_file.specs.Words.{IsWord, word_at, word_in}
use Rattle.machine_file.specs.ProfileRules.{StatesNumbers, StatesProfile, list_keys, number_keys}
use Rattle.machine_file.specs.declared.profile_faults.ProfileFileFault.{ProfileFileFault}
use Rattle.machine_file.specs.declared.profile_faults.ProfileFileFault.TheVariants.{Memory, NotToml, UnknownKey, WrongKind, OutOfRange, Disordered}
use Rattle.machine_file.proofs.ProfileLemmas.{not_four}
use Rattle.machine_file.proofs.PriceFaults.{FourFault, HasPriceFault, OrderFault, PriceFault, TicksFault}

-- ## The ranks of faults

abbrev fault_at : ℕ → ProfileFileFault
fault_at n = get_or (Memory ∷ Memory ∷ NotToml ∷ UnknownKey ∷ WrongKind ∷ OutOfRange ∷ Disordered ∷ []) n Memory

at_rank : (f : ProfileFileFault) → fault_at (number_of f) ≡ f
at_rank Memory = refl
at_rank _ = refl

pub one_rank : (f g : ProfileFileFault) → number_of f ≡ number_of g → f ≡ g
one_rank = one_by_rank profile_faults fault_at at_rank

-- from a wrong kind to a number out of range
abbrev IsMiddle : ProfileFileFault → Type 0
IsMiddle f = (4 ≤ number_of f) × (number_of f ≤ 5)

kind_middle : (f : ProfileFileFault) → f ≡ WrongKind → IsMiddle f
kind_middle f e = let r : number_of f ≡ 4 = ap number_of e in (omega (arith, r), omega (arith, r))

range_middle : (f : ProfileFileFault) → f ≡ OutOfRange → IsMiddle f
range_middle f e = let r : number_of f ≡ 5 = ap number_of e in (omega (arith, r), omega (arith, r))

module _ (f : ProfileFileFault) where
  ticks_at : (o : Option ℤ)
      → MatchOption o (f ≡ WrongKind) (λ z. IsOutside (2 ^ 32 - 1) z × (f ≡ OutOfRange)) → IsMiddle f
  ticks_at None e = kind_middle f e
  ticks_at (Some z) e = range_middle f e.1

  ticks_middle : (d : Data) → TicksFault d f → IsMiddle f
  ticks_middle d h = ticks_at (as_integer d) h

  four_items : (o : Option (List Data))
      → MatchOption o (f ≡ WrongKind) (λ ds. ((length ds ≢ 4) × (f ≡ WrongKind)) ⊎ Any (λ e. TicksFault e f) ds)
      → IsMiddle f
  four_items None e = kind_middle f e
  four_items (Some ds) (inl e) = kind_middle f e.1
  four_items (Some ds) (inr a) = ticks_middle a.1 a.4

  four_middle : (d : Data) → FourFault d f → IsMiddle f
  four_middle d h = four_items (items_at d) h

  key_middle : (P : Data → Type 0) → ((d : Data) → P d → IsMiddle f) → (o : Option Data)
      → MatchOption o (f ≡ WrongKind) P → IsMiddle f
  key_middle P each None e = kind_middle f e
  key_middle P each (Some d) h = each d h

  price_middle : (ms : Members) → PriceFault ms f → IsMiddle f
  price_middle ms (inl a) = key_middle (λ d. TicksFault d f) ticks_middle (get_member a.1 ms) a.4
  price_middle ms (inr a) = key_middle (λ d. FourFault d f) four_middle (get_member a.1 ms) a.4

-- two parts
joint : {A B : Type 0} {S : A → Type 0} {T : B → Type 0} {H K : ProfileFileFault → Type 0} {a : Read A} {b : Read B}
    → Judges profile_faults S H a → Judges profile_faults T K b
    → Judges profile_faults (λ p. S p.0 × T p.1) (λ f. H f ⊎ K f) (pair profile_faults a b)
joint {S = S} {T = T} {H = H} {K = K} {a = a} {b = b} h k = pair_judged profile_faults S T H K a b h k

-- ## Lists of four

abbrev four_list : Four → List ℕ
four_list p = p.0.0 ∷ p.0.1 ∷ p.1.0 ∷ p.1.1 ∷ []

abbrev ListsFour : List Data → Four → Type 0
ListsFour ds p = AllZip IsWord ds (four_list p)

abbrev ItemsFault : List Data → ProfileFileFault → Type 0
ItemsFault ds f = ((length ds ≢ 4) × (f ≡ WrongKind)) ⊎ Any (λ e. TicksFault e f) ds

ticks_judged : (d : Data) → Judges profile_faults (IsWord d) (TicksFault d) (word_at profile_faults d)
ticks_judged d = number_judged profile_faults (2 ^ 32 - 1) d

wrong_answers : (ds : List Data) → length ds ≢ 4
    → AnswersBy profile_faults (ListsFour ds) (ItemsFault ds) (four_of ds)
wrong_answers ds other =
    rw (not_four ds other) (
      λ p z. other (sym (AllZip-long IsWord ds (four_list p) z)),
      record {
        has = inl (other, refl);
        least = λ f h. elim h [
          | inl e ↦ le_of_eq (ap number_of (sym e.1))
          | inr a ↦ (ticks_middle f a.1 a.4).0
        ];
      },
    )

four_to : (P : Data → Type 0) (a b c d : Data) → (P a ⊎ P b) ⊎ (P c ⊎ P d) → OneOf P (a ∷ b ∷ c ∷ d ∷ [])
four_to P a b c d (inl (inl x)) = inl x
four_to P a b c d (inl (inr x)) = inr (inl x)
four_to P a b c d (inr (inl x)) = inr (inr (inl x))
four_to P a b c d (inr (inr x)) = inr (inr (inr (inl x)))

four_back : (P : Data → Type 0) (a b c d : Data) → OneOf P (a ∷ b ∷ c ∷ d ∷ []) → (P a ⊎ P b) ⊎ (P c ⊎ P d)
four_back P a b c d (inl x) = inl (inl x)
four_back P a b c d (inr (inl x)) = inl (inr x)
four_back P a b c d (inr (inr (inl x))) = inr (inl x)
four_back P a b c d (inr (inr (inr (inl x)))) = inr (inr x)
four_back P a b c d (inr (inr (inr (inr x)))) = absurd x

four_exact : (a b c d : Data)
    → Judges profile_faults (ListsFour (a ∷ b ∷ c ∷ d ∷ [])) (ItemsFault (a ∷ b ∷ c ∷ d ∷ [])) (four_of (a ∷ b ∷ c ∷ d ∷ []))
four_exact a b c d =
    judged_as
    profile_faults
    _
    (ListsFour (a ∷ b ∷ c ∷ d ∷ []))
    _
    (ItemsFault (a ∷ b ∷ c ∷ d ∷ []))
    (λ p. (λ s. (s.0.0, (s.0.1, (s.1.0, (s.1.1, tt)))), λ z. ((z.0, z.1.0), (z.1.1.0, z.1.1.1.0))))
    (λ f. (
      λ h. inr ((any_one_of (λ e. TicksFault e f) (a ∷ b ∷ c ∷ d ∷ [])).0 (four_to (λ e. TicksFault e f) a b c d h)),
      λ h. elim h [
        | inl e ↦ absurd (e.0 refl)
        | inr x ↦ four_back (λ e. TicksFault e f) a b c d ((any_one_of (λ e. TicksFault e f) (a ∷ b ∷ c ∷ d ∷ [])).1 x)
      ],
    ))
    (four_of (a ∷ b ∷ c ∷ d ∷ []))
    (joint (joint (ticks_judged a) (ticks_judged b)) (joint (ticks_judged c) (ticks_judged d)))

four_answers : (ds : List Data) → AnswersBy profile_faults (ListsFour ds) (ItemsFault ds) (four_of ds)
four_answers [] = wrong_answers [] (λ e. absurd (omega (arith, e)))
four_answers (a ∷ []) = wrong_answers (a ∷ []) (λ e. absurd (omega (arith, e)))
four_answers (a ∷ b ∷ []) = wrong_answers (a ∷ b ∷ []) (λ e. absurd (omega (arith, e)))
four_answers (a ∷ b ∷ c ∷ []) = wrong_answers (a ∷ b ∷ c ∷ []) (λ e. absurd (omega (arith, e)))
four_answers (a ∷ b ∷ c ∷ d ∷ []) = (four_exact a b c d).answers
four_answers (a ∷ b ∷ c ∷ d ∷ e ∷ ds) = wrong_answers (a ∷ b ∷ c ∷ d ∷ e ∷ ds) (λ h. absurd (omega (arith, h)))

four_at_judged : (d : Data)
    → Judges profile_faults (λ p. IsListOf IsWord d (four_list p)) (FourFault d) (four_at d)
four_at_judged d =
    required_judged
    profile_faults
    ListsFour
    ItemsFault
    four_of
    (λ ds. record { answers = four_answers ds })
    (items_at d)

-- ## The nine keys

module _ (ms : Members) where
  abbrev Word : List ℕ → ℕ → Type 0
  Word key n = AtKey key ms (λ d. IsWord d n)

  abbrev WordFault : List ℕ → ProfileFileFault → Type 0
  WordFault key f = AtKeyOr key ms (f ≡ WrongKind) (λ d. TicksFault d f)

  abbrev Fours : List ℕ → Four → Type 0
  Fours key p = AtKey key ms (λ d. IsListOf IsWord d (four_list p))

  abbrev FoursFault : List ℕ → ProfileFileFault → Type 0
  FoursFault key f = AtKeyOr key ms (f ≡ WrongKind) (λ d. FourFault d f)

  word : (key : List ℕ) → Judges profile_faults (Word key) (WordFault key) (word_in profile_faults key ms)
  word key = number_in_judged profile_faults (2 ^ 32 - 1) key ms

  fours : (key : List ℕ) → Judges profile_faults (Fours key) (FoursFault key) (four_in key ms)
  fours key =
      required_judged
      profile_faults
      (λ d p. IsListOf IsWord d (four_list p))
      FourFault
      four_at
      four_at_judged
      (get_member key ms)

-- the nine keys' faults in the order of the readings, and by what the keys take
prices_to : {N S Q R I C U T B : Type 0} → ((N ⊎ (S ⊎ Q)) ⊎ (R ⊎ I)) ⊎ ((C ⊎ U) ⊎ (T ⊎ B))
    → (N ⊎ (S ⊎ (Q ⊎ (C ⊎ (U ⊎ (T ⊎ (B ⊎ ⊥))))))) ⊎ (R ⊎ (I ⊎ ⊥))
prices_to (inl (inl (inl x))) = inl (inl x)
prices_to (inl (inl (inr (inl x)))) = inl (inr (inl x))
prices_to (inl (inl (inr (inr x)))) = inl (inr (inr (inl x)))
prices_to (inl (inr (inl x))) = inr (inl x)
prices_to (inl (inr (inr x))) = inr (inr (inl x))
prices_to (inr (inl (inl x))) = inl (inr (inr (inr (inl x))))
prices_to (inr (inl (inr x))) = inl (inr (inr (inr (inr (inl x)))))
prices_to (inr (inr (inl x))) = inl (inr (inr (inr (inr (inr (inl x))))))
prices_to (inr (inr (inr x))) = inl (inr (inr (inr (inr (inr (inr (inl x)))))))

prices_back : {N S Q R I C U T B : Type 0} → (N ⊎ (S ⊎ (Q ⊎ (C ⊎ (U ⊎ (T ⊎ (B ⊎ ⊥))))))) ⊎ (R ⊎ (I ⊎ ⊥))
    → ((N ⊎ (S ⊎ Q)) ⊎ (R ⊎ I)) ⊎ ((C ⊎ U) ⊎ (T ⊎ B))
prices_back (inl (inl x)) = inl (inl (inl x))
prices_back (inl (inr (inl x))) = inl (inl (inr (inl x)))
prices_back (inl (inr (inr (inl x)))) = inl (inl (inr (inr x)))
prices_back (inl (inr (inr (inr (inl x))))) = inr (inl (inl x))
prices_back (inl (inr (inr (inr (inr (inl x)))))) = inr (inl (inr x))
prices_back (inl (inr (inr (inr (inr (inr (inl x))))))) = inr (inr (inl x))
prices_back (inl (inr (inr (inr (inr (inr (inr (inl x)))))))) = inr (inr (inr x))
prices_back (inl (inr (inr (inr (inr (inr (inr (inr x)))))))) = absurd x
prices_back (inr (inl x)) = inl (inr (inl x))
prices_back (inr (inr (inl x))) = inl (inr (inr x))
prices_back (inr (inr (inr x))) = absurd x

module _ (ms : Members) where
  prices_iff : (f : ProfileFileFault)
      → OneOf (λ key. WordFault ms key f) number_keys ⊎ OneOf (λ key. FoursFault ms key f) list_keys ↔ PriceFault ms f
  prices_iff f = (
    λ h. elim h [
      | inl x ↦ inl ((any_one_of (λ key. WordFault ms key f) number_keys).0 x)
      | inr x ↦ inr ((any_one_of (λ key. FoursFault ms key f) list_keys).0 x)
    ],
    λ h. elim h [
      | inl x ↦ inl ((any_one_of (λ key. WordFault ms key f) number_keys).1 x)
      | inr x ↦ inr ((any_one_of (λ key. FoursFault ms key f) list_keys).1 x)
    ],
  )

  pub parts_judged : Judges profile_faults (λ p. StatesNumbers ms (joined p)) (PriceFault ms) (parts_in ms)
  parts_judged =
      judged_as
      profile_faults
      _
      (λ p. StatesNumbers ms (joined p))
      _
      (PriceFault ms)
      (λ p. (
        λ s. (s.0.0.0, s.0.0.1.0, s.0.0.1.1, s.0.1.0, s.0.1.1, s.1.0.0, s.1.0.1, s.1.1.0, s.1.1.1),
        λ t. (((t.0, (t.1, t.2)), (t.3, t.4)), ((t.5, t.6), (t.7, t.8))),
      ))
      (λ f. (λ h. (prices_iff f).0 (prices_to h), λ h. prices_back ((prices_iff f).1 h)))
      (parts_in ms)
      (joint
      (joint (joint (word ms (codes "n")) (joint (word ms (codes "s")) (word ms (codes "quad")))) (joint (fours ms (codes "rom")) (fours ms (codes "io"))))
      (joint (joint (word ms (codes "control")) (word ms (codes "unfitted"))) (joint (word ms (codes "internal")) (word ms (codes "burst")))))

abbrev Known : Members → Type 0
Known ms = has_only_keys profile_keys ms ≡ true

parts_of : (ms : Members) (ns : List ℕ) → Known ms × StatesNumbers ms ns
    → (p : Parts) × (Known ms × StatesNumbers ms (joined p)) × (ns ≡ joined p)
parts_of ms (n ∷ s ∷ quad ∷ rom_0 ∷ rom_1 ∷ rom_2 ∷ rom_3 ∷ slow ∷ medium ∷ fast ∷ synchronous ∷ control ∷ unfitted ∷ internal ∷ burst ∷ []) t =
    ((((n, (s, quad)), (((rom_0, rom_1), (rom_2, rom_3)), ((slow, medium), (fast, synchronous)))), ((control, unfitted), (internal, burst))), t, refl)
parts_of ms _ t = absurd t.1

numbers_judged : (ms : Members)
    → Judges profile_faults (λ ns. Known ms × StatesNumbers ms ns) (KeysFault profile_faults profile_keys PriceFault ms) (numbers_in ms)
numbers_judged ms =
    map_judged
    profile_faults
    (λ p. Known ms × StatesNumbers ms (joined p))
    (λ ns. Known ms × StatesNumbers ms ns)
    (KeysFault profile_faults profile_keys PriceFault ms)
    joined
    (λ p s. s)
    (parts_of ms)
    _
    (keys_judged profile_faults profile_keys (λ ns p. StatesNumbers ns (joined p)) PriceFault parts_in parts_judged ms)

-- ## Numbers that are a profile

module _ {X : Type 0} (P : X → Type 0) (decides : (x : X) → P x ⊎ ¬ P x) where
  all_decide : (xs : List X) → All P xs ⊎ ¬ All P xs
  all_decide [] = inl (All-nil P)
  all_decide (x ∷ xs) = elim (decides x) [
    | inl p ↦ elim (all_decide xs) [
      | inl a ↦ inl (All-cons P x xs p a)
      | inr other ↦ inr (λ a. other (All-tail P x xs a))
    ]
    | inr other ↦ inr (λ a. other (All-head P x xs a))
  ]

price_decides : (x : ℕ) → IsPrice x ⊎ ¬ IsPrice x
price_decides x = elim (cases_lt x 1) [
  | inl low ↦ inr (λ p. let least = p.0 in omega (arith, low, least))
  | inr some ↦ elim (cases_lt x 256) [
    | inl small ↦ inl (some, small)
    | inr high ↦ inr (λ p. let below = p.1 in omega (arith, high, below))
  ]
]

pub range_decides : (ns : List ℕ) → AreInRange ns ⊎ ¬ AreInRange ns
range_decides ns = elim (all_decide IsPrice price_decides (take 14 ns)) [
  | inl all ↦ elim (cases_lt (slice_index ns 14) 256) [
    | inl small ↦ inl (record { prices = all; burst = small })
    | inr high ↦ inr (λ r. let below = r.burst in omega (arith, high, below))
  ]
  | inr other ↦ inr (λ r. other r.prices)
]

le_decides : (x y : ℕ) → (x ≤ y) ⊎ ¬ (x ≤ y)
le_decides x y = elim (cases_lt y x) [ inl above ↦ inr (λ le. omega (arith, above, le)) | inr le ↦ inl le ]

pub order_decides : (ns : List ℕ) → AreOrdered ns ⊎ ¬ AreOrdered ns
order_decides ns = elim (le_decides (slice_index ns 1) (slice_index ns 2)) [
  | inl a ↦ elim (le_decides (slice_index ns 2) (slice_index ns 0)) [
    | inl b ↦ elim (le_decides (slice_index ns 0) (device_number ns)) [
      | inl c ↦ elim (le_decides (rom_number ns) (device_number ns)) [
        | inl d ↦ elim (le_decides (slice_index ns 11) (device_number ns)) [
          | inl e ↦ inl (record { s_first = a; quad_second = b; n_below = c; rom_below = d; control_below = e })
          | inr other ↦ inr (λ r. other r.control_below)
        ]
        | inr other ↦ inr (λ r. other r.rom_below)
      ]
      | inr other ↦ inr (λ r. other r.n_below)
    ]
    | inr other ↦ inr (λ r. other r.quad_second)
  ]
  | inr other ↦ inr (λ r. other r.s_first)
]

-- ## The profile

module _ (ms : Members) where
  abbrev KeyFault : ProfileFileFault → Type 0
  KeyFault f = KeysFault profile_faults profile_keys PriceFault ms f

  abbrev States : List ℕ → Type 0
  States ns = Known ms × StatesNumbers ms ns

  to_fault : (f : ProfileFileFault) → KeyFault f → HasPriceFault ms f
  to_fault f (inl e) = inl e
  to_fault f (inr h) = inr (inl h)

  key_low : (f : ProfileFileFault) → KeyFault f → number_of f ≤ 5
  key_low f (inl e) = let r : number_of f ≡ 3 = ap number_of e.1 in omega (arith, r)
  key_low f (inr h) = (price_middle f ms h).1

  order_high : (f : ProfileFileFault) → OrderFault ms f → 5 ≤ number_of f
  order_high f h = elim h.2 [
    | inl e ↦ let r : number_of f ≡ 5 = ap number_of e.1 in omega (arith, r)
    | inr e ↦ let r : number_of f ≡ 6 = ap number_of e.1 in omega (arith, r)
  ]

  module _ (ns : List ℕ) (h : AnswersBy profile_faults States KeyFault (Ok ns)) where
    same : (other : List ℕ) → StatesNumbers ms other → other ≡ ns
    same other s = h.0.only other (h.0.stated.0, s)

    only_order : (f : ProfileFileFault) → HasPriceFault ms f → OrderFault ms f
    only_order f (inl e) = absurd (h.1 f (inl e))
    only_order f (inr (inl p)) = absurd (h.1 f (inr p))
    only_order f (inr (inr o)) = o

    profile_answers : AreInRange ns → AreOrdered ns
        → AnswersBy profile_faults (StatesProfile ms) (HasPriceFault ms) (Ok ns)
    profile_answers r o = (
      record {
        stated = record { known = h.0.stated.0; numbers_stated = h.0.stated.1; in_range = r; ordered = o };
        only = λ other s. same other s.numbers_stated;
      },
      λ f x. let y = only_order f x in elim y.2 [
        | inl e ↦ e.0 (subst AreInRange (sym (same y.0 y.1)) r)
        | inr e ↦ e.0 (subst AreOrdered (sym (same y.0 y.1)) o)
      ],
    )

    range_answers : ¬ AreInRange ns → AnswersBy profile_faults (StatesProfile ms) (HasPriceFault ms) (Err OutOfRange)
    range_answers r = (
      λ other s. r (subst AreInRange (same other s.numbers_stated) s.in_range),
      record {
        has = inr (inr (ns, h.0.stated.1, inl (r, refl)));
        least = λ f x. order_high f (only_order f x);
      },
    )

    order_answers : AreInRange ns → ¬ AreOrdered ns
        → AnswersBy profile_faults (StatesProfile ms) (HasPriceFault ms) (Err Disordered)
    order_answers r o = (
      λ other s. o (subst AreOrdered (same other s.numbers_stated) s.ordered),
      record {
        has = inr (inr (ns, h.0.stated.1, inr (o, refl)));
        least = λ f x. let y = only_order f x in elim y.2 [
          | inl e ↦ absurd (e.0 (subst AreInRange (sym (same y.0 y.1)) r))
          | inr e ↦ le_of_eq (ap number_of (sym e.1))
        ];
      },
    )

  read_answers : (reading answer : Read (List ℕ)) → AnswersBy profile_faults States KeyFault reading
      → IsPriced reading answer → AnswersBy profile_faults (StatesProfile ms) (HasPriceFault ms) answer
  read_answers (Ok ns) answer h p = elim (range_decides ns) [
    | inl r ↦ elim (order_decides ns) [
      | inl o ↦ rw (p.0 r o) (profile_answers ns h r o)
      | inr o ↦ rw (p.2 r o) (order_answers ns h r o)
    ]
    | inr r ↦ rw (p.1 r) (range_answers ns h r)
  ]
  read_answers (Err g) answer h p =
      rw p (
        λ ns s. h.0 ns (s.known, s.numbers_stated),
        record { has = to_fault g h.1.has; least = λ f x. above f x },
      )
    where
      above : (f : ProfileFileFault) → HasPriceFault ms f → number_of g ≤ number_of f
      above f (inl e) = h.1.least f (inl e)
      above f (inr (inl y)) = h.1.least f (inr y)
      above f (inr (inr o)) =
          let low = key_low g h.1.has in let high = order_high f o in omega (arith, low, high)

  pub profile_judged : (answer : Read (List ℕ)) → IsPriced (numbers_in ms) answer
      → Judges profile_faults (StatesProfile ms) (HasPriceFault ms) answer
  profile_judged answer p = record { answers = read_answers (numbers_in ms) answer (numbers_judged ms).answers p }
