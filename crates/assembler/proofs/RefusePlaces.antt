-- What the places of a line's words and of an ORG may clash with.
use Rattle.std.proofs.Common.{◌≡◌, ◌||◌, ◌+◌, ◌*◌, ◌%◌, ◌<◌, ◌≤◌, ◌==◌, ◌&&◌, not, ℕ, zero, suc, Bool, true, false, List, [], ◌∷◌, Option, Some, None, refl, sym, ap, subst, ◌∙◌, inl, inr, ◌⊎◌, arith, eqb-true}
use Rattle.std.specs.Prelude.{nat_le, nat_lt, if◌then◌else◌}
use Rattle.std.specs.List.{AllByRecursion, Contains}
use Rattle.std.proofs.lemmas.Bool.{and_parts, cases_Bool, or_parts, not-false, or_right}
use Rattle.std.proofs.lemmas.Bool.Decides.{nat_tests}
use Rattle.image.specs.Image.{lies_in_memory, may_hold}
use Rattle.image.proofs.PlaceLemmas.{may_within}
use Rattle.asm_text.proofs.WordLaws.{false_true}
use Rattle.assembler.specs.Assembles.{addresses_from}
use Rattle.assembler.specs.Faults.{lower}
use Rattle.assembler.specs.Sweeps.{State, lacks_segment, is_open_at, org_fault, overlaps, place_fault}
use Rattle.assembler.specs.declared.fault.LineFault.TheVariants.{OutOfRange, TooLong}
use Rattle.assembler.proofs.AssembleBack.{Apart, Exact, In, in_memory_all, may_four, no_overlap}
use Rattle.assembler.proofs.AssembleSteps.{Covers, InSegments}
use Rattle.assembler.proofs.RefuseLeast.{IsLeast, guard, least_both, least_guard}

-- ## Members

pub in_contains : (xs : List ℕ) (a : ℕ) → In xs a → Contains xs a
unfolding In
in_contains [] a h = absurd h
in_contains (x ∷ xs) a h =
    elim h [
      | inl e ↦ (0, omega arith, e)
      | inr m ↦ let k =
          in_contains xs a m in (suc k.0, omega (arith, k.1), k.2)
    ]

pub contains_in : (xs : List ℕ) (a : ℕ) → Contains xs a → In xs a
unfolding In
contains_in [] a (k, lt, is) = absurd (omega arith)
contains_in (x ∷ xs) a (zero, lt, is) = inl is
contains_in (x ∷ xs) a (suc k, lt, is) = inr (contains_in xs a (k, omega arith, is))

pub all_in : (P : ℕ → Type 0) (xs : List ℕ) (a : ℕ) → AllByRecursion P xs → In xs a → P a
unfolding In
all_in P [] a h m = absurd m
all_in P (x ∷ xs) a h m = elim m [ inl e ↦ subst P e h.0 | inr k ↦ all_in P xs a h.1 k ]

in_or_not : (xs : List ℕ) (a : ℕ) → In xs a ⊎ (In xs a → ⊥)
unfolding In
in_or_not [] a = inr (λ h. h)
in_or_not (x ∷ xs) a =
    elim (cases_Bool (x == a)) [
      | inl e ↦ inl (inl (eqb-true x a e))
      | inr e ↦ elim (in_or_not xs a) [
        | inl m ↦ inl (inr m)
        | inr none ↦
            inr (λ h. elim h [
              | inl same ↦ let k : (x == a) ≡ true =
                  grind (arith, nat_tests, same) in false_true (sym e ∙ k)
              | inr m ↦ none m
            ])
      ]
    ]

-- an address that may hold no word or is taken
abbrev pub Bad : List ℕ → List ℕ → Type 0
Bad taken ats = (a : ℕ) × Contains ats a × ((may_hold a ≡ false) ⊎ Contains taken a)

pub record Fine (taken ats : List ℕ) : Type 0 where
  pub held : AllByRecursion (λ a. may_hold a ≡ true) ats
  pub apart : Apart taken ats

bad_or_fine : (taken ats : List ℕ) → Bad taken ats ⊎ Fine taken ats
unfolding Apart
bad_or_fine taken [] = inr (record { held = tt; apart = tt })
bad_or_fine taken (x ∷ xs) =
    elim (cases_Bool (may_hold x)) [
      | inr e ↦ inl (x, (0, omega arith, refl), inl e)
      | inl e ↦ elim (in_or_not taken x) [
        | inl m ↦ inl (x, (0, omega arith, refl), inr (in_contains taken x m))
        | inr free ↦ elim (bad_or_fine taken xs) [
          | inl b ↦ let c = b.1 in inl (b.0, (suc c.0, omega (arith, c.1), c.2), b.2)
          | inr f ↦ inr (record { held = (e, f.held); apart = (free, f.apart) })
        ]
      ]
    ]

pub fine : (taken ats : List ℕ) → (Bad taken ats → ⊥) → Fine taken ats
fine taken ats h = elim (bad_or_fine taken ats) [ inl b ↦ absurd (h b) | inr f ↦ f ]

-- ## Words

record Within (at n a : ℕ) : Type 0 where
  low : at ≤ a
  high : a + 4 ≤ at + 4 * n
  four : at % 4 ≡ 0 → a % 4 ≡ 0

within : (n at a : ℕ) → In (addresses_from at n) a → Within at n a
unfolding In
within zero at a h = absurd h
within (suc n) at a h =
    elim h [
      | inl e ↦ record { low = omega (arith, e); high = omega (arith, e); four = λ k. omega (arith, e, k) }
      | inr m ↦ let w =
          within n (at + 4) a m in
          record {
            low =
                omega (arith, w.low);
            high = omega (arith, w.high);
            four = λ k. w.four (omega (arith, k));
          }
    ]

wider : (closed : List (ℕ × ℕ)) (from to a : ℕ) → from ≤ a → a + 1 ≤ to → overlaps closed a (a + 1) ≡ true
    → overlaps closed from to ≡ true
wider [] from to a low high h = h
wider (s ∷ closed) from to a low high h =
    elim (cases_Bool (nat_lt s.0 (a + 1) && nat_lt a s.1)) [
      | inl e ↦
          let k = and_parts (nat_lt s.0 (a + 1)) (nat_lt a s.1) e in
          let x : nat_lt s.0 to ≡ true = let y = k.0 in grind (arith, nat_tests, y, high) in
          let z : nat_lt from s.1 ≡ true = let y = k.1 in grind (arith, nat_tests, y, low) in
          rw (x, z) refl
      | inr e ↦
          let k : overlaps closed a (a + 1) ≡ true = rw e at h in
          or_right (nat_lt s.0 to && nat_lt from s.1) (overlaps closed from to)
          (wider closed from to a low high k)
    ]

not_after : (o : Option ℕ) (at a : ℕ) → at ≤ a → is_open_at o at a ≡ true → ⊥
not_after None at a le h = false_true h
not_after (Some from) at a le h =
    let k = (and_parts (nat_le from a) (nat_lt a at) h).1 in let lt : a < at =
    grind (arith, nat_tests, k) in omega (arith, lt, le)

abbrev outside : State → ℕ → Bool
outside s n = not (lies_in_memory s.at (s.at + 4 * n)) || overlaps s.closed s.at (s.at + 4 * n)

bad_outside : (s : State) (taken : List ℕ) (n : ℕ) → Exact s taken → Covers s taken
    → Bad taken (addresses_from s.at n) → outside s n ≡ true
unfolding InSegments
bad_outside s taken n exact covers (a, there, why) =
    elim (cases_Bool (outside s n)) [
      | inl e ↦ e
      | inr e ↦
          let k = or_parts (not (lies_in_memory s.at (s.at + 4 * n))) (overlaps s.closed s.at (s.at + 4 * n)) e in
          let w = within n s.at a (contains_in (addresses_from s.at n) a there) in
          elim why [
            | inl not-may ↦
                false_true
                (sym not-may
                ∙ may_within s.at (s.at + 4 * n) a (not-false (lies_in_memory s.at (s.at + 4 * n)) k.0)
                (w.four exact.even) w.low w.high)
            | inr c ↦ elim (all_in (InSegments s) taken a covers.covered (contains_in taken a c)) [
              | inl held ↦ let high =
                  w.high in
                  false_true
                  (sym k.1 ∙ wider s.closed s.at (s.at + 4 * n) a w.low (omega (arith, high)) held)
              | inr held ↦ absurd (not_after s.start s.at a w.low held)
            ]
          ]
    ]

outside_bad : (s : State) (taken : List ℕ) (m : ℕ) → Exact s taken → outside s (suc m) ≡ true
    → Bad taken (addresses_from s.at (suc m))
outside_bad s taken m exact h =
    elim (bad_or_fine taken (addresses_from s.at (suc m))) [
      | inl b ↦ b
      | inr f ↦
          let inside = in_memory_all m s.at f.held in
          let alone = no_overlap s taken (suc m) exact f.apart (omega arith) in
          let k : outside s (suc m) ≡ false = rw (inside, alone) refl in
          false_true (sym k ∙ h)
    ]

guards : (a b : Bool)
    → lower (guard a OutOfRange) (guard b TooLong)
    ≡ (if a then Some OutOfRange else (if b then Some TooLong else None))
guards true true = refl
guards true false = refl
guards false true = refl
guards false false = refl

-- the faults of some words' places
pub place_least : (s : State) (taken : List ℕ) (m : ℕ) (Long : Type 0) → Exact s taken → Covers s taken
    → ((nat_lt 65536 (s.words + suc m) || lacks_segment s) ≡ true → Long)
    → (Long → (nat_lt 65536 (s.words + suc m) || lacks_segment s) ≡ true)
    → IsLeast (λ f. ((f ≡ OutOfRange) × Bad taken (addresses_from s.at (suc m))) ⊎ ((f ≡ TooLong) × Long))
    (place_fault s (suc m))
place_least s taken m Long exact covers there again =
    let out = outside s (suc m) in
    let long = nat_lt 65536 (s.words + suc m) || lacks_segment s in
    let B = Bad taken (addresses_from s.at (suc m)) in
    subst (IsLeast (λ f. ((f ≡ OutOfRange) × B) ⊎ ((f ≡ TooLong) × Long))) (guards out long)
    (least_both (λ f. (f ≡ OutOfRange) × B) (λ f. (f ≡ TooLong) × Long) (guard out OutOfRange)
    (guard long TooLong)
    (least_guard out OutOfRange B (outside_bad s taken m exact) (bad_outside s taken (suc m) exact covers))
    (least_guard long TooLong Long there again))

-- ## An ORG

abbrev org_bad : State → ℕ → Bool
org_bad s n = not (may_hold n) || (overlaps s.closed n (n + 1) || is_open_at s.start s.at n)

one_of : (n a : ℕ) → Contains (n ∷ []) a → n ≡ a
one_of n a (zero, lt, is) = is
one_of n a (suc k, lt, is) = absurd (omega arith)

bad_org : (s : State) (n : ℕ) (taken : List ℕ) → Covers s taken → Bad taken (n ∷ []) → org_bad s n ≡ true
unfolding InSegments
bad_org s n taken covers (a, there, why) =
    let same = one_of n a there in
    elim (cases_Bool (org_bad s n)) [
      | inl e ↦ e
      | inr e ↦
          let k = or_parts (not (may_hold n)) (overlaps s.closed n (n + 1) || is_open_at s.start s.at n) e in
          let l = or_parts (overlaps s.closed n (n + 1)) (is_open_at s.start s.at n) k.1 in
          elim why [
            | inl not-may ↦ false_true (sym not-may ∙ ap may_hold (sym same) ∙ not-false (may_hold n) k.0)
            | inr c ↦
                elim (all_in (InSegments s) taken n covers.covered
                (subst (In taken) (sym same) (contains_in taken a c))) [
                  | inl held ↦ false_true (sym l.0 ∙ held)
                  | inr held ↦ false_true (sym l.1 ∙ held)
                ]
          ]
    ]

org_is_bad : (s : State) (n : ℕ) (taken : List ℕ) → Exact s taken → org_bad s n ≡ true → Bad taken (n ∷ [])
unfolding InSegments
org_is_bad s n taken exact h =
    elim (cases_Bool (may_hold n)) [
      | inr e ↦ (n, (0, omega arith, refl), inl e)
      | inl e ↦
          let four = may_four n e in
          let k : (overlaps s.closed n (n + 1) || is_open_at s.start s.at n) ≡ true = rw e at h in
          elim (cases_Bool (overlaps s.closed n (n + 1))) [
            | inl held ↦
                (n, (0, omega arith, refl), inr (in_contains taken n (exact.within n four (inl held))))
            | inr other ↦
                let held : is_open_at s.start s.at n ≡ true = rw other at k in
                (n, (0, omega arith, refl), inr (in_contains taken n (exact.within n four (inr held))))
          ]
    ]

pub org_least : (s : State) (n : ℕ) (taken : List ℕ) → Exact s taken → Covers s taken
    → IsLeast (λ f. (f ≡ OutOfRange) × Bad taken (n ∷ [])) (org_fault s n)
org_least s n taken exact covers =
    least_guard (org_bad s n) OutOfRange (Bad taken (n ∷ [])) (org_is_bad s n taken exact)
    (bad_org s n taken covers)
