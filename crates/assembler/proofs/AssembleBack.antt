-- Lines that are an assembly's pass the first sweep.
use Rattle.std.proofs.Common.{◌≡◌, ◌≢◌, ◌+◌, ◌*◌, ◌%◌, ◌<◌, ◌≤◌, ℕ, zero, suc, Bool, true, false, ◌&&◌, List, [], ◌∷◌, ◌++◌, length, Option, Some, None, refl, sym, subst, inl, inr, ◌⊎◌, arith, append_assoc}
use Rattle.std.specs.Prelude.{nat_le, nat_lt, unwrap_or}
use Rattle.std.specs.List.{AllByRecursion, list_any}
use Rattle.std.proofs.lemmas.Bool.{and_parts, cases_Bool, or_right}
use Rattle.std.proofs.lemmas.Bool.Decides.{nat_tests}
use Rattle.std.proofs.lemmas.List.{length-append}
use Rattle.image.specs.Image.{lies_in_memory, may_hold}
use Rattle.image.proofs.PlaceLemmas.{Lies, lies_in, lies_more, lies_one, may_parts}
use Rattle.asm_text.proofs.WordLaws.{false_true}
use Rattle.assembler.specs.Assembles.{addresses_from}
use Rattle.assembler.specs.Sweeps.{Pending, State, closed_with, org_state, is_open_at, overlaps, placed}
use Rattle.assembler.proofs.AssembleSteps.{InSegments, put_all}
use Rattle.image.proofs.WordLemmas.{all_push}
use Rattle.std.proofs.lemmas.List.{append-nil}

-- ## Addresses in a list

unfoldable pub In : List ℕ → ℕ → Type 0
In [] a = ⊥
In (x ∷ xs) a = (x ≡ a) ⊎ In xs a

pub in_first : (xs ys : List ℕ) (a : ℕ) → In xs a → In (xs ++ ys) a
unfolding In
in_first [] ys a h = absurd h
in_first (x ∷ xs) ys a h = elim h [ inl e ↦ inl e | inr k ↦ inr (in_first xs ys a k) ]

pub in_last : (xs : List ℕ) (a : ℕ) → In (xs ++ a ∷ []) a
unfolding In
in_last [] a = inl refl
in_last (x ∷ xs) a = inr (in_last xs a)

pub not_in : (xs : List ℕ) (a : ℕ) → AllByRecursion (λ x. x ≢ a) xs → In xs a → ⊥
unfolding In
not_in [] a h k = k
not_in (x ∷ xs) a h k = elim k [ inl e ↦ h.0 e | inr m ↦ not_in xs a h.1 m ]

-- ## What a state holds: no more than the places after it

unfoldable pub StartEven : Option ℕ → ℕ → Type 0
StartEven None at = Unit {0}
StartEven (Some from) at = (from % 4 ≡ 0) × (from < at)

pub record Exact (s : State) (taken : List ℕ) : Type 0 where
  pub within : (a : ℕ) → a % 4 ≡ 0 → InSegments s a → In taken a
  pub even : s.at % 4 ≡ 0
  pub start : StartEven s.start s.at
  pub spans : AllByRecursion (λ p. (p.0 % 4 ≡ 0) × (p.0 < p.1)) s.closed
  pub words : s.words ≡ length taken

start_four : (o : Option ℕ) (at : ℕ) → at % 4 ≡ 0 → StartEven o at → StartEven (Some (unwrap_or o at)) (at + 4)
unfolding StartEven
start_four None at e h = (e, omega arith)
start_four (Some from) at e h = (h.0, omega (arith, h.1))

-- a multiple of 4 in the open segment with a word more
open_parts : (o : Option ℕ) (at a : ℕ) → at % 4 ≡ 0 → a % 4 ≡ 0 → is_open_at (Some (unwrap_or o at)) (at + 4) a ≡ true → (is_open_at o at a ≡ true) ⊎ (at ≡ a)
open_parts None at a e k h =
    let p = and_parts (nat_le at a) (nat_lt a (at + 4)) h in
    let low : at ≤ a = grind (arith, nat_tests, p.0) in
    let high : a < at + 4 = grind (arith, nat_tests, p.1) in
    inr (omega arith)
open_parts (Some from) at a e k h =
    let p = and_parts (nat_le from a) (nat_lt a (at + 4)) h in
    let high : a < at + 4 = grind (arith, nat_tests, p.1) in
    elim (cases_Bool (nat_lt a at)) [
      | inl lt ↦ inl (rw (p.0, lt) refl)
      | inr no-lt ↦ let ge : at ≤ a = grind (arith, nat_tests, no-lt) in inr (omega arith)
    ]

exact_placed : (s : State) (k : ℕ) (p : Pending) (taken : List ℕ) → Exact s taken → Exact (placed s k p) (taken ++ s.at ∷ [])
unfolding InSegments
exact_placed s k p taken h = record {
  within = λ a four held. elim held [
    | inl e ↦ in_first taken (s.at ∷ []) a (h.within a four (inl e))
    | inr e ↦ elim (open_parts s.start s.at a h.even four e) [
      | inl was ↦ in_first taken (s.at ∷ []) a (h.within a four (inr was))
      | inr here ↦ subst (In (taken ++ s.at ∷ [])) here (in_last taken s.at)
    ]
  ];
  even = omega (arith, h.even);
  start = start_four s.start s.at h.even h.start;
  spans = h.spans;
  words = omega (arith, h.words, length-append taken (s.at ∷ []));
}

pub exact_put : (s : State) (k : ℕ) (ps : List Pending) (taken : List ℕ) → Exact s taken → Exact (put_all s k ps) (taken ++ addresses_from s.at (length ps))
unfolding put_all
exact_put s k [] taken h = subst (Exact s) (sym (append-nil taken)) h
exact_put s k (p ∷ ps) taken h =
    subst (Exact (put_all (placed s k p) k ps)) (append_assoc taken (s.at ∷ []) (addresses_from (s.at + 4) (length ps)))
    (exact_put (placed s k p) k ps (taken ++ s.at ∷ []) (exact_placed s k p taken h))

any_split : (p : ℕ × ℕ → Bool) (xs : List (ℕ × ℕ)) (x : ℕ × ℕ) → list_any p (xs ++ x ∷ []) ≡ true → (list_any p xs ≡ true) ⊎ (p x ≡ true)
any_split p [] x h = elim (cases_Bool (p x)) [ inl e ↦ inr e | inr e ↦ let k : false ≡ true = rw e at h in false_true k ]
any_split p (y ∷ xs) x h =
    elim (cases_Bool (p y)) [
      | inl e ↦ inl (rw e refl)
      | inr e ↦
          let k : list_any p (xs ++ x ∷ []) ≡ true = rw e at h in
          elim (any_split p xs x k) [ inl m ↦ inl (rw e m) | inr m ↦ inr m ]
    ]

closed_parts : (o : Option ℕ) (to a : ℕ) (closed : List (ℕ × ℕ)) → overlaps (closed_with o to closed) a (a + 1) ≡ true → (overlaps closed a (a + 1) ≡ true) ⊎ (is_open_at o to a ≡ true)
closed_parts None to a closed h = inl h
closed_parts (Some from) to a closed h =
    elim (any_split (λ s. nat_lt s.0 (a + 1) && nat_lt a s.1) closed (from, to) h) [
      | inl e ↦ inl e
      | inr e ↦
          let k = and_parts (nat_lt from (a + 1)) (nat_lt a to) e in
          let le : nat_le from a ≡ true = grind (arith, nat_tests, k.0) in
          inr (rw (le, k.1) refl)
    ]

closed_spans : (o : Option ℕ) (to : ℕ) (closed : List (ℕ × ℕ)) → StartEven o to → AllByRecursion (λ p. (p.0 % 4 ≡ 0) × (p.0 < p.1)) closed → AllByRecursion (λ p. (p.0 % 4 ≡ 0) × (p.0 < p.1)) (closed_with o to closed)
unfolding StartEven
closed_spans None to closed h all = all
closed_spans (Some from) to closed h all = all_push (λ p. (p.0 % 4 ≡ 0) × (p.0 < p.1)) closed (from, to) all (h.0, h.1)

pub exact_org : (s : State) (n : ℕ) (taken : List ℕ) → n % 4 ≡ 0 → Exact s taken
    → Exact (org_state s n) taken
unfolding InSegments StartEven
exact_org s n taken four h = record {
  within = λ a e held. elim held [ inl k ↦ h.within a e (closed_parts s.start s.at a s.closed k) | inr k ↦ false_true k ];
  even = four;
  start = tt;
  spans = closed_spans s.start s.at s.closed h.start h.spans;
  words = h.words;
}

-- ## Words that are where they may be

pub may_four : (a : ℕ) → may_hold a ≡ true → a % 4 ≡ 0
may_four a h = (may_parts a h).0

memory_all : (n at : ℕ) → AllByRecursion (λ a. may_hold a ≡ true) (addresses_from at (suc n)) → Lies at (at + 4 * suc n)
memory_all zero at h = lies_one at h.0
memory_all (suc n) at h =
    let rest = memory_all n (at + 4) h.1 in
    let to : at + 4 + 4 * suc n ≡ at + 4 * suc (suc n) = omega arith in
    lies_more at (at + 4 * suc (suc n)) h.0 (subst (Lies (at + 4)) to rest) (omega arith)

pub in_memory_all : (n at : ℕ) → AllByRecursion (λ a. may_hold a ≡ true) (addresses_from at (suc n))
    → lies_in_memory at (at + 4 * suc n) ≡ true
in_memory_all n at h = lies_in at (at + 4 * suc n) (memory_all n at h)

-- ## Words on no other's place

-- a multiple of 4 that a span and some places share
overlap_point : (closed : List (ℕ × ℕ)) (from to : ℕ) → from % 4 ≡ 0 → from < to → AllByRecursion (λ p. (p.0 % 4 ≡ 0) × (p.0 < p.1)) closed → overlaps closed from to ≡ true
    → (a : ℕ) × (a % 4 ≡ 0) × (from ≤ a) × (a < to) × (overlaps closed a (a + 1) ≡ true)
overlap_point [] from to four lt spans h = false_true h
overlap_point (s ∷ closed) from to four lt spans h =
    elim (cases_Bool (nat_lt s.0 to && nat_lt from s.1)) [
      | inl e ↦
          let k = and_parts (nat_lt s.0 to) (nat_lt from s.1) e in
          let a-to : s.0 < to = grind (arith, nat_tests, k.0) in
          let from-b : from < s.1 = grind (arith, nat_tests, k.1) in
          elim (cases_Bool (nat_lt from s.0)) [
            | inl above ↦
                let x : nat_lt s.0 (s.0 + 1) ≡ true = grind (arith, nat_tests) in
                let y : nat_lt s.0 s.1 ≡ true = grind (arith, nat_tests, spans.0.1) in
                let z : from < s.0 = grind (arith, nat_tests, above) in
                (s.0, spans.0.0, omega (arith, z), a-to, rw (x, y) refl)
            | inr below ↦
                let z : s.0 ≤ from = grind (arith, nat_tests, below) in
                let x : nat_lt s.0 (from + 1) ≡ true = grind (arith, nat_tests, z) in
                (from, four, omega arith, lt, rw (x, k.1) refl)
          ]
      | inr e ↦
          let k : overlaps closed from to ≡ true = rw e at h in
          let p = overlap_point closed from to four lt spans.1 k in
          (p.0, p.1, p.2, p.3, or_right (nat_lt s.0 (p.0 + 1) && nat_lt p.0 s.1) (overlaps closed p.0 (p.0 + 1)) p.4)
    ]

in_places : (n at a : ℕ) → at % 4 ≡ 0 → a % 4 ≡ 0 → at ≤ a → a < at + 4 * n → In (addresses_from at n) a
unfolding In
in_places zero at a e k le lt = absurd (omega (arith, le, lt))
in_places (suc n) at a e k le lt =
    elim (cases_Bool (nat_lt at a)) [
      | inl above ↦ let m : at < a = grind (arith, nat_tests, above) in inr (in_places n (at + 4) a (omega (arith, e)) k (omega (arith, e, k, m)) (omega (arith, lt)))
      | inr same ↦ let m : a ≤ at = grind (arith, nat_tests, same) in inl (omega (arith, le, m))
    ]

-- none of the places is one of the others
unfoldable pub Apart : List ℕ → List ℕ → Type 0
Apart taken ats = AllByRecursion (λ a. In taken a → ⊥) ats

apart_at : (taken ats : List ℕ) (a : ℕ) → Apart taken ats → In ats a → In taken a → ⊥
unfolding Apart In
apart_at taken [] a h k there = k
apart_at taken (x ∷ xs) a h k there = elim k [ inl e ↦ h.0 (subst (In taken) (sym e) there) | inr m ↦ apart_at taken xs a h.1 m there ]

pub no_overlap : (s : State) (taken : List ℕ) (n : ℕ) → Exact s taken → Apart taken (addresses_from s.at n) → 0 < n → overlaps s.closed s.at (s.at + 4 * n) ≡ false
unfolding InSegments
no_overlap s taken n h apart some =
    elim (cases_Bool (overlaps s.closed s.at (s.at + 4 * n))) [
      | inl e ↦
          let p = overlap_point s.closed s.at (s.at + 4 * n) h.even (omega (arith, some)) h.spans e in
          absurd (apart_at taken (addresses_from s.at n) p.0 apart (in_places n s.at p.0 h.even p.1 p.2 p.3) (h.within p.0 p.1 (inl p.4)))
      | inr e ↦ e
    ]
