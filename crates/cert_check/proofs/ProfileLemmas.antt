-- Profiles are the same where their numbers are.
use Rattle.std.proofs.Common.{◌≡◌, ◌∙◌, ℕ, ◌<◌, ◌≤◌, Bool, true, false, eqb, ◌&&◌, List, [], ◌∷◌, get_or, refl, sym, ap, subst}
use Rattle.std.specs.Prelude.{IsTrue, ◌↔◌}
use Rattle.std.proofs.Props.{props}
use Rattle.std.proofs.lemmas.Bool.{and_from, and_parts, eq-eqb, eqb-true}
use Rattle.bus_ticks.specs.declared.profile.Profile.{Profile}
use Rattle.bus_ticks.specs.Numbers.{numbers_of}
use Rattle.bus_ticks.specs.Ranges.{IsPrice, greatest}

-- the number at an index
abbrev span_at : List ℕ → ℕ → ℕ
span_at xs k = get_or xs k 0

-- what each profile keeps, of its numbers
abbrev Keeps : List ℕ → Type 0
Keeps xs =
    IsPrice (span_at xs 0) × IsPrice (span_at xs 1) × IsPrice (span_at xs 2) × IsPrice (span_at xs 3) × IsPrice (span_at xs 4) × IsPrice (span_at xs 5) × IsPrice (span_at xs 6) × IsPrice (span_at xs 7) × IsPrice (span_at xs 8) × IsPrice (span_at xs 9) × IsPrice (span_at xs 10) × IsPrice (span_at xs 11) × IsPrice (span_at xs 12) × IsPrice (span_at xs 13) × (span_at xs 14 < 256) × (span_at xs 1 ≤ span_at xs 2) × (span_at xs 2 ≤ span_at xs 0) × (span_at xs 0 ≤ greatest (span_at xs 7) (span_at xs 8) (span_at xs 9) (span_at xs 10)) × (greatest (span_at xs 3) (span_at xs 4) (span_at xs 5) (span_at xs 6) ≤ greatest (span_at xs 7) (span_at xs 8) (span_at xs 9) (span_at xs 10)) × (span_at xs 11 ≤ greatest (span_at xs 7) (span_at xs 8) (span_at xs 9) (span_at xs 10))

keeps_once : (xs : List ℕ) (k l : Keeps xs) → k ≡ l
keeps_once xs = hlevel props

abbrev profile_from : (xs : List ℕ) → Keeps xs → Profile
profile_from xs k = record {
  n = span_at xs 0;
  s = span_at xs 1;
  quad = span_at xs 2;
  rom_0 = span_at xs 3;
  rom_1 = span_at xs 4;
  rom_2 = span_at xs 5;
  rom_3 = span_at xs 6;
  slow = span_at xs 7;
  medium = span_at xs 8;
  fast = span_at xs 9;
  synchronous = span_at xs 10;
  control = span_at xs 11;
  unfitted = span_at xs 12;
  internal = span_at xs 13;
  burst = span_at xs 14;
  n_price = k.0;
  s_price = k.1;
  quad_price = k.2;
  rom_0_price = k.3;
  rom_1_price = k.4;
  rom_2_price = k.5;
  rom_3_price = k.6;
  slow_price = k.7;
  medium_price = k.8;
  fast_price = k.9;
  synchronous_price = k.10;
  control_price = k.11;
  unfitted_price = k.12;
  internal_price = k.13;
  burst_price = k.14;
  s_first = k.15;
  quad_second = k.16;
  n_below = k.17;
  rom_below = k.18;
  control_below = k.19;
}

abbrev keeps : (p : Profile) → Keeps (numbers_of p)
keeps p = (p.n_price, p.s_price, p.quad_price, p.rom_0_price, p.rom_1_price, p.rom_2_price, p.rom_3_price, p.slow_price, p.medium_price, p.fast_price, p.synchronous_price, p.control_price, p.unfitted_price, p.internal_price, p.burst_price, p.s_first, p.quad_second, p.n_below, p.rom_below, p.control_below)

pub one_profile : (p q : Profile) → numbers_of p ≡ numbers_of q → p ≡ q
one_profile p q same =
    subst (λ (xs : List ℕ). (k : Keeps xs) → profile_from (numbers_of p) (keeps p) ≡ profile_from xs k) same
    (λ k. ap (profile_from (numbers_of p)) (keeps_once (numbers_of p) (keeps p) k))
    (keeps q)

-- ## The comparison of profiles

-- all numbers are equal, pair by pair
abbrev pairwise : ℕ → List ℕ → ℕ → List ℕ → Bool
pairwise x [] y [] = eqb x y
pairwise x [] y (b ∷ ys) = false
pairwise x (a ∷ xs) y [] = false
pairwise x (a ∷ xs) y (b ∷ ys) = eqb x y && pairwise a xs b ys

pairwise_equal : (x : ℕ) (xs : List ℕ) (y : ℕ) (ys : List ℕ) → pairwise x xs y ys ≡ true → x ∷ xs ≡ y ∷ ys
pairwise_equal x [] y [] is = ap (λ (z : ℕ). z ∷ []) (eqb-true x y is)
pairwise_equal x [] y (b ∷ ys) is = cc
pairwise_equal x (a ∷ xs) y [] is = cc
pairwise_equal x (a ∷ xs) y (b ∷ ys) is =
    let parts = and_parts (eqb x y) (pairwise a xs b ys) is in
    let first : x ≡ y = eqb-true x y parts.0 in
    let rest : a ∷ xs ≡ b ∷ ys = pairwise_equal a xs b ys parts.1 in
    (λ i. first i ∷ rest i)

pairwise_itself : (x : ℕ) (xs : List ℕ) → pairwise x xs x xs ≡ true
pairwise_itself x [] = eq-eqb x x refl
pairwise_itself x (a ∷ xs) = and_from (eqb x x) (pairwise a xs a xs) (eq-eqb x x refl) (pairwise_itself a xs)

abbrev after_first : Profile → List ℕ
after_first p = p.s ∷ p.quad ∷ p.rom_0 ∷ p.rom_1 ∷ p.rom_2 ∷ p.rom_3 ∷ p.slow ∷ p.medium ∷ p.fast ∷ p.synchronous ∷ p.control ∷ p.unfitted ∷ p.internal ∷ p.burst ∷ []

pub profile_decides : (p q r : Profile) (b : Bool) → b ≡ pairwise p.n (after_first p) r.n (after_first r) → r ≡ q → IsTrue b ↔ (p ≡ q)
profile_decides p q r b is read = (
  λ yes. one_profile p r (pairwise_equal p.n (after_first p) r.n (after_first r) (sym is ∙ yes)) ∙ read,
  λ same. is ∙ ap (λ (t : Profile). pairwise p.n (after_first p) t.n (after_first t)) (read ∙ sym same) ∙ pairwise_itself p.n (after_first p),
)
