-- Which row is found for a place, and which span is where.
use Rattle.std.proofs.Common.{◌≡◌, ◌≢◌, ℕ, zero, suc, ◌<◌, Bool, true, false, cond, eqb, List, [], ◌∷◌, length, get_or, AllPairs, Contains, Some, refl, sym, ap, subst, arith}
use Rattle.std.specs.List.{find}
use Rattle.std.specs.Cmp.Lexicographic.{pointwise}
use Rattle.std.proofs.lemmas.Bool.{both_ways, eq-eqb, eqb-true, ne_eqb, and_parts, and_from}
use Rattle.control_flow.specs.declared.places.Place.{Place}
use Rattle.control_flow.specs.declared.places.Place.TheVariants.{At, Exit}
use Rattle.numbered_walks.specs.declared.span.Span.{Span}
use Rattle.loop_bounds.proofs.ExtentOf.{list_itself, same_list}
use Rattle.longest_walk.specs.Rows.{is_at}

-- ## Finding

-- where the span with this header is
abbrev pub index_of : List Span → ℕ → ℕ
index_of [] h = 0
index_of (s ∷ spans) h = cond (eqb s.header h) 0 (suc (index_of spans h))

pub index_is : (spans : List Span) → AllPairs (λ s t. s.header ≢ t.header) spans → (k : ℕ) (d : Span) → k < length spans → index_of spans (get_or spans k d).header ≡ k
index_is [] differ k d lt = absurd (omega arith)
index_is (s ∷ spans) differ zero d lt = rw (eq-eqb s.header s.header refl) refl
index_is (s ∷ spans) differ (suc k) d lt =
    let apart : eqb s.header (get_or spans k d).header ≡ false = ne_eqb s.header (get_or spans k d).header (differ 0 (suc k) d (omega arith) lt) in
    let rest : index_of spans (get_or spans k d).header ≡ k = index_is spans (λ a b e less inside. differ (suc a) (suc b) e (omega arith) (omega arith)) k d (omega arith) in
    rw apart (ap (λ (n : ℕ). suc n) rest)

-- what passes is found, or some other before it
pub find_known : {X : Type 0} (test : X → Bool) (xs : List X) (x : X) → Contains xs x → test x ≡ true → (y : X) × (find test xs ≡ Some y)
find_known test [] x has pass = let lt : has.0 < 0 = has.1 in absurd (omega arith)
find_known {X} test (y ∷ xs) x has pass =
    elim (test y) as (λ v. test y ≡ v → (z : X) × (cond v (Some y) (find test xs) ≡ Some z)) [
      | true ↦ λ here. (y, refl)
      | false ↦ λ other. find_known test xs x (later has.0 has.1 has.2 other) pass
    ] refl
  where
    later : (k : ℕ) → k < length (y ∷ xs) → get_or (y ∷ xs) k x ≡ x → test y ≡ false → Contains xs x
    later zero lt at fails = absurd (both_ways (test y) fails (subst (λ (z : X). test z ≡ true) (sym at) pass))
    later (suc k) lt at fails = (k, omega arith, at)

-- ## Places of rows

pub at_place : (list : List ℕ) (a : ℕ) (p : Place) → is_at list a p ≡ true → At list a ≡ p
at_place list a (At calls b) h =
    let parts = and_parts (pointwise eqb list calls) (eqb a b) h in
    let e : list ≡ calls = same_list list calls parts.0 in
    let f : a ≡ b = eqb-true a b parts.1 in
    (λ j. At (e j) (f j))
at_place list a Exit h = cc

pub at_itself : (list : List ℕ) (a : ℕ) → is_at list a (At list a) ≡ true
at_itself list a = and_from (pointwise eqb list list) (eqb a a) (list_itself list) (eq-eqb a a refl)
