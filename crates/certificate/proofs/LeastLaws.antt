-- The least numbers that meet rows which ask for less than 2^63 are below it themselves.
use Rattle.std.proofs.Common.{◌≡◌, ◌∙◌, ◌*◌, ◌<◌, ◌≤◌, ◌^◌, Bool, true, false, ℕ, List, [], ◌∷◌, Option, Some, None, cond, map, refl, sym, ap, subst, arith}
use Rattle.std.specs.Prelude.{min, find, nat_eq, IfSome, Contains}
use Rattle.std.specs.List.{AllByRecursion}
use Rattle.std.specs.List.Sorted.{IsStrictlySortedBy}
use Rattle.std.specs.Cmp.{tied_itself}
use Rattle.std.specs.declared.cmp.Ordering.TheVariants.{Less, Equal}
use Rattle.std.proofs.Math.Nat.{mul-le-mul_left}
use Rattle.std.proofs.lemmas.List.Sums.{sum_by-le-sum_by}
use Rattle.std.proofs.lemmas.Map.Keys.{sorted_head, sorted_tail}
use Rattle.walks.specs.Walk.{Shape}
use Rattle.walks.specs.Greatest.{Loops}
use Rattle.walks.specs.Rows.{IsAtMost, Potentials, RowsFit, RowsHold, is_left, limit_at, needed, stay_of}
use Rattle.control_flow.specs.declared.places.Place.{Place}
use Rattle.control_flow.specs.declared.places.Place.TheVariants.{At}
use Rattle.control_flow.specs.Places.{place_cmp}
use Rattle.control_flow.proofs.PlaceLemmas.{place_total}
use Rattle.longest_walk.specs.Rows.{is_at}
use Rattle.longest_walk.proofs.CarryFind.{at_itself, at_place}

abbrev top : ℕ
top = 9223372036854775807

min_less : (n : ℕ) → min n top ≤ n
min_less n = omega arith

min_holds : (a b n : ℕ) → a ≤ b → b ≤ n → b < 2 ^ 63 → a ≤ min n top
min_holds a b n le holds fits = omega arith

from_min : (n : ℕ) → n ≤ min n top → n < 2 ^ 63
from_min n le = omega arith

-- no number above 2^63 - 1
abbrev pub capped : {P I : Type 0} → Potentials P I → Potentials P I
capped c = record { bound = min c.bound top; distance = λ p. min (c.distance p) top; arrival = λ i. min (c.arrival i) top; round = λ i. min (c.round i) top }

module _ {P E I : Type 0} (shape : Shape P E) (loops : Loops P I) (tree : List I) (c : Potentials P I) (is_exit : P → Bool) where
  stay_less : (i : I) → stay_of shape loops tree (capped c) i ≤ stay_of shape loops tree c i
  stay_less i =
      let product : loops.bound i * min (c.round i) top ≤ loops.bound i * c.round i = mul-le-mul_left (loops.bound i) (min_less (c.round i)) in
      let first : min (c.arrival i) top ≤ c.arrival i = min_less (c.arrival i) in
      omega (arith, product, first)

  left_less : (b : Bool) (i : I) → cond b (stay_of shape loops tree (capped c) i) 0 ≤ cond b (stay_of shape loops tree c i) 0
  left_less true i = stay_less i
  left_less false i = omega arith

  needed_less : (e : E) → needed shape loops tree (capped c) e ≤ needed shape loops tree c e
  needed_less e =
      let stays = sum_by-le-sum_by (λ i. cond (is_left shape loops e i) (stay_of shape loops tree (capped c) i) 0) (λ i. cond (is_left shape loops e i) (stay_of shape loops tree c i) 0) tree (λ i. left_less (is_left shape loops e i) i) in
      let start : min (c.distance (shape.from e)) top ≤ c.distance (shape.from e) = min_less (c.distance (shape.from e)) in
      omega (arith, stays, start)

  row_holds : (e : E) (o : Option I) → IfSome (limit_at shape loops tree c is_exit e o) (λ n. needed shape loops tree c e ≤ n) → IfSome (limit_at shape loops tree c is_exit e o) (λ _. needed shape loops tree c e < 2 ^ 63)
      → IfSome (limit_at shape loops tree (capped c) is_exit e o) (λ n. needed shape loops tree (capped c) e ≤ n)
  row_holds e None holds fits = at_place_limit (is_exit (shape.to e)) holds fits
    where
      at_place_limit : (b : Bool) → needed shape loops tree c e ≤ cond b c.bound (c.distance (shape.to e)) → needed shape loops tree c e < 2 ^ 63
          → needed shape loops tree (capped c) e ≤ cond b (min c.bound top) (min (c.distance (shape.to e)) top)
      at_place_limit true h f = min_holds _ _ _ (needed_less e) h f
      at_place_limit false h f = min_holds _ _ _ (needed_less e) h f
  row_holds e (Some i) holds fits = at_header (loops.is_member i (shape.from e)) (nat_eq (loops.bound i) 0) holds fits
    where
      at_header : (m z : Bool) → IfSome (cond m (cond z None (Some (c.round i))) (Some (c.arrival i))) (λ n. needed shape loops tree c e ≤ n)
          → IfSome (cond m (cond z None (Some (c.round i))) (Some (c.arrival i))) (λ _. needed shape loops tree c e < 2 ^ 63)
          → IfSome (cond m (cond z None (Some (min (c.round i) top))) (Some (min (c.arrival i) top))) (λ n. needed shape loops tree (capped c) e ≤ n)
      at_header true true h f = tt
      at_header true false h f = min_holds _ _ _ (needed_less e) h f
      at_header false z h f = min_holds _ _ _ (needed_less e) h f

  pub capped_holds : (is_edge : E → Type 0) → RowsHold shape loops tree c is_exit is_edge → RowsFit shape loops tree c is_exit is_edge → RowsHold shape loops tree (capped c) is_exit is_edge
  capped_holds is_edge holds fits = λ e h. row_holds e (find (λ i. loops.is_header i (shape.to e)) tree) (holds e h) (fits e h)

  pub record AreBelow : Type 0 where
    pub distances : (p : P) → is_exit p ≡ false → c.distance p < 2 ^ 63
    pub arrivals : (i : I) → Contains tree i → c.arrival i < 2 ^ 63
    pub rounds : (i : I) → Contains tree i → c.round i < 2 ^ 63

  pub are_below : IsAtMost is_exit tree c (capped c) → AreBelow
  are_below most = record {
    distances = λ p e. from_min (c.distance p) (most.distances p e);
    arrivals = λ i h. from_min (c.arrival i) (most.arrivals i h);
    rounds = λ i h. from_min (c.round i) (most.rounds i h);
  }

-- ## The row of a place

module _ {R : Type 0} (list : R → List ℕ) (address : R → ℕ) where
  abbrev pub about : R → Place
  about r = At (list r) (address r)

  abbrev pub finds : List R → R → Type 0
  finds rows r = find (λ x. is_at (list x) (address x) (about r)) rows ≡ Some r

  after : (x r : R) (rows : List R) → place_cmp (about x) (about r) ≡ Less → finds rows r → finds (x ∷ rows) r
  after x r rows below found = by (is_at (list x) (address x) (about r)) refl
    where
      by : (b : Bool) → is_at (list x) (address x) (about r) ≡ b → cond b (Some x) (find (λ y. is_at (list y) (address y) (about r)) rows) ≡ Some r
      by true e =
          let same : about x ≡ about r = at_place (list x) (address x) (about r) e in
          let tied : place_cmp (about x) (about r) ≡ Equal = subst (λ p. place_cmp (about x) p ≡ Equal) same (tied_itself place_total (about x)) in
          let both : Less ≡ Equal = sym below ∙ tied in
          cc
      by false e = found

  first : (r : R) (rows : List R) → finds (r ∷ rows) r
  first r rows = ap (λ (b : Bool). cond b (Some r) (find (λ y. is_at (list y) (address y) (about r)) rows)) (at_itself (list r) (address r))

  all_after : (x : R) (rows some : List R) → AllByRecursion (λ p. place_cmp (about x) p ≡ Less) (map about some) → AllByRecursion (finds rows) some → AllByRecursion (finds (x ∷ rows)) some
  all_after x rows [] below found = tt
  all_after x rows (r ∷ some) below found = (after x r rows below.0 found.0, all_after x rows some below.1 found.1)

  -- each row of an ascending list is found by its place
  pub all_found : (rows : List R) → IsStrictlySortedBy place_cmp (map about rows) → AllByRecursion (finds rows) rows
  all_found [] sorted = tt
  all_found (x ∷ rows) sorted =
      (first x rows, all_after x rows rows (sorted_head place_cmp (about x) (map about rows) sorted) (all_found rows (sorted_tail place_cmp (about x) (map about rows) sorted)))
