-- Rows that hold: no walk that keeps the bounds costs more than the numbers say.
use Rattle.std.proofs.Common.{◌≡◌, ℕ, zero, suc, ◌+◌, ◌*◌, ◌<◌, ◌≤◌, Bool, true, false, cond, eqb, List, [], ◌∷◌, inl, inr, length, get_or, sum_by, Contains, Option, Some, None, refl, sym, subst, arith}
use Rattle.std.specs.List.{find}
use Rattle.std.specs.Option.{IfSome}
use Rattle.std.proofs.lemmas.Bool.{true≢false, false≢true, ne_eqb}
use Rattle.std.proofs.lemmas.List.Sums.{sum_by-le}
use Rattle.std.proofs.lemmas.List.Elements.{Contains-get_or}
use Rattle.walks.specs.Walk.{Shape, Leads, cost_of}
use Rattle.walks.specs.Greatest.{KeepsBounds, Loops, ends_at_header}
use Rattle.walks.specs.Rows.{Potentials, RowsHold, limit_at, needed, stay_of, is_left}
use Rattle.walks.proofs.Soundness.{Row, Follows, walk-le}

-- what `find` finds is in the list and passes
pub find_some : {X : Type 0} (p : X → Bool) (xs : List X) (x : X) → find p xs ≡ Some x → Contains xs x × (p x ≡ true)
find_some p [] x is = absurd cc
find_some {X} p (y ∷ ys) x is =
    elim (p y) as (λ v. p y ≡ v → cond v (Some y) (find p ys) ≡ Some x → Contains (y ∷ ys) x × (p x ≡ true)) [
      | true ↦ λ passes found.
          let same : y ≡ x = cc in
          ((zero, omega arith, same), subst (λ (z : X). p z ≡ true) same passes)
      | false ↦ λ fails found.
          let rest : Contains ys x × (p x ≡ true) = find_some p ys x found in
          ((suc rest.0.0, omega (arith, rest.0.1), rest.0.2), rest.1)
    ] refl is

pub back_row : (x : Bool) (b r a n : ℕ) → x ≡ true → 0 < b → IfSome (cond x (cond (eqb b 0) None (Some r)) (Some a)) (λ m. n ≤ m) → n ≤ r
back_row true b r a n is some row =
    let positive : eqb b 0 ≡ false = ne_eqb b 0 (λ zero_is. omega arith) in
    rw positive at row
back_row false b r a n is some row = absurd (false≢true is)

pub enter_row : (x : Bool) (b r a n : ℕ) → x ≡ false → IfSome (cond x (cond (eqb b 0) None (Some r)) (Some a)) (λ m. n ≤ m) → n ≤ a
enter_row false b r a n is row = row
enter_row true b r a n is row = absurd (true≢false is)

module _ {P E I : Type 0} (shape : Shape P E) (loops : Loops P I) (is_exit : P → Bool) (is_edge : E → Type 0) (tree : List I) (c : Potentials P I) (headers : (i : I) → Contains tree i → (p : P) → loops.is_header i p ≡ true → loops.is_member i p ≡ true) (exit_outside : (i : I) → Contains tree i → (p : P) → is_exit p ≡ true → loops.is_member i p ≡ false) (exit_last : (e : E) → is_edge e → is_exit (shape.from e) ≡ false) (rows : RowsHold shape loops tree c is_exit is_edge) where
  -- the distance of a place, and the bound at the exit
  abbrev pub at : P → ℕ
  at p = cond (is_exit p) c.bound (c.distance p)

  abbrev RowOf : E → Type 0
  RowOf e = Row shape.from shape.to shape.cost loops.is_member (ends_at_header shape loops) loops.bound c.arrival c.round at tree e

  asks : E → ℕ
  asks e = cond (is_exit (shape.from e)) c.bound (c.distance (shape.from e)) + sum_by (λ i. cond (is_left shape loops e i) (stay_of shape loops tree c i) 0) tree + shape.cost e

  asks-is : (e : E) → is_exit (shape.from e) ≡ false → asks e ≡ needed shape loops tree c e
  unfolding asks
  asks-is e is = rw is refl

  row_cases : (e : E) → is_exit (shape.from e) ≡ false → (o : Option I) → find (λ i. loops.is_header i (shape.to e)) tree ≡ o → IfSome (limit_at shape loops tree c is_exit e o) (λ n. needed shape loops tree c e ≤ n) → RowOf e
  unfolding asks
  row_cases e from_inside None is row =
      inr (subst (λ (n : ℕ). n ≤ at (shape.to e)) (sym (asks-is e from_inside)) row)
  row_cases e from_inside (Some i) is row =
      let found = find_some (λ j. loops.is_header j (shape.to e)) tree i is in
      inl (record {
        instance = i;
        in_tree = found.0;
        turns = found.1;
        at_header = headers i found.0 (shape.to e) found.1;
        back = λ is_in some. subst (λ (n : ℕ). n ≤ c.round i) (sym (asks-is e from_inside)) (back_row (loops.is_member i (shape.from e)) (loops.bound i) (c.round i) (c.arrival i) (needed shape loops tree c e) is_in some row);
        enter = λ is_out. subst (λ (n : ℕ). n ≤ c.arrival i) (sym (asks-is e from_inside)) (enter_row (loops.is_member i (shape.from e)) (loops.bound i) (c.round i) (c.arrival i) (needed shape loops tree c e) is_out row);
      })

  follows_of : (p : P) (walk : List E) (q : P) → Leads shape is_edge p walk q → Follows shape.from shape.to shape.cost loops.is_member (ends_at_header shape loops) loops.bound c.arrival c.round at tree p walk q
  follows_of p [] q is = is
  follows_of p (e ∷ rest) q (in_graph, starts, leads) =
      (starts, row_cases e (exit_last e in_graph) (find (λ i. loops.is_header i (shape.to e)) tree) refl (rows e in_graph), follows_of (shape.to e) rest q leads)

  -- what a walk to the place costs at most
  abbrev pub total_at : P → ℕ
  total_at q = sum_by (λ i. cond (loops.is_member i q) (stay_of shape loops tree c i) 0) tree + at q

  -- a walk to any place that keeps the bounds costs at most the place's total
  pub walk_to-le : (p q : P) (walk : List E) → Leads shape is_edge p walk q → KeepsBounds shape loops (Contains tree) walk → cost_of shape walk ≤ total_at q
  walk_to-le p q walk leads keeps =
      let all : 0 + sum_by shape.cost walk ≤ total_at q =
      walk-le shape.from shape.to shape.cost loops.is_member (ends_at_header shape loops) loops.bound c.arrival c.round at tree [] walk 0 p q
      (λ n d inside. keeps (get_or tree n d) (Contains-get_or tree n d inside)) (follows_of p walk q leads) (omega arith) in
      omega arith

  pub total-exit : (q : P) → is_exit q ≡ true → total_at q ≡ c.bound
  total-exit q is =
      let none : sum_by (λ i. cond (loops.is_member i q) (stay_of shape loops tree c i) 0) tree ≤ length tree * 0 =
      sum_by-le (λ i. cond (loops.is_member i q) (stay_of shape loops tree c i) 0) 0 tree
      (λ n d inside. rw (exit_outside (get_or tree n d) (Contains-get_or tree n d inside) q is) (omega arith)) in
      rw is (omega arith)

  -- so the bound is no less than what a walk to the exit costs
  pub walk_to_exit-le : (p q : P) → is_exit q ≡ true → (walk : List E) → Leads shape is_edge p walk q → KeepsBounds shape loops (Contains tree) walk → cost_of shape walk ≤ c.bound
  walk_to_exit-le p q is walk leads keeps = omega (arith, walk_to-le p q walk leads keeps, total-exit q is)
