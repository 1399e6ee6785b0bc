-- Rows in two settings: where an edge sees the same numbers and the same instances, its row asks the same.
use Rattle.std.proofs.Common.{◌≡◌, ℕ, suc, ◌+◌, ◌*◌, ◌^◌, ◌<◌, ◌≤◌, Bool, true, false, cond, not, eqb, ◌&&◌, List, [], ◌∷◌, length, get_or, sum_by, Option, Some, None, refl, sym, ap, subst, arith}
use Rattle.std.specs.List.{find}
use Rattle.std.specs.Option.{IfSome}
use Rattle.std.proofs.lemmas.Bool.{true≢false, false≢true}
use Rattle.std.proofs.lemmas.List.Sums.{sum_by-cons}
use Rattle.walks.specs.Walk.{Shape}
use Rattle.walks.specs.Greatest.{Loops}
use Rattle.walks.specs.Rows.{Potentials, RowFits, RowHolds, limit_at, limit_of, needed, place_limit}

-- two choices by the same test
pub cond_same : {X : Type 0} (a b : Bool) (x y u v : X) → a ≡ b → (a ≡ true → x ≡ u) → (a ≡ false → y ≡ v) → cond a x y ≡ cond b u v
cond_same true true x y u v is one other = one refl
cond_same false false x y u v is one other = other refl
cond_same true false x y u v is one other = absurd (true≢false is)
cond_same false true x y u v is one other = absurd (false≢true is)

pick_same : {I J : Type 0} {Z : Type 0} (to : Option I → Z) (from : Option J → Z) (a b : Bool) (x : I) (y : J) (xs : Option I) (ys : Option J) → a ≡ b → to (Some x) ≡ from (Some y) → to xs ≡ from ys → to (cond a (Some x) xs) ≡ from (cond b (Some y) ys)
pick_same to from true true x y xs ys is one other = one
pick_same to from false false x y xs ys is one other = other
pick_same to from true false x y xs ys is one other = absurd (true≢false is)
pick_same to from false true x y xs ys is one other = absurd (false≢true is)

module _ {P E I Q F J : Type 0} (shape : Shape P E) (loops : Loops P I) (is_exit : P → Bool) (c : Potentials P I) (shape' : Shape Q F) (loops' : Loops Q J) (is_exit' : Q → Bool) (d : Potentials Q J) where
  -- the edges see the two instances alike, and these have the same numbers
  pub record SeesSame (e : E) (f : F) (i : I) (j : J) : Type 0 where
    pub from_is : loops.is_member i (shape.from e) ≡ loops'.is_member j (shape'.from f)
    pub to_is : loops.is_member i (shape.to e) ≡ loops'.is_member j (shape'.to f)
    pub header_is : loops.is_header i (shape.to e) ≡ loops'.is_header j (shape'.to f)
    pub bound_is : loops.bound i ≡ loops'.bound j
    pub arrival_is : c.arrival i ≡ d.arrival j
    pub round_is : c.round i ≡ d.round j

  pub record SeesAll (e : E) (f : F) (xs : List I) (ys : List J) : Type 0 where
    pub same : length xs ≡ length ys
    pub each : (k : ℕ) (x : I) (y : J) → k < length xs → SeesSame e f (get_or xs k x) (get_or ys k y)

  sees_rest : (e : E) (f : F) (x : I) (xs : List I) (y : J) (ys : List J) → SeesAll e f (x ∷ xs) (y ∷ ys) → SeesAll e f xs ys
  sees_rest e f x xs y ys all = record { same = omega (arith, all.same); each = λ k u v lt. all.each (suc k) u v (omega arith) }

  abbrev left : E → I → ℕ
  left e i = cond (loops.is_member i (shape.from e) && not (loops.is_member i (shape.to e))) (c.arrival i + loops.bound i * c.round i) 0

  abbrev left' : F → J → ℕ
  left' f j = cond (loops'.is_member j (shape'.from f) && not (loops'.is_member j (shape'.to f))) (d.arrival j + loops'.bound j * d.round j) 0

  left_same : (e : E) (f : F) (i : I) (j : J) → SeesSame e f i j → left e i ≡ left' f j
  left_same e f i j s = (λ k. cond {A = ℕ} (s.from_is k && not (s.to_is k)) (s.arrival_is k + s.bound_is k * s.round_is k) 0)

  sums_same : (e : E) (f : F) (xs : List I) (ys : List J) → SeesAll e f xs ys → sum_by (left e) xs ≡ sum_by (left' f) ys
  sums_same e f [] [] all = refl
  sums_same e f [] (y ∷ ys) all = absurd (omega (arith, all.same))
  sums_same e f (x ∷ xs) [] all = absurd (omega (arith, all.same))
  sums_same e f (x ∷ xs) (y ∷ ys) all =
      let here : left e x ≡ left' f y = left_same e f x y (all.each 0 x y (omega arith)) in
      let rest : sum_by (left e) xs ≡ sum_by (left' f) ys = sums_same e f xs ys (sees_rest e f x xs y ys all) in
      omega (arith, sum_by-cons (left e) x xs, sum_by-cons (left' f) y ys)

  -- the row's number, of the first instance of these whose header the edge leads to
  module _ (tree : List I) (tree' : List J) where
    header_limit_same : (e : E) (f : F) (i : I) (j : J) → SeesSame e f i j → limit_at shape loops tree c is_exit e (Some i) ≡ limit_at shape' loops' tree' d is_exit' f (Some j)
    header_limit_same e f i j s = (λ k. cond {A = Option ℕ} (s.from_is k) (cond {A = Option ℕ} (eqb (s.bound_is k) 0) None (Some (s.round_is k))) (Some (s.arrival_is k)))

    limit_same : (e : E) (f : F) (xs : List I) (ys : List J) → SeesAll e f xs ys → place_limit shape loops tree c is_exit e ≡ place_limit shape' loops' tree' d is_exit' f → limit_at shape loops tree c is_exit e (find (λ i. loops.is_header i (shape.to e)) xs) ≡ limit_at shape' loops' tree' d is_exit' f (find (λ j. loops'.is_header j (shape'.to f)) ys)
    limit_same e f [] [] all place_is = ap (λ (n : ℕ). Some n) place_is
    limit_same e f [] (y ∷ ys) all place_is = absurd (omega (arith, all.same))
    limit_same e f (x ∷ xs) [] all place_is = absurd (omega (arith, all.same))
    limit_same e f (x ∷ xs) (y ∷ ys) all place_is =
        let here : SeesSame e f x y = all.each 0 x y (omega arith) in
        pick_same (limit_at shape loops tree c is_exit e) (limit_at shape' loops' tree' d is_exit' f) (loops.is_header x (shape.to e)) (loops'.is_header y (shape'.to f)) x y (find (λ i. loops.is_header i (shape.to e)) xs) (find (λ j. loops'.is_header j (shape'.to f)) ys) here.header_is (header_limit_same e f x y here) (limit_same e f xs ys (sees_rest e f x xs y ys all) place_is)

    -- the edges' rows are the same
    pub record SameRow (e : E) (f : F) : Type 0 where
      pub from_is : c.distance (shape.from e) ≡ d.distance (shape'.from f)
      pub place_is : place_limit shape loops tree c is_exit e ≡ place_limit shape' loops' tree' d is_exit' f
      pub cost_is : shape.cost e ≡ shape'.cost f
      pub instances_are : SeesAll e f tree tree'

    needed_same : (e : E) (f : F) → SameRow e f → needed shape loops tree c e ≡ needed shape' loops' tree' d f
    needed_same e f s =
        let sums : sum_by (left e) tree ≡ sum_by (left' f) tree' = sums_same e f tree tree' s.instances_are in
        (λ k. s.from_is k + sums k + s.cost_is k)

    row_same : (e : E) (f : F) → SameRow e f → limit_of shape loops tree c is_exit e ≡ limit_of shape' loops' tree' d is_exit' f
    row_same e f s = limit_same e f tree tree' s.instances_are s.place_is

    abbrev Holds : Option ℕ → ℕ → Type 0
    Holds o m = IfSome o (λ n. m ≤ n)

    abbrev Fits : Option ℕ → ℕ → Type 0
    Fits o m = IfSome o (λ _. m < 2 ^ 63)

    pub row_there : (e : E) (f : F) → SameRow e f → RowHolds shape loops tree c is_exit e → RowHolds shape' loops' tree' d is_exit' f
    row_there e f s row = subst (λ (m : ℕ). Holds (limit_of shape' loops' tree' d is_exit' f) m) (needed_same e f s) (subst (λ (o : Option ℕ). Holds o (needed shape loops tree c e)) (row_same e f s) row)

    pub row_back : (e : E) (f : F) → SameRow e f → RowHolds shape' loops' tree' d is_exit' f → RowHolds shape loops tree c is_exit e
    row_back e f s row = subst (λ (m : ℕ). Holds (limit_of shape loops tree c is_exit e) m) (sym (needed_same e f s)) (subst (λ (o : Option ℕ). Holds o (needed shape' loops' tree' d f)) (sym (row_same e f s)) row)

    pub fit_back : (e : E) (f : F) → SameRow e f → RowFits shape' loops' tree' d is_exit' f → RowFits shape loops tree c is_exit e
    fit_back e f s row = subst (λ (m : ℕ). Fits (limit_of shape loops tree c is_exit e) m) (sym (needed_same e f s)) (subst (λ (o : Option ℕ). Fits o (needed shape' loops' tree' d f)) (sym (row_same e f s)) row)
