-- Whether some element passes a test.
use Rattle.std.proofs.Common.{◌≡◌, ◌∙◌, ℕ, zero, suc, ◌<◌, Bool, true, false, List, [], ◌∷◌, length, get_or, Contains, refl, ap, arith}
use Rattle.std.specs.Prelude.{◌||◌, ◌&&◌, filter, if◌then◌else◌}
use Rattle.std.specs.List.{list_any}
use Rattle.std.proofs.Math.Bool.{or-true}
use Rattle.control_flow.proofs.SortedLemmas.{here, there}

or_same : (a b c d : Bool) → a ≡ c → b ≡ d → (a || b) ≡ (c || d)
or_same a b c d one other = (λ i. one i || other i)

pub any_same : {X Y : Type 0} (f : X → Bool) (g : Y → Bool) (xs : List X) (ys : List Y) → length xs ≡ length ys → ((k : ℕ) (x : X) (y : Y) → k < length xs → f (get_or xs k x) ≡ g (get_or ys k y)) → list_any f xs ≡ list_any g ys
any_same f g [] [] same each = refl
any_same f g [] (y ∷ ys) same each = absurd (omega (arith, same))
any_same f g (x ∷ xs) [] same each = absurd (omega (arith, same))
any_same f g (x ∷ xs) (y ∷ ys) same each =
    or_same (f x) (list_any f xs) (g y) (list_any g ys) (each 0 x y (omega arith)) (any_same f g xs ys (omega (arith, same)) (λ k u v lt. each (suc k) u v (omega (arith, lt))))

pub any_none : {X : Type 0} (f : X → Bool) (xs : List X) → ((x : X) → Contains xs x → f x ≡ false) → list_any f xs ≡ false
any_none f [] none = refl
any_none f (x ∷ xs) none = or_same (f x) (list_any f xs) false false (none x (here x xs)) (any_none f xs (λ y has. none y (there x xs y has)))

pub any_some : {X : Type 0} (f : X → Bool) (xs : List X) (x : X) → Contains xs x → f x ≡ true → list_any f xs ≡ true
any_some f [] x has pass = let lt : has.0 < 0 = has.1 in absurd (omega arith)
any_some f (y ∷ xs) x (zero, lt, at) pass = or_same (f y) (list_any f xs) true (list_any f xs) (ap f at ∙ pass) refl
any_some f (y ∷ xs) x (suc k, lt, at) pass = or_same (f y) (list_any f xs) (f y) true refl (any_some f xs x (k, omega (arith, lt), at) pass) ∙ or-true (f y)

pub any_filter : {X : Type 0} (f g : X → Bool) (xs : List X) → list_any f (filter g xs) ≡ list_any (λ x. g x && f x) xs
any_filter f g [] = refl
any_filter {X} f g (x ∷ xs) =
    elim (g x) as (λ v. list_any f (if v then x ∷ filter g xs else filter g xs) ≡ ((v && f x) || list_any (λ y. g y && f y) xs)) [
      | true ↦ or_same (f x) (list_any f (filter g xs)) (f x) (list_any (λ y. g y && f y) xs) refl (any_filter f g xs)
      | false ↦ any_filter f g xs
    ]
