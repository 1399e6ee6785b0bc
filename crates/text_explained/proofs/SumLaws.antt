-- Sums of sums.
use Rattle.std.proofs.Common.{◌≡◌, ◌∙◌, ℕ, ◌+◌, ◌*◌, min, Bool, true, false, cond, List, [], ◌∷◌, flat_map, map, refl, sym, ap, arith}
use Rattle.std.specs.Prelude.{All, count_by, sum_by}
use Rattle.std.proofs.lemmas.List.Elements.{All-head, All-tail}
use Rattle.std.proofs.lemmas.List.Sums.{sum_by-append, sum_by-cons}
use Rattle.walk_counts.proofs.SumLemmas.{sum_none}
use Rattle.walks.proofs.SumLe.{sum_by-both}

pub capped_sums : {X : Type 0} (m : ℕ) (f : X → ℕ) (xs : List X) → min (sum_by (λ x. min (f x) m) xs) m ≡ min (sum_by f xs) m
capped_sums m f [] = refl
capped_sums m f (x ∷ xs) = omega (arith, sum_by-cons (λ y. min (f y) m) x xs, sum_by-cons f x xs, capped_sums m f xs)

pub sum-flat_map : {X Y : Type 0} (g : X → List Y) (f : Y → ℕ) (xs : List X) → sum_by f (flat_map g xs) ≡ sum_by (λ x. sum_by f (g x)) xs
sum-flat_map g f [] = refl
sum-flat_map g f (x ∷ xs) =
    omega (arith, sum_by-append f (g x) (flat_map g xs), sum_by-cons (λ y. sum_by f (g y)) x xs, sum-flat_map g f xs)

pub same_terms : {X : Type 0} (f g : X → ℕ) (xs : List X) → All (λ x. f x ≡ g x) xs → sum_by f xs ≡ sum_by g xs
same_terms f g [] all = refl
same_terms f g (x ∷ xs) all =
    let here : f x ≡ g x = All-head (λ y. f y ≡ g y) x xs all in
    omega (arith, sum_by-cons f x xs, sum_by-cons g x xs, same_terms f g xs (All-tail (λ y. f y ≡ g y) x xs all))

-- a sum by rows is the sum by columns
pub exchanged : {A E : Type 0} (f : A → E → ℕ) (rows : List A) (es : List E) → sum_by (λ a. sum_by (f a) es) rows ≡ sum_by (λ e. sum_by (λ a. f a e) rows) es
exchanged f [] es = sym (sum_none es)
exchanged {A} {E} f (a ∷ rows) es =
    sum_by-cons (λ x. sum_by (f x) es) a rows ∙ ap (λ n. sum_by (f a) es + n) (exchanged f rows es)
    ∙ sym (sum_by-both (f a) (λ e. sum_by (λ x. f x e) rows) es)
    ∙ (λ i. sum_by (λ (e : E). sym (sum_by-cons (λ x. f x e) a rows) i) es)

pub counted_sum : {X : Type 0} (p : X → Bool) (cost : ℕ) (xs : List X) → sum_by (λ x. cond (p x) cost 0) xs ≡ count_by p xs * cost
counted_sum p cost [] = omega arith
counted_sum p cost (x ∷ xs) =
    let here : cond (p x) cost 0 ≡ cond (p x) 1 0 * cost = elim (p x) as (λ b. cond b cost 0 ≡ cond b 1 0 * cost) [ true ↦ omega arith | false ↦ omega arith ] in
    let rest = counted_sum p cost xs in
    let all : count_by p (x ∷ xs) ≡ cond (p x) 1 0 + count_by p xs = sum_by-cons (λ y. cond (p y) 1 0) x xs in
    let joins : cond (p x) 1 0 * cost + count_by p xs * cost ≡ (cond (p x) 1 0 + count_by p xs) * cost = omega arith in
    sum_by-cons (λ y. cond (p y) cost 0) x xs ∙ (λ i. here i + rest i) ∙ joins ∙ ap (λ n. n * cost) (sym all)

pub sum-map_terms : {X : Type 0} (g : X → ℕ) (f : ℕ → ℕ) (xs : List X) → sum_by f (map g xs) ≡ sum_by (λ x. f (g x)) xs
sum-map_terms g f [] = refl
sum-map_terms g f (x ∷ xs) = omega (arith, sum_by-cons f (g x) (map g xs), sum_by-cons (λ y. f (g y)) x xs, sum-map_terms g f xs)
