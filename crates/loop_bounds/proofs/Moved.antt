-- Lists in another order, each of whose elements occurs once.
use Rattle.std.proofs.Common.{◌≡◌, ◌≢◌, ℕ, ◌<◌, ◌⊎◌, List, [], ◌∷◌, length, map, get_or, sym, ap, ◌∙◌, inl, inr, refl, arith}
use Rattle.std.specs.List.{swap}
use Rattle.std.specs.List.Sorted.{IsPermutation}
use Rattle.std.proofs.lemmas.Bool.{cases_eq}
use Rattle.std.proofs.lemmas.List.Edits.{Swapped, swapped_from_swap, length-swap}
use Rattle.std.proofs.lemmas.List.Sorted.{IsPermutation-keeps, IsPermutation-map}
use Rattle.std.proofs.lemmas.List.{length-map, get_or-map}

-- no element occurs twice
abbrev pub IsOnce : {X : Type 0} → List X → Type 0
IsOnce {X} xs = (i j : ℕ) (d : X) → i < length xs → j < length xs → get_or xs i d ≡ get_or xs j d → i ≡ j

-- where a swap of a and b took the element at m from
abbrev From : ℕ → ℕ → ℕ → ℕ → Type 0
From a b m k = ((m ≡ a) × (k ≡ b)) ⊎ (((m ≡ b) × (k ≡ a)) ⊎ ((m ≢ a) × (m ≢ b) × (k ≡ m)))

origin : {X : Type 0} (f g : ℕ → X) (a b m : ℕ) → Swapped f g a b → (m ≡ a) ⊎ (m ≢ a) → (m ≡ b) ⊎ (m ≢ b) → (k : ℕ) × From a b m k × (g m ≡ f k)
origin f g a b m s (inl e) y = (b, inl (e, refl), ap g e ∙ s.0)
origin f g a b m s (inr n) (inl e) = (a, inr (inl (e, refl)), ap g e ∙ s.1)
origin f g a b m s (inr n) (inr o) = (m, inr (inr (n, o, refl)), s.2 m n o)

once_swap : {X : Type 0} (xs : List X) (a b : ℕ) → a < length xs → b < length xs → IsOnce xs → IsOnce (swap xs a b)
once_swap xs a b p q once i j d within inside e =
    let len = length-swap xs a b in
    let s = swapped_from_swap xs (swap xs a b) a b d p q refl in
    let x = origin _ _ a b i s (cases_eq i a) (cases_eq i b) in
    let y = origin _ _ a b j s (cases_eq j a) (cases_eq j b) in
    let same = once x.0 y.0 d (omega (arith, x.1)) (omega (arith, y.1)) (sym x.2 ∙ e ∙ y.2) in
    omega (arith, x.1, y.1)

pub once_moved : {X : Type 0} (xs ys : List X) → IsPermutation xs ys → IsOnce xs → IsOnce ys
once_moved xs ys moved once = IsPermutation-keeps xs IsOnce once once_swap ys moved

pub some_of : {X : Type 0} (xs : List X) → 0 < length xs → X
some_of [] lt = absurd (omega arith)
some_of (x ∷ xs) lt = x

-- numbers of elements that no two share are still so in another order
pub numbers_once : {X : Type 0} (f : X → ℕ) (xs ys : List X) → IsPermutation xs ys → ((i j : ℕ) (d : X) → i < length xs → j < length xs → f (get_or xs i d) ≡ f (get_or xs j d) → i ≡ j) → (i j : ℕ) (d : X) → i < length ys → j < length ys → f (get_or ys i d) ≡ f (get_or ys j d) → i ≡ j
numbers_once f xs ys moved once i j d ilt jlt same =
    let mapped : IsOnce (map f xs) = λ a b e alt blt h.
    let len = length-map xs f in
    let a_in : a < length xs = omega arith in
    let b_in : b < length xs = omega arith in
    let x = some_of xs (omega arith) in
    once a b x a_in b_in (sym (get_or-map f xs a x e a_in) ∙ h ∙ get_or-map f xs b x e b_in) in
    let len = length-map ys f in
    once_moved (map f xs) (map f ys) (IsPermutation-map f xs ys moved) mapped i j 0 (omega arith) (omega arith) (get_or-map f ys i d 0 ilt ∙ same ∙ sym (get_or-map f ys j d 0 jlt))
