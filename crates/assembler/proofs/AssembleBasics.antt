-- Lists, tests and words that several of the next lemmas need.
use Rattle.std.proofs.Common.{◌≡◌, ◌+◌, ℕ, zero, suc, List, [], ◌∷◌, length, map, Option, Some, None, refl, ap}
use Rattle.std.specs.List.{AllByRecursion}
use Rattle.asm_text.specs.Said.{Target}
use Rattle.assembler.specs.Assembles.{addresses_from}
use Rattle.assembler.specs.Sweeps.{State, labelled_state, value_pending}

pub all_map : {A : Type 0} (P Q : A → Type 0) (xs : List A) → ((x : A) → P x → Q x) → AllByRecursion P xs → AllByRecursion Q xs
all_map P Q [] f h = tt
all_map P Q (x ∷ xs) f h = (f x h.0, all_map P Q xs f h.1)

pub all_both : {A : Type 0} (P Q R : A → Type 0) (xs : List A) → ((x : A) → P x → Q x → R x) → AllByRecursion P xs → AllByRecursion Q xs → AllByRecursion R xs
all_both P Q R [] f h k = tt
all_both P Q R (x ∷ xs) f h k = (f x h.0 k.0, all_both P Q R xs f h.1 k.1)

pub all_true : {A : Type 0} (P : A → Type 0) (xs : List A) → ((x : A) → P x) → AllByRecursion P xs
all_true P [] f = tt
all_true P (x ∷ xs) f = (f x, all_true P xs f)

pub count_places : (at n : ℕ) → length (addresses_from at n) ≡ n
count_places at zero = refl
count_places at (suc n) = ap suc (count_places (at + 4) n)

pub count_map : (vs : List Target) → length (map value_pending vs) ≡ length vs
count_map [] = refl
count_map (v ∷ vs) = ap suc (count_map vs)

pub labelled_at : (s : State) (label : Option (List ℕ)) → (labelled_state s label).at ≡ s.at
labelled_at s None = refl
labelled_at s (Some name) = refl
