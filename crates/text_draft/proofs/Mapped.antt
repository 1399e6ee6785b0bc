-- What was made of the elements in front of an index.
use Rattle.std.proofs.Common.{◌≡◌, ◌∙◌, ◌+◌, ◌<◌, ◌≤◌, ℕ, List, [], ◌∷◌, ◌++◌, length, drop, sym, ap, append-nil, append_assoc, get_or}
use Rattle.std.specs.Prelude.{map}
use Rattle.std.proofs.Math.ListN.{drop_of_length-le}
use Rattle.std.proofs.lemmas.List.{drop_more}

pub mapped_none : {X Y : Type 0} (f : X → Y) (xs : List X) (made : List Y) → made ≡ [] → made ++ map f (drop 0 xs) ≡ map f xs
mapped_none f xs made is = ap (λ t. t ++ map f xs) is

pub mapped_more : {X Y : Type 0} (f : X → Y) (xs : List X) (i : ℕ) (d x : X) (old new : List Y) (all : List Y)
    → old ++ map f (drop i xs) ≡ all → i < length xs → get_or xs i d ≡ x → new ≡ old ++ f x ∷ [] → new ++ map f (drop (i + 1) xs) ≡ all
mapped_more f xs i d x old new all h lt is more =
    let left : drop i xs ≡ x ∷ drop (i + 1) xs = drop_more xs i d lt ∙ ap (λ y. y ∷ drop (i + 1) xs) is in
    let rest = map f (drop (i + 1) xs) in
    ap (λ t. t ++ rest) more ∙ append_assoc old (f x ∷ []) rest ∙ ap (λ ys. old ++ map f ys) (sym left) ∙ h

pub mapped_all : {X Y : Type 0} (f : X → Y) (xs : List X) (i : ℕ) (made : List Y) (all : List Y) → made ++ map f (drop i xs) ≡ all → length xs ≤ i → made ≡ all
mapped_all f xs i made all h le = sym (append-nil made) ∙ ap (λ ys. made ++ map f ys) (sym (drop_of_length-le xs le)) ∙ h
