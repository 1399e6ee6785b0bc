-- Two lists side by side.
use Rattle.std.proofs.Common.{◌≡◌, List, [], ◌∷◌, refl, ap}
use Rattle.std.specs.List.{AllZip}

-- by a relation that is a function, one list alone is beside a list
pub AllZip-one : {A B : Type 0} (R : A → B → Type 0) → ((x : A) (y z : B) → R x y → R x z → y ≡ z)
    → (xs : List A) (ys zs : List B) → AllZip R xs ys → AllZip R xs zs → ys ≡ zs
AllZip-one R one [] [] [] h k = refl
AllZip-one R one [] [] (z ∷ zs) h k = absurd k
AllZip-one R one [] (y ∷ ys) zs h k = absurd h
AllZip-one R one (x ∷ xs) [] zs h k = absurd h
AllZip-one R one (x ∷ xs) (y ∷ ys) [] h k = absurd k
AllZip-one {A} {B} R one (x ∷ xs) (y ∷ ys) (z ∷ zs) h k =
    rw (one x y z h.0 k.0) (ap (λ (ts : List B). z ∷ ts) (AllZip-one R one xs ys zs h.1 k.1))

pub AllZip-weaker : {A B : Type 0} (R S : A → B → Type 0) → ((x : A) (y : B) → R x y → S x y)
    → (xs : List A) (ys : List B) → AllZip R xs ys → AllZip S xs ys
AllZip-weaker R S weaker [] [] all = tt
AllZip-weaker R S weaker [] (y ∷ ys) all = absurd all
AllZip-weaker R S weaker (x ∷ xs) [] all = absurd all
AllZip-weaker R S weaker (x ∷ xs) (y ∷ ys) all = (weaker x y all.0, AllZip-weaker R S weaker xs ys all.1)
