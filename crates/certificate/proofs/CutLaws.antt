-- Where a text is cut at a byte, it is cut in one way.
use Rattle.std.proofs.Common.{◌≡◌, ◌∙◌, ◌&&◌, Bool, true, false, not, eqb, true≢false, eq-eqb, ℕ, zero, suc, List, [], ◌∷◌, ◌++◌, refl, sym, ap, arith}
use Rattle.std.specs.List.{list_all}
use Rattle.std.specs.Str.Iter.{LacksByte}

both-left : (a b : Bool) → a && b ≡ true → a ≡ true
both-left true b e = refl
both-left false b e = e

both-right : (a b : Bool) → a && b ≡ true → b ≡ true
both-right true b e = e
both-right false b e = absurd (true≢false (sym e))

pub Lacks-rest : (c b : ℕ) (bs : List ℕ) → LacksByte c (b ∷ bs) → LacksByte c bs
Lacks-rest c b bs h k lt = h (suc k) (omega arith)

pub Lacks-middle : (c : ℕ) (a b : List ℕ) → LacksByte c (a ++ c ∷ b) → ⊥
Lacks-middle c [] b h = h 0 (omega arith) refl
Lacks-middle c (x ∷ a) b h = Lacks-middle c a b (Lacks-rest c x (a ++ c ∷ b) h)

pub one_cut : (c : ℕ) (a x b y : List ℕ) → LacksByte c a → LacksByte c x → a ++ c ∷ b ≡ x ++ c ∷ y → (a ≡ x) × (b ≡ y)
one_cut c [] [] b y h k e = (refl, cc)
one_cut c [] (d ∷ x) b y h k e = let same : d ≡ c = cc in absurd (k 0 (omega arith) same)
one_cut c (d ∷ a) [] b y h k e = let same : d ≡ c = cc in absurd (h 0 (omega arith) same)
one_cut c (d ∷ a) (f ∷ x) b y h k e =
    let head : d ≡ f = cc in
    let rest : a ++ c ∷ b ≡ x ++ c ∷ y = cc in
    let deeper = one_cut c a x b y (Lacks-rest c d a h) (Lacks-rest c f x k) rest in
    let same : a ≡ x = deeper.0 in
    (cc, deeper.1)

pub Lacks-append : (c : ℕ) (a b : List ℕ) → LacksByte c a → LacksByte c b → LacksByte c (a ++ b)
Lacks-append c [] b h k i lt = k i lt
Lacks-append c (x ∷ a) b h k zero lt = h 0 (omega arith)
Lacks-append c (x ∷ a) b h k (suc i) lt = Lacks-append c a b (Lacks-rest c x a h) k i (omega arith)

-- bytes that are written out
pub Lacks-tested : (c : ℕ) (bs : List ℕ) → list_all (λ b. not (eqb b c)) bs ≡ true → LacksByte c bs
Lacks-tested c [] t k lt = absurd (omega arith)
Lacks-tested c (x ∷ bs) t zero lt = λ e. true≢false (sym (both-left _ _ t) ∙ ap not (eq-eqb x c e))
Lacks-tested c (x ∷ bs) t (suc k) lt = Lacks-tested c bs (both-right (not (eqb x c)) _ t) k (omega arith)
