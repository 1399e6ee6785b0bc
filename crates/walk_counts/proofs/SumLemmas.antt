-- Sums with a greatest number, and sums over the numbers of a list.
use Rattle.std.proofs.Common.{◌≡◌, ◌∙◌, ℕ, zero, suc, ◌+◌, ◌*◌, ◌<◌, ◌≤◌, min, Bool, cond, eqb, List, [], ◌∷◌, ⊎_elim, refl, sym, ap, arith, ◌++◌}
use Rattle.std.specs.Prelude.{All, count_by, sum_by}
use Rattle.std.specs.List.{range_with_len, repeat}
use Rattle.std.proofs.lemmas.Bool.{cases_lt, eq-eqb, ne_eqb}
use Rattle.std.proofs.lemmas.List.Elements.{All-head, All-tail}
use Rattle.std.proofs.lemmas.List.Sums.{sum_by-cons, sum_by-append}
use Rattle.walks.proofs.SumLe.{sum_by-both}

-- ## With a greatest number

pub capped_more : (m a b c : ℕ) → min (min (a + b) m + c) m ≡ min (a + (b + c)) m
capped_more m a b c = omega arith

-- a number of times that is capped already
pub capped_times : (m old times n : ℕ) → min (old + min times m * n) m ≡ min (old + times * n) m
capped_times m old times zero = omega arith
capped_times m old times (suc n) = ⊎_elim
    (λ (less : times < m). ap (λ t. min (old + t * suc n) m) (omega arith))
    (λ (most : m ≤ times).
    let capped : min times m ≡ m = omega arith in
    let one : m ≤ m * suc n = omega arith in
    let all : times ≤ times * suc n = omega arith in
    let left : min (old + m * suc n) m ≡ m = omega arith in
    let right : min (old + times * suc n) m ≡ m = omega arith in
    ap (λ t. min (old + t * suc n) m) capped ∙ left ∙ sym right)
    (cases_lt times m)

-- ## Counts of walks

pub count-repeated : {E : Type 0} (p : E → Bool) (k : ℕ) (walk : List E) → count_by p (repeat k walk) ≡ k * count_by p walk
count-repeated p zero walk = omega arith
count-repeated p (suc k) walk = omega (arith, sum_by-append (λ x. cond (p x) 1 0) walk (repeat k walk), count-repeated p k walk)

-- ## Sums over numbers

-- a range and one number more
pub range_push : (n a : ℕ) → range_with_len a (suc n) ≡ range_with_len a n ++ (a + n) ∷ []
range_push zero a = ap (λ k. k ∷ []) (omega arith)
range_push (suc n) a = ap (λ ks. a ∷ ks) (range_push n (a + 1) ∙ ap (λ k. range_with_len (a + 1) n ++ k ∷ []) (omega arith))

pub same_sums : (g h : ℕ → ℕ) (n a : ℕ) → ((k : ℕ) → a ≤ k → k < a + n → g k ≡ h k) → sum_by g (range_with_len a n) ≡ sum_by h (range_with_len a n)
same_sums g h zero a same = refl
same_sums g h (suc n) a same =
    let here : g a ≡ h a = same a (omega arith) (omega arith) in
    let rest : sum_by g (range_with_len (a + 1) n) ≡ sum_by h (range_with_len (a + 1) n) = same_sums g h n (a + 1) (λ k low high. same k (omega arith) (omega arith)) in
    omega (arith, sum_by-cons g a (range_with_len (a + 1) n), sum_by-cons h a (range_with_len (a + 1) n))

pub sum_none : {X : Type 0} (xs : List X) → sum_by (λ (x : X). 0) xs ≡ 0
sum_none [] = refl
sum_none {X} (x ∷ xs) = omega (arith, sum_by-cons (λ (y : X). 0) x xs, sum_none xs)

none_past : (j : ℕ) (f : ℕ → ℕ) (n a : ℕ) → j < a → sum_by (λ k. cond (eqb j k) 1 0 * f k) (range_with_len a n) ≡ 0
none_past j f n a less =
    same_sums (λ k. cond (eqb j k) 1 0 * f k) (λ k. 0) n a (λ k low high. ap (λ b. cond b 1 0 * f k) (ne_eqb j k (λ is. absurd (omega arith))) ∙ omega arith) ∙ sum_none (range_with_len a n)

pub picked : (j : ℕ) (f : ℕ → ℕ) (n a : ℕ) → a ≤ j → j < a + n → sum_by (λ k. cond (eqb j k) 1 0 * f k) (range_with_len a n) ≡ f j
picked j f zero a low high = absurd (omega arith)
picked j f (suc n) a low high = ⊎_elim
    (λ (more : a < j).
    let rest = picked j f n (a + 1) (omega arith) (omega arith) in
    let apart : cond (eqb j a) 1 0 * f a ≡ 0 = ap (λ b. cond b 1 0 * f a) (ne_eqb j a (λ is. absurd (omega arith))) ∙ omega arith in
    omega (arith, sum_by-cons (λ k. cond (eqb j k) 1 0 * f k) a (range_with_len (a + 1) n)))
    (λ (least : j ≤ a).
    let is : j ≡ a = omega arith in
    let here : cond (eqb j a) 1 0 * f a ≡ f a = ap (λ b. cond b 1 0 * f a) (eq-eqb j a is) ∙ omega arith in
    let value : f a ≡ f j = ap f (sym is) in
    omega (arith, sum_by-cons (λ k. cond (eqb j k) 1 0 * f k) a (range_with_len (a + 1) n), none_past j f n (a + 1) (omega arith)))
    (cases_lt a j)

-- a sum over a walk is a sum over the numbers of its edges
pub sums_by_number : {E : Type 0} (number : E → ℕ) (f : E → ℕ) (value : ℕ → ℕ) (n : ℕ) (walk : List E)
    → All (λ e. (number e < n) × (value (number e) ≡ f e)) walk
    → sum_by (λ k. count_by (λ e. eqb (number e) k) walk * value k) (range_with_len 0 n) ≡ sum_by f walk
sums_by_number number f value n [] all =
    same_sums (λ k. 0 * value k) (λ k. 0) n 0 (λ k low high. omega arith) ∙ sum_none (range_with_len 0 n)
sums_by_number {E} number f value n (e ∷ walk) all =
    let here = All-head (λ e. (number e < n) × (value (number e) ≡ f e)) e walk all in
    let inside : number e < n = here.0 in
    let own : value (number e) ≡ f e = here.1 in
    let rest = sums_by_number number f value n walk (All-tail (λ e. (number e < n) × (value (number e) ≡ f e)) e walk all) in
    let first = λ (k : ℕ). cond (eqb (number e) k) 1 0 * value k in
    let others = λ (k : ℕ). count_by (λ x. eqb (number x) k) walk * value k in
    let split : sum_by (λ k. count_by (λ x. eqb (number x) k) (e ∷ walk) * value k) (range_with_len 0 n) ≡ sum_by (λ k. first k + others k) (range_with_len 0 n) =
    same_sums (λ k. count_by (λ x. eqb (number x) k) (e ∷ walk) * value k) (λ k. first k + others k) n 0
    (λ k low high. ap (λ c. c * value k) (sum_by-cons (λ x. cond (eqb (number x) k) 1 0) e walk) ∙ omega arith) in
    split ∙ sum_by-both first others (range_with_len 0 n)
    ∙ (λ i. picked (number e) value n 0 (omega arith) (omega arith) i + rest i) ∙ ap (λ v. v + sum_by f walk) own ∙ sym (sum_by-cons f e walk)
