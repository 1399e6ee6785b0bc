-- The position after some sixths is a remainder, the arrivals at a mark are a quotient, and both add up.
use Rattle.std.proofs.Common.{◌≡◌, ℕ, zero, suc, ◌+◌, ◌-◌, ◌*◌, ◌/◌, ◌%◌, ◌<◌, ◌≤◌, ◌==◌, inl, inr, cond, refl, sym, ◌∙◌, ap, arith, add-zero, add_assoc}
use Rattle.std.proofs.lemmas.Bool.{cases_lt}
use Rattle.std.proofs.lemmas.Bool.Decides.{nat_tests}
use Rattle.std.proofs.lemmas.Nat.{mod_below, div_below}
use Rattle.std.proofs.Math.Nat.{add-div_right, add-mod_right, mod-add-mod, mod-eq_of_lt}
use Rattle.vidc.specs.Frame.{next, position_after, arrivals}
use Rattle.vidc.proofs.RemainderLemmas.{Next, next_of, Hits, hits_of}

next_last : (w p : ℕ) → p + 1 ≡ w → next w p ≡ 0
next_last w p h = grind (arith, nat_tests)

next_more : (w p : ℕ) → p + 1 < w → next w p ≡ p + 1
next_more w p h = grind (arith, nat_tests)

-- the position is a remainder
pub position_is : (n w from : ℕ) → from < w → position_after n w from ≡ (from + n) % w
position_is zero w from h =
    let e : from + 0 ≡ from = omega arith in
    sym (ap (λ (x : ℕ). x % w) e ∙ mod-eq_of_lt h)
position_is (suc n) w from h =
    let e : from + n + 1 ≡ from + suc n = omega arith in
    let following : Next (from + n) w = next_of (from + n) w (omega arith) in
    elim (cases_lt ((from + n) % w + 1) w) [
      | inl p ↦ ap (λ (x : ℕ). next w x) (position_is n w from h) ∙ next_more w ((from + n) % w) p ∙ sym (following.more p).0 ∙ ap (λ (x : ℕ). x % w) e
      | inr p ↦
          let l : (from + n) % w + 1 ≡ w = omega (arith, mod_below (from + n) w) in
          ap (λ (x : ℕ). next w x) (position_is n w from h) ∙ next_last w ((from + n) % w) l ∙ sym (following.last l).0 ∙ ap (λ (x : ℕ). x % w) e
    ]

pub position_below : (n w from : ℕ) → from < w → position_after n w from < w
position_below n w from h = rw (position_is n w from h) (mod_below (from + n) w (omega arith))

count_hit : (x mark : ℕ) → x ≡ mark → cond {A = ℕ} (x == mark) 1 0 ≡ 1
count_hit x mark h = grind (arith, nat_tests)

count_miss : (x mark : ℕ) → (x ≡ mark → ⊥) → cond {A = ℕ} (x == mark) 1 0 ≡ 0
count_miss x mark h = grind (arith, nat_tests)

-- a mark past the frame is never reached
pub arrivals_none : (n w mark from : ℕ) → from < w → w ≤ mark → arrivals n w mark from ≡ 0
arrivals_none zero w mark from h past = refl
arrivals_none (suc n) w mark from h past =
    let miss : position_after (suc n) w from ≡ mark → ⊥ = λ e. omega (arith, e, position_below (suc n) w from h) in
    ap (λ (k : ℕ). arrivals n w mark from + k) (count_miss (position_after (suc n) w from) mark miss) ∙ add-zero (arrivals n w mark from) ∙ arrivals_none n w mark from h past

-- how far the position is past the mark
abbrev pub since : ℕ → ℕ → ℕ → ℕ
since w mark from = (from + (w - mark)) % w

-- the arrivals are the whole frames since the mark
pub arrivals_are : (n w mark from : ℕ) → from < w → mark < w → arrivals n w mark from ≡ (since w mark from + n) / w
arrivals_are zero w mark from at h =
    let e : since w mark from + 0 < 1 * w = omega (arith, mod_below (from + (w - mark)) w) in
    omega (arith, div_below (since w mark from + 0) w 1 (omega arith) e)
arrivals_are (suc n) w mark from at h =
    let following : Next (since w mark from + n) w = next_of (since w mark from + n) w (omega arith) in
    let here : position_after (suc n) w from ≡ (from + suc n) % w = position_is (suc n) w from at in
    let sum : from + (w - mark) + (n + 1) ≡ (from + suc n) + (w - mark) = omega arith in
    let one : since w mark from + n + 1 ≡ since w mark from + (n + 1) = omega arith in
    let turned : (since w mark from + n + 1) % w ≡ ((from + suc n) + (w - mark)) % w =
    ap (λ (k : ℕ). k % w) one ∙ mod-add-mod (from + (w - mark)) w (n + 1) ∙ ap (λ (k : ℕ). k % w) sum in
    let hits : Hits (from + suc n) mark w = hits_of (from + suc n) mark w h in
    let up : since w mark from + n + 1 ≡ since w mark from + suc n = omega arith in
    elim (cases_lt ((since w mark from + n) % w + 1) w) [
      | inl p ↦
          let miss : position_after (suc n) w from ≡ mark → ⊥ = λ e. (
          let z : (since w mark from + n + 1) % w ≡ 0 = turned ∙ hits.on (sym here ∙ e) in
          omega (arith, z, (following.more p).0)) in
          ap (λ (k : ℕ). arrivals n w mark from + k) (count_miss (position_after (suc n) w from) mark miss) ∙ add-zero (arrivals n w mark from) ∙ arrivals_are n w mark from at h ∙ sym (following.more p).1 ∙ ap (λ (k : ℕ). k / w) up
      | inr p ↦
          let l : (since w mark from + n) % w + 1 ≡ w = omega (arith, mod_below (since w mark from + n) w) in
          let is : position_after (suc n) w from ≡ mark = here ∙ hits.off (sym turned ∙ (following.last l).0) in
          ap (λ (k : ℕ). arrivals n w mark from + k) (count_hit (position_after (suc n) w from) mark is) ∙ ap (λ (k : ℕ). k + 1) (arrivals_are n w mark from at h) ∙ sym (following.last l).1 ∙ ap (λ (k : ℕ). k / w) up
    ]

-- within a frame, a mark that is not ahead is not reached
pub none_once_passed : (n w mark from : ℕ) → from + n < w → mark ≤ from → arrivals n w mark from ≡ 0
none_once_passed n w mark from within passed =
    let e : from + (w - mark) ≡ (from - mark) + w = omega arith in
    let s : since w mark from ≡ from - mark = ap (λ (x : ℕ). x % w) e ∙ add-mod_right (from - mark) w ∙ mod-eq_of_lt (omega arith) in
    let low : since w mark from + n < 1 * w = omega (arith, s) in
    omega (arith, arrivals_are n w mark from (omega arith) (omega arith), div_below (since w mark from + n) w 1 (omega arith) low)

ahead : (w mark from : ℕ) → from < mark → mark < w → since w mark from ≡ from + (w - mark)
ahead w mark from after below = mod-eq_of_lt (omega arith)

-- nor one that is too far ahead
pub none_before : (n w mark from : ℕ) → from + n < w → from + n < mark → arrivals n w mark from ≡ 0
none_before n w mark from within before = elim (cases_lt mark w) [
  | inl below ↦
      let low : since w mark from + n < 1 * w = omega (arith, ahead w mark from (omega arith) below) in
      omega (arith, arrivals_are n w mark from (omega arith) below, div_below (since w mark from + n) w 1 (omega arith) low)
  | inr past ↦ arrivals_none n w mark from (omega arith) past
]

-- and else it is reached once
pub one_within : (n w mark from : ℕ) → from + n < w → from < mark → mark ≤ from + n → arrivals n w mark from ≡ 1
one_within n w mark from within after reached =
    let below : mark < w = omega arith in
    let e : since w mark from + n ≡ (from + n - mark) + w = omega (arith, ahead w mark from after below) in
    let low : from + n - mark < 1 * w = omega arith in
    let turned = arrivals_are n w mark from (omega arith) below ∙ ap (λ (x : ℕ). x / w) e ∙ add-div_right (from + n - mark) (omega arith) in
    omega (arith, turned, div_below (from + n - mark) w 1 (omega arith) low)

-- sixths add up
pub position-add : (a b w from : ℕ) → position_after (a + b) w from ≡ position_after b w (position_after a w from)
position-add a zero w from =
    let e : a + 0 ≡ a = omega arith in
    ap (λ (n : ℕ). position_after n w from) e
position-add a (suc b) w from =
    let e : a + suc b ≡ suc (a + b) = omega arith in
    ap (λ (n : ℕ). position_after n w from) e ∙ ap (λ (x : ℕ). next w x) (position-add a b w from)

pub arrivals-add : (a b w mark from : ℕ) → arrivals (a + b) w mark from ≡ arrivals a w mark from + arrivals b w mark (position_after a w from)
arrivals-add a zero w mark from =
    let e : a + 0 ≡ a = omega arith in
    ap (λ (n : ℕ). arrivals n w mark from) e ∙ sym (add-zero (arrivals a w mark from))
arrivals-add a (suc b) w mark from =
    let e : a + suc b ≡ suc (a + b) = omega arith in
    let last : ℕ = cond {A = ℕ} (position_after (suc b) w (position_after a w from) == mark) 1 0 in
    ap (λ (n : ℕ). arrivals n w mark from) e
    ∙ ap (λ (x : ℕ). arrivals (a + b) w mark from + cond {A = ℕ} (next w x == mark) 1 0) (position-add a b w from)
    ∙ ap (λ (k : ℕ). k + cond {A = ℕ} (position_after (suc b) w (position_after a w from) == mark) 1 0) (arrivals-add a b w mark from)
    ∙ add_assoc (arrivals a w mark from) (arrivals b w mark (position_after a w from)) last
