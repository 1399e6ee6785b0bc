-- A remainder and a quotient one number on, and where a remainder is a mark.
use Rattle.std.proofs.Common.{◌≡◌, ℕ, ◌+◌, ◌-◌, ◌*◌, ◌/◌, ◌%◌, ◌<◌, inl, inr, sym, ◌∙◌, ap, arith}
use Rattle.std.proofs.lemmas.Bool.{cases_order}
use Rattle.std.proofs.lemmas.Nat.{mod-mul-add, div-mul-add, mod_below, div-add-mod'}
use Rattle.std.proofs.Math.Nat.{add-mod_right, mod-add-mod, zero-mod, mod-eq_of_lt, add-mul}

-- a remainder and a quotient, one on
pub record Next (r w : ℕ) : Type 0 where
  pub more : r % w + 1 < w → ((r + 1) % w ≡ r % w + 1) × ((r + 1) / w ≡ r / w)
  pub last : r % w + 1 ≡ w → ((r + 1) % w ≡ 0) × ((r + 1) / w ≡ r / w + 1)

pub next_of : (r w : ℕ) → 0 < w → Next r w
next_of r w h = record {
  more = λ p.
      let e : r + 1 ≡ r / w * w + (r % w + 1) = omega (arith, div-add-mod' r w) in
      (ap (λ (x : ℕ). x % w) e ∙ mod-mul-add (r / w) w (r % w + 1) p, ap (λ (x : ℕ). x / w) e ∙ div-mul-add (r / w) w (r % w + 1) p);
  last = λ p.
      let q : (r / w + 1) * w ≡ r / w * w + w = omega (arith, add-mul (r / w) 1 w) in
      let e : r + 1 ≡ (r / w + 1) * w + 0 = omega (arith, div-add-mod' r w) in
      (ap (λ (x : ℕ). x % w) e ∙ mod-mul-add (r / w + 1) w 0 h, ap (λ (x : ℕ). x / w) e ∙ div-mul-add (r / w + 1) w 0 h);
}

-- a remainder is a mark where the distance from the mark is whole
pub record Hits (x mark w : ℕ) : Type 0 where
  pub on : x % w ≡ mark → (x + (w - mark)) % w ≡ 0
  pub off : (x + (w - mark)) % w ≡ 0 → x % w ≡ mark

pub hits_of : (x mark w : ℕ) → mark < w → Hits x mark w
hits_of x mark w h =
    let turn : (x % w + (w - mark)) % w ≡ (x + (w - mark)) % w = mod-add-mod x w (w - mark) in
    let below : x % w < w = mod_below x w (omega arith) in
    record {
      on = λ e.
          let sum : x % w + (w - mark) ≡ 0 + w = omega (arith, e) in
          sym turn ∙ ap (λ (k : ℕ). k % w) sum ∙ add-mod_right 0 w ∙ zero-mod w;
      off = λ e. elim (cases_order (x % w) mark) [
        | inl same ↦ same
        | inr (inl lt) ↦
            let small : x % w + (w - mark) < w = omega arith in
            let is : x % w + (w - mark) ≡ 0 = sym (mod-eq_of_lt small) ∙ turn ∙ e in
            absurd (omega (arith, is))
        | inr (inr gt) ↦
            let sum : x % w + (w - mark) ≡ (x % w - mark) + w = omega arith in
            let small : x % w - mark < w = omega arith in
            let is : x % w - mark ≡ 0 = sym (mod-eq_of_lt small) ∙ sym (add-mod_right (x % w - mark) w) ∙ ap (λ (k : ℕ). k % w) (sym sum) ∙ turn ∙ e in
            absurd (omega (arith, is, gt))
      ];
    }
