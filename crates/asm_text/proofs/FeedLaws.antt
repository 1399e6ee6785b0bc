-- The first line feed, by a search.
use Rattle.std.proofs.Common.{◌≡◌, ◌≢◌, ◌+◌, ◌<◌, ◌≤◌, ℕ, zero, suc, List, [], ◌∷◌, length, get_or, Option, Some, None, refl, ap, arith}
use Rattle.std.proofs.lemmas.Bool.{eq-eqb, eqb-true, ne_eqb}
use Rattle.memchr.specs.Find.{IsFirstByte, is_byte}
use Rattle.asm_text.specs.Source.{feed_len}

feed_at : (text : List ℕ) (n : ℕ) → n ≤ length text → ((k : ℕ) → k < n → get_or text k 0 ≢ 10) → (n < length text → get_or text n 0 ≡ 10) → n ≡ feed_len text
feed_at [] n le low high = omega arith
feed_at (b ∷ bs) zero le low high = let is : b ≡ 10 = high (omega arith) in rw is refl
feed_at (b ∷ bs) (suc n) le low high =
    let other : b ≢ 10 = low zero (omega arith) in
    let m : 1 + feed_len bs ≡ suc (feed_len bs) = omega arith in
    rw (ne_eqb b 10 other, m) (ap suc (feed_at bs n (omega arith) (λ k lt. low (suc k) (omega arith)) (λ lt. high (omega arith))))

pub no_feed : (text : List ℕ) (r : Option ℕ) → IsFirstByte (is_byte 10) text r → r ≡ None → length text ≡ feed_len text
no_feed text None h is = feed_at text (length text) (omega arith) (λ k lt same. h k (omega arith) lt (eq-eqb (get_or text k 0) 10 same)) (λ lt. absurd (omega arith))
no_feed text (Some k) h is = absurd cc

pub first_feed : (text : List ℕ) (r : Option ℕ) (n : ℕ) → IsFirstByte (is_byte 10) text r → r ≡ Some n → n ≡ feed_len text
first_feed text None n h is = absurd cc
first_feed text (Some k) n (none, at) is =
    let same : k ≡ n = cc in
    let high = none.high in
    rw (← same) (feed_at text k (omega arith) (λ i lt same. none.before i (omega arith) lt (eq-eqb (get_or text i 0) 10 same)) (λ lt. eqb-true (get_or text k 0) 10 at))
