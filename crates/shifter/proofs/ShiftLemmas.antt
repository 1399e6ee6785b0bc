-- Each shift of the code against the shift of the list.
use Rattle.std.proofs.Common.{ℕ, zero, suc, ◌+◌, ◌-◌, ◌*◌, ◌/◌, ◌%◌, ◌^◌, ◌≤◌, ◌<◌, ◌≡◌, Bool, true, false, cond, ltb, ◌⊎◌, inl, inr, refl, ap, sym, subst, ◌∙◌, arith, eqb, min, List, [], ◌∷◌, ◌++◌, length, take, drop, get_or}
use Rattle.std.proofs.Math.ListN.{replicate}
use mir.Val.{bool_byte}
use Rattle.std.proofs.Math.Pow.{pow_mono}
use Rattle.std.specs.Int.Count.{count_leading_zeros}
use Rattle.std.proofs.lemmas.Nat.{leading_length, pow_pos, shr_below, shl-shr, mod-pow-add, mod_below, pow-add, mul-add-lt}
use Rattle.std.proofs.Math.Nat.{pow-suc, mul-mod_left, mul_comm}
use Rattle.std.proofs.lemmas.Nat.Bits.{ones_shl}
use Rattle.std.proofs.lemmas.List.{append-nil, take-append-le, take-replicate, drop-append-le, length-replicate, drop-replicate, get_or-replicate, get_or-append_right, get_or_append_left}
use Rattle.std.proofs.Math.Seq.{drop-append-add, take-append-add}
use Rattle.arm2_decode.specs.declared.names.Shift.{Shift as Kind}
use Rattle.arm2_decode.specs.declared.names.Shift.TheVariants.{Lsr, Asr}
use Rattle.shifter.specs.declared.shifts.Shifted.{Shifted}
use Rattle.arm2_decode.specs.Bits.{bit_of_word}
use Rattle.shifter.specs.Word.{bits_from, fill_word, word_bits}
use Rattle.shifter.specs.Shifts.{Has, by_immediate, by_register, cycles_from, left, multiply_cycles, right}
use Rattle.std.proofs.lemmas.Bool.{cases_lt, ltb-false, ltb-true}
use Rattle.shifter.proofs.BitLists.{length-bits_from, get_or-bits_from, same_bits, bits_from-cat, bits_from-zero, drop-bits_from, take-bits_from, rest_below}

take_more_front : (n m k : ℕ) (xs ys : List Bool) → length xs ≡ n → m ≡ n + k → take m (xs ++ ys) ≡ xs ++ take k ys
take_more_front n m k xs ys e f = rw (f, ← e) (take-append-add xs ys k)

pub bits_from-ones : (k : ℕ) → bits_from k (2 ^ k - 1) ≡ replicate k true
unfolding bits_from
bits_from-ones zero = refl
bits_from-ones (suc k) =
    let half : (2 ^ suc k - 1) / 2 ≡ 2 ^ k - 1 = omega (arith, pow-suc 2 k) in
    let odd : (2 ^ suc k - 1) % 2 ≡ 1 = omega (arith, pow-suc 2 k, pow_pos k) in
    rw (half, odd, bits_from-ones k) refl

-- the number whose lowest bits are copies of fill
pub fill_number : Bool → ℕ → ℕ
fill_number true n = 2 ^ n - 1
fill_number false n = 0

pub fill_bits : (fill : Bool) (n : ℕ) → bits_from n (fill_number fill n) ≡ replicate n fill
unfolding fill_number
fill_bits true n = bits_from-ones n
fill_bits false n = bits_from-zero n

zero_low : (w n : ℕ) → (w * 2 ^ n) % 2 ^ n ≡ 0
zero_low w n = mul-mod_left w (2 ^ n)

-- a product below 2 ^ 32 has zeros below
pub left_value : (n w : ℕ) → n ≤ 32 → bits_from 32 (w * 2 ^ n % 2 ^ 32) ≡ take 32 (replicate n false ++ bits_from 32 w)
left_value n w h =
    let whole : 32 ≡ n + (32 - n) = omega arith in
    let plain : w * 2 ^ n ≡ w * 2 ^ n + 0 = omega arith in
    same_bits 32 (w * 2 ^ n % 2 ^ 32) (w * 2 ^ n) (rest_below _ _ (mod_below (w * 2 ^ n) (2 ^ 32) (pow_pos 32)))
    ∙ ap (bits_from 32) plain
    ∙ bits_from-cat n (32 - n) 32 w 0 whole (pow_pos n)
    ∙ ap (λ x. x ++ bits_from (32 - n) w) (bits_from-zero n)
    ∙ ap (λ x. replicate n false ++ x) (sym (take-bits_from (32 - n) n 32 w (omega arith)))
    ∙ sym (take_more_front n 32 (32 - n) (replicate n false) (bits_from 32 w) (length-replicate n false) whole)

pub left_carry : (n w : ℕ) → 1 ≤ n → n ≤ 32 → bit_of_word w (32 - n) ≡ get_or (replicate n false ++ bits_from 32 w) 32 false
left_carry n w some h =
    sym (get_or-append_right (replicate n false) (bits_from 32 w) n 32 false (length-replicate n false) h ∙ get_or-bits_from 32 (32 - n) w (omega arith))

pub left_long_value : (n w : ℕ) → 32 ≤ n → bits_from 32 0 ≡ take 32 (replicate n false ++ bits_from 32 w)
left_long_value n w h =
    bits_from-zero 32 ∙ sym (take-append-le 32 (replicate n false) (bits_from 32 w) (omega (arith, length-replicate n false)) ∙ take-replicate 32 n false h)

pub left_long_carry : (n w : ℕ) → 32 < n → false ≡ get_or (replicate n false ++ bits_from 32 w) 32 false
left_long_carry n w h =
    sym (get_or_append_left (replicate n false) (bits_from 32 w) false 32 (omega (arith, length-replicate n false)) ∙ get_or-replicate n 32 false false h)

pub right_value : (n w v : ℕ) (fill : Bool) → n ≤ 32 → w < 2 ^ 32 → v ≡ w / 2 ^ n + fill_number fill n * 2 ^ (32 - n) → bits_from 32 v ≡ drop n (bits_from 32 w ++ replicate n fill)
right_value n w v fill h lw e =
    let whole : 32 ≡ (32 - n) + n = omega arith in
    let split : 32 ≡ n + (32 - n) = omega arith in
    let low : w / 2 ^ n < 2 ^ (32 - n) = shr_below w (32 - n) n (rw (← whole) lw) in
    let order : v ≡ fill_number fill n * 2 ^ (32 - n) + w / 2 ^ n = omega arith in
    ap (bits_from 32) order
    ∙ bits_from-cat (32 - n) n 32 (fill_number fill n) (w / 2 ^ n) whole low
    ∙ ap (λ x. bits_from (32 - n) (w / 2 ^ n) ++ x) (fill_bits fill n)
    ∙ ap (λ x. x ++ replicate n fill) (sym (drop-bits_from n (32 - n) 32 w split))
    ∙ sym (drop-append-le n (bits_from 32 w) (replicate n fill) (omega (arith, length-bits_from 32 w)))

pub right_carry : (n w : ℕ) (fill : Bool) → 1 ≤ n → n ≤ 32 → bit_of_word w (n - 1) ≡ get_or (bits_from 32 w ++ replicate n fill) (n - 1) false
right_carry n w fill some h =
    sym (get_or_append_left (bits_from 32 w) (replicate n fill) false (n - 1) (omega (arith, length-bits_from 32 w)) ∙ get_or-bits_from 32 (n - 1) w (omega arith))

pub right_long_value : (n w : ℕ) (fill : Bool) → 32 ≤ n → bits_from 32 (fill_number fill 32) ≡ drop n (bits_from 32 w ++ replicate n fill)
right_long_value n w fill h =
    let split : n ≡ length (bits_from 32 w) + (n - 32) = omega (arith, length-bits_from 32 w) in
    let rest : n - (n - 32) ≡ 32 = omega arith in
    fill_bits fill 32
    ∙ sym (ap (λ k. drop k (bits_from 32 w ++ replicate n fill)) split ∙ drop-append-add (bits_from 32 w) (replicate n fill) (n - 32) ∙ drop-replicate (n - 32) n fill ∙ ap (λ k. replicate k fill) rest)

pub right_long_carry : (n w : ℕ) (fill : Bool) → 32 < n → fill ≡ get_or (bits_from 32 w ++ replicate n fill) (n - 1) false
right_long_carry n w fill h =
    sym (get_or-append_right (bits_from 32 w) (replicate n fill) 32 (n - 1) false (length-bits_from 32 w) (omega arith) ∙ get_or-replicate n (n - 1 - 32) fill false (omega arith))

-- the low k bits, brought to the top
pub low_to_top : (k w : ℕ) → k ≤ 32 → w * 2 ^ (32 - k) % 2 ^ 32 ≡ w % 2 ^ k * 2 ^ (32 - k)
low_to_top k w h =
    let whole : k + (32 - k) ≡ 32 = omega arith in
    let split : w * 2 ^ (32 - k) % 2 ^ (k + (32 - k)) ≡ (w * 2 ^ (32 - k) / 2 ^ (32 - k) % 2 ^ k) * 2 ^ (32 - k) + w * 2 ^ (32 - k) % 2 ^ (32 - k) = mod-pow-add (w * 2 ^ (32 - k)) k (32 - k) in
    ap (λ j. w * 2 ^ (32 - k) % 2 ^ j) (sym whole) ∙ split ∙ rw (shl-shr w (32 - k), zero_low w (32 - k)) (omega arith)

pub turned_value : (k w v : ℕ) → k < 32 → w < 2 ^ 32 → v ≡ w / 2 ^ k + w % 2 ^ k * 2 ^ (32 - k) → bits_from 32 v ≡ drop k (bits_from 32 w) ++ take k (bits_from 32 w)
turned_value k w v h lw e =
    let whole : 32 ≡ (32 - k) + k = omega arith in
    let split : 32 ≡ k + (32 - k) = omega arith in
    let low : w / 2 ^ k < 2 ^ (32 - k) = shr_below w (32 - k) k (rw (← whole) lw) in
    let order : v ≡ w % 2 ^ k * 2 ^ (32 - k) + w / 2 ^ k = omega arith in
    ap (bits_from 32) order
    ∙ bits_from-cat (32 - k) k 32 (w % 2 ^ k) (w / 2 ^ k) whole low
    ∙ ap (λ x. bits_from (32 - k) (w / 2 ^ k) ++ x) (same_bits k (w % 2 ^ k) w (rest_below _ _ (mod_below w (2 ^ k) (pow_pos k))) ∙ sym (take-bits_from k (32 - k) 32 w split))
    ∙ ap (λ x. x ++ take k (bits_from 32 w)) (sym (drop-bits_from k (32 - k) 32 w split))

one_bit : (c : ℕ) (carry : Bool) → c ≡ bool_byte carry → bits_from 1 c ≡ carry ∷ []
unfolding bits_from
one_bit c true e = rw e refl
one_bit c false e = rw e refl

pub extended_value : (w c v : ℕ) (carry : Bool) → w < 2 ^ 32 → c ≡ bool_byte carry → v ≡ w / 2 + c * 2 ^ 31 → bits_from 32 v ≡ drop 1 (bits_from 32 w) ++ carry ∷ []
extended_value w c v carry lw ec e =
    let order : v ≡ c * 2 ^ 31 + w / 2 = omega arith in
    ap (bits_from 32) order
    ∙ bits_from-cat 31 1 32 c (w / 2) refl (omega arith)
    ∙ ap (λ x. bits_from 31 (w / 2) ++ x) (one_bit c carry ec)
    ∙ ap (λ x. x ++ carry ∷ []) (sym (drop-bits_from 1 31 32 w refl))

take_one : (a b c : ℕ) → c ≡ a * b → 0 < a → c - b ≡ (a - 1) * b
take_one zero b c e h = absurd (omega arith)
take_one (suc a) b c e h = let f : suc a - 1 ≡ a = omega arith in rw (f, e) (omega arith)

-- copies of a bit, moved to the top n places
pub fill_top : (fill : Bool) (n : ℕ) → n ≤ 32 → fill_word fill * 2 ^ (32 - n) % 2 ^ 32 ≡ fill_number fill n * 2 ^ (32 - n)
unfolding fill_number
fill_top false n h = let z : 0 * 2 ^ (32 - n) ≡ 0 = omega arith in rw z refl
fill_top true n h =
    let whole : n + (32 - n) ≡ 32 = omega arith in
    let product : 2 ^ 32 ≡ 2 ^ n * 2 ^ (32 - n) = ap (λ k. 2 ^ k) (sym whole) ∙ pow-add 2 n (32 - n) in
    ones_shl 32 (32 - n) (omega arith) ∙ take_one (2 ^ n) (2 ^ (32 - n)) (2 ^ 32) product (pow_pos n)

pub fill_below : (fill : Bool) (n : ℕ) → fill_number fill n < 2 ^ n
unfolding fill_number
fill_below true n = omega (arith, pow_pos n)
fill_below false n = pow_pos n

-- hi above lo stays below 2 ^ 32
pub joined_below : (n hi lo : ℕ) → n ≤ 32 → hi < 2 ^ n → lo < 2 ^ (32 - n) → lo + hi * 2 ^ (32 - n) < 2 ^ 32
joined_below n hi lo h x y =
    let whole : n + (32 - n) ≡ 32 = omega arith in
    let product : 2 ^ 32 ≡ 2 ^ n * 2 ^ (32 - n) = ap (λ k. 2 ^ k) (sym whole) ∙ pow-add 2 n (32 - n) in
    let place : hi * 2 ^ (32 - n) + lo < 2 ^ (32 - n) * 2 ^ n = mul-add-lt hi (2 ^ (32 - n)) lo (2 ^ n) x y in
    omega (arith, product, place, mul_comm (2 ^ n) (2 ^ (32 - n)))

pub quotient_below : (n w : ℕ) → n ≤ 32 → w < 2 ^ 32 → w / 2 ^ n < 2 ^ (32 - n)
quotient_below n w h lw = let whole : 32 ≡ (32 - n) + n = omega arith in shr_below w (32 - n) n (rw (← whole) lw)

pub whole_fill : (fill : Bool) → fill_word fill ≡ fill_number fill 32
unfolding fill_number
whole_fill true = refl
whole_fill false = refl

pub no_turn : (k w : ℕ) → k ≡ 0 → word_bits w ≡ drop k (word_bits w) ++ take k (word_bits w)
no_turn k w e = rw e (sym (append-nil (word_bits w)))

pub asr_has : (k : Kind) (n w : ℕ) (fill carry : Bool) (r : Shifted) → k ≡ Asr → eqb n 0 ≡ false → fill ≡ bit_of_word w 31 → Has r (right n fill (word_bits w)) → Has r (by_register k n (word_bits w) carry)
asr_has k n w fill carry r e f g h =
    let top : fill ≡ get_or (word_bits w) 31 false = g ∙ sym (get_or-bits_from 32 31 w (omega arith)) in
    rw (e, f) (subst (λ b. Has r (right n b (word_bits w))) top h)

-- which m are enough for a number, by its significant bits
enough : (number bits m : ℕ) → 1 ≤ m → 2 ^ bits ≤ 2 * number + 1 → number < 2 ^ (2 * m - 1) → bits < 2 * m
enough number bits m some tight low = by_order (cases_lt bits (2 * m))
  where
    by_order : (bits < 2 * m) ⊎ (2 * m ≤ bits) → bits < 2 * m
    by_order (inl h) = h
    by_order (inr h) =
        let grows : 2 ^ suc (2 * m - 1) ≤ 2 ^ bits = pow_mono (omega arith) in
        absurd (omega (arith, pow-suc 2 (2 * m - 1)))

too_few : (number bits m : ℕ) → number < 2 ^ bits → 2 ^ (2 * m - 1) ≤ number → 2 * m ≤ bits
too_few number bits m fits high = by_order (cases_lt bits (2 * m))
  where
    by_order : (bits < 2 * m) ⊎ (2 * m ≤ bits) → 2 * m ≤ bits
    by_order (inl h) =
        let grows : 2 ^ bits ≤ 2 ^ (2 * m - 1) = pow_mono (omega arith) in
        absurd (omega arith)
    by_order (inr h) = h

cycles_by : (left first number bits r : ℕ) → number < 2 ^ bits → 2 ^ bits ≤ 2 * number + 1 → r ≡ min (bits / 2 + 1) 16 → left + first ≡ 16 → 1 ≤ first → first ≤ r → r ≡ cycles_from left first number
unfolding cycles_from
cycles_by zero first number bits r fits tight e all some least = omega arith
cycles_by (suc left) first number bits r fits tight e all some least =
    test (λ more. cycles_by left (first + 1) number bits r fits tight e (omega arith) (omega arith) more) (ltb number (2 ^ (2 * first - 1))) refl
  where
    test : (first + 1 ≤ r → r ≡ cycles_from left (first + 1) number) → (b : Bool) → ltb number (2 ^ (2 * first - 1)) ≡ b → r ≡ cond b first (cycles_from left (first + 1) number)
    test rest true is = omega (arith, enough number bits first some tight (ltb-true number _ is))
    test rest false is = rest (omega (arith, too_few number bits first fits (ltb-false number _ is)))

pub cycles : (number r : ℕ) → number < 2 ^ 32 → r ≡ min ((32 - count_leading_zeros 32 number) / 2 + 1) 16 → r ≡ multiply_cycles number
cycles number r below e =
    let long = leading_length 32 number below in
    let same : long.0 ≡ 32 - count_leading_zeros 32 number = omega (arith, long.1) in
    cycles_by 15 1 number long.0 r long.2 long.3 (rw (← same) at e) refl (omega arith) (omega arith)

few_from : (left m number : ℕ) → cycles_from left m number ≤ m + left
unfolding cycles_from
few_from zero m number = omega arith
few_from (suc left) m number = by_test (few_from left (m + 1) number) (ltb number (2 ^ (2 * m - 1)))
  where
    by_test : cycles_from left (m + 1) number ≤ m + 1 + left → (b : Bool) → cond b m (cycles_from left (m + 1) number) ≤ m + suc left
    by_test rest true = omega arith
    by_test rest false = omega arith

pub most_cycles : (number : ℕ) → multiply_cycles number ≤ 16
most_cycles number = few_from 15 1 number

pub greatest_cycles : multiply_cycles 0xFFFFFFFF ≡ 16
unfolding cycles_from
greatest_cycles = refl

-- m is the table's row for a number
record IsRow (number m : ℕ) : Type 0 where
  some : 1 ≤ m
  below : m < 16 → number < 2 ^ (2 * m - 1)
  from : 2 ≤ m → 2 ^ (2 * m - 3) ≤ number

row_by : (left first number : ℕ) → left + first ≡ 16 → 1 ≤ first → (2 ≤ first → 2 ^ (2 * first - 3) ≤ number) → IsRow number (cycles_from left first number)
unfolding cycles_from
row_by zero first number all some from = record { some = some; below = λ h. absurd (omega arith); from = from }
row_by (suc left) first number all some from =
    test (λ next. row_by left (first + 1) number (omega arith) (omega arith) next) (ltb number (2 ^ (2 * first - 1))) refl
  where
    test : ((2 ≤ first + 1 → 2 ^ (2 * (first + 1) - 3) ≤ number) → IsRow number (cycles_from left (first + 1) number)) → (b : Bool)
        → ltb number (2 ^ (2 * first - 1)) ≡ b → IsRow number (cond b first (cycles_from left (first + 1) number))
    test rest true is = record { some = some; below = λ _. ltb-true number _ is; from = from }
    test rest false is =
        let same : 2 * (first + 1) - 3 ≡ 2 * first - 1 = omega arith in
        rest (λ h. rw same (ltb-false number _ is))

row_of : (number : ℕ) → IsRow number (multiply_cycles number)
row_of number = row_by 15 1 number refl (omega arith) (λ h. absurd (omega arith))

pub some_cycles : (number : ℕ) → 1 ≤ multiply_cycles number
some_cycles number = (row_of number).some

pub cycles_below : (number : ℕ) → multiply_cycles number < 16 → number < 2 ^ (2 * multiply_cycles number - 1)
cycles_below number = (row_of number).below

pub cycles_reach : (number : ℕ) → 2 ≤ multiply_cycles number → 2 ^ (2 * multiply_cycles number - 3) ≤ number
cycles_reach number = (row_of number).from

-- ## A number for some cycles

-- a row that ends before another begins has smaller numbers
rows_apart : (number k m : ℕ) → IsRow number k → IsRow number m → m ≤ 16 → k < m → ⊥
rows_apart number k m low high few h =
    let above : 2 ^ (2 * m - 3) ≤ number = high.from (omega (arith, h, low.some)) in
    let under : number < 2 ^ (2 * k - 1) = low.below (omega (arith, h, few)) in
    let grows : 2 ^ (2 * k - 1) ≤ 2 ^ (2 * m - 3) = pow_mono (omega (arith, h)) in
    omega (arith, above, under, grows)

-- a number is in one row
one_row : (number m : ℕ) → IsRow number m → m ≤ 16 → multiply_cycles number ≡ m
one_row number m row few = elim (cases_lt (multiply_cycles number) m) [
  | inl less ↦ absurd (rows_apart number (multiply_cycles number) m (row_of number) row few less)
  | inr least ↦ elim (cases_lt m (multiply_cycles number)) [
    | inl more ↦ absurd (rows_apart number m (multiply_cycles number) row (row_of number) (most_cycles number) more)
    | inr most ↦ omega (arith, least, most)
  ]
]

-- the least number of a row that is neither the first nor the last
pub least_cycles : (m number : ℕ) → 2 ≤ m → m < 16 → number ≡ 2 ^ (2 * m - 3) → multiply_cycles number ≡ m
least_cycles m number some few is =
    one_row number m
    (record {
      some = omega (arith, some);
      below = λ _.
          let more : 2 * m - 1 ≡ suc (suc (2 * m - 3)) = omega (arith, some) in
          let double = pow-suc 2 (2 * m - 3) in
          let twice = pow-suc 2 (suc (2 * m - 3)) in
          let positive = pow_pos (2 * m - 3) in
          rw more (omega (arith, is, double, twice, positive));
      from = λ _. omega (arith, is);
    }) (omega (arith, few))

-- it is a word
least_fits : (m : ℕ) → m < 16 → 2 ^ (2 * m - 3) < 2 ^ 32
least_fits m few =
    let grows : 2 ^ (2 * m - 3) ≤ 2 ^ 31 = pow_mono {j = 31} (omega (arith, few)) in
    omega (arith, grows)

-- the same of a bit that is shifted there in a word
pub shifted_cycles : (m : ℕ) → 2 ≤ m → m < 16 → multiply_cycles (1 * 2 ^ (2 * m - 3) % 2 ^ 32) ≡ m
shifted_cycles m some few =
    least_cycles m (1 * 2 ^ (2 * m - 3) % 2 ^ 32) some few (omega (arith, least_fits m few))

-- one multiplier takes one cycle
pub first_cycles : multiply_cycles 1 ≡ 1
unfolding cycles_from
first_cycles = refl

-- for each number of cycles there is a word
pub some_multiplier : (m : ℕ) → 1 ≤ m → m ≤ 16 → (number : ℕ) × (number < 2 ^ 32) × (multiply_cycles number ≡ m)
some_multiplier m some few = elim (cases_lt m 2) [
  | inl one ↦ (1, omega arith, first_cycles ∙ omega (arith, some, one))
  | inr more ↦ elim (cases_lt m 16) [
    | inl less ↦ (2 ^ (2 * m - 3), least_fits m less, least_cycles m (2 ^ (2 * m - 3)) more less refl)
    | inr all ↦ (0xFFFFFFFF, omega arith, greatest_cycles ∙ omega (arith, few, all))
  ]
]

pub lsr_zero : (k : Kind) (n : ℕ) (bits : List Bool) (carry : Bool) (r : Shifted) → k ≡ Lsr → n ≡ 0 → Has r (by_register Lsr 32 bits carry) → Has r (by_immediate k n bits carry)
lsr_zero k n bits carry r e z h = rw (e, z) h

pub asr_zero : (k : Kind) (n : ℕ) (bits : List Bool) (carry : Bool) (r : Shifted) → k ≡ Asr → n ≡ 0 → Has r (by_register Asr 32 bits carry) → Has r (by_immediate k n bits carry)
asr_zero k n bits carry r e z h = rw (e, z) h
