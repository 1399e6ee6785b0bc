-- Decimal numbers, digit by digit.
use Rattle.std.proofs.Common.{◌≡◌, ◌∙◌, ℕ, zero, suc, ◌+◌, ◌*◌, ◌<◌, ◌≤◌, ◌^◌, List, [], ◌∷◌, length, take, take_all, get_or, refl, sym, ap, subst, arith, inl, inr}
use Rattle.std.specs.Char.{digit_value}
use Rattle.std.specs.Fmt.{decimal}
use Rattle.std.specs.Str.Parse.{AllDigits, digits_value}
use Rattle.std.proofs.lemmas.Bool.{cases_lt}
use Rattle.std.proofs.lemmas.Fmt.{decimal_digit, decimal_is_IsNumeral, decimal-digits_value, first_decimal}
use Rattle.std.proofs.lemmas.Int.Digits.{digits_value_more}
use Rattle.std.proofs.lemmas.Str.Parse.{digits_value-take-le}

-- the digits of a number
module _ (word : List ℕ) (n : ℕ) (small : n < 2 ^ 63) (is : word ≡ decimal n) where
  pub all : AllDigits 10 word
  all = subst (AllDigits 10) (sym is) (decimal_is_IsNumeral n (omega arith)).0.1

  pub some : 0 < length word
  some = subst (λ (w : List ℕ). 0 < length w) (sym is) (decimal_is_IsNumeral n (omega arith)).0.0

  pub value : digits_value 10 word ≡ n
  value = ap (digits_value 10) is ∙ (decimal_is_IsNumeral n (omega arith)).1

  -- those in front of a digit are a number of at most a tenth
  pub tenth : (i : ℕ) → i < length word → digits_value 10 (take i word) * 10 ≤ n
  tenth i lt = omega (arith, digits_value_more 10 word i lt, digits_value-take-le 10 word (i + 1) (omega arith), value)

  -- none but 0 begins with 0
  pub begins : get_or word 0 0 ≡ 48 → length word ≡ 1
  begins zero_first =
      elim (cases_lt 0 n) [
        | inl positive ↦
            let first : 48 < get_or word 0 0 = subst (λ (w : List ℕ). 48 < get_or w 0 0) (sym is) (first_decimal n positive (omega arith)) in
            absurd (omega arith)
        | inr none ↦ let nothing : n ≡ 0 = omega arith in ap length (is ∙ ap decimal nothing ∙ decimal_digit 0 (omega arith))
      ]

-- what digits without a leading 0 spell
pub spelled : (word : List ℕ) (i : ℕ) → length word ≤ i → AllDigits 10 (take i word) → 0 < length word → (get_or word 0 0 ≡ 48 → length word ≡ 1)
    → digits_value 10 (take i word) < 2 ^ 63 → word ≡ decimal (digits_value 10 (take i word))
spelled word i ended digits some begins small =
    let whole : take i word ≡ word = take_all i word ended in
    sym (decimal-digits_value (record { to = λ ds p. p; from = λ ds p. p; same = λ ds p. refl }) word (subst (AllDigits 10) whole digits) some begins
    (let same : digits_value 10 (take i word) ≡ digits_value 10 word = ap (digits_value 10) whole in omega (arith, same)))
    ∙ sym (ap (λ (w : List ℕ). decimal (digits_value 10 w)) whole)

pub digit_in : (radix : ℕ) (ds : List ℕ) (i : ℕ) → AllDigits radix ds → i < length ds → digit_value (get_or ds i 0) < radix
digit_in radix [] i digits lt = absurd (omega arith)
digit_in radix (d ∷ ds) zero digits lt = digits.0
digit_in radix (d ∷ ds) (suc i) digits lt = digit_in radix ds i digits.1 (omega arith)
