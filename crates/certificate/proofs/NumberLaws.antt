-- What the spellings of numbers are made of.
use Rattle.std.proofs.Common.{◌≡◌, ◌∙◌, ℕ, ◌+◌, ◌*◌, ◌/◌, ◌%◌, ◌<◌, ◌^◌, ◌≤◌, true, List, [], ◌∷◌, ◌++◌, length, refl, sym, ap, ap₂, subst, arith, zero, suc, inl, inr, append_assoc, length-append, take, drop, get_or, take-append-drop, drop-cons, take_all, take-suc, length-take, ◌-◌}
use Rattle.std.specs.Char.{digit_value}
use Rattle.std.specs.Str.Parse.{AllDigits, IsNumeral, digits_value}
use Rattle.std.specs.Fmt.{decimal, digit_glyph}
use Rattle.std.proofs.lemmas.Bool.{cases_lt}
use Rattle.std.proofs.lemmas.Fmt.{digits_is_IsNumeral, decimal_injective, decimal_is_IsNumeral, hex_one_digit}
use Rattle.std.specs.Str.Iter.{LacksByte}
use Rattle.std.proofs.lemmas.List.{same_from_push}
use Rattle.asm_text.specs.Hex.{hex}
use Rattle.asm_text.proofs.HexLaws.{hex_step}

hex_is_IsNumeral : (n : ℕ) → n < 2 ^ 26 → IsNumeral 16 (hex n) × (digits_value 16 (hex n) ≡ n)
hex_is_IsNumeral n h = digits_is_IsNumeral 16 true (omega arith) (omega arith) n (omega arith)

-- a byte that is no hex digit is in no numeral
digits_lack : (base c : ℕ) (ds : List ℕ) → base ≤ digit_value c → AllDigits base ds → LacksByte c ds
digits_lack base c [] h d k lt = absurd (omega arith)
digits_lack base c (x ∷ ds) h d zero lt = λ e. let low : digit_value c < base = subst (λ (y : ℕ). digit_value y < base) e d.0 in omega arith
digits_lack base c (x ∷ ds) h d (suc k) lt = digits_lack base c ds h d.1 k (omega arith)

pub hex_lacks : (c n : ℕ) → 16 ≤ digit_value c → n < 2 ^ 26 → LacksByte c (hex n)
hex_lacks c n h small = digits_lack 16 c (hex n) h (hex_is_IsNumeral n small).0.1

pub decimal_lacks : (c n : ℕ) → 10 ≤ digit_value c → n < 2 ^ 63 → LacksByte c (decimal n)
decimal_lacks c n h small = digits_lack 10 c (decimal n) h (decimal_is_IsNumeral n (omega arith)).0.1

-- ## One spelling for each number

pub decimal_is_one : (m n : ℕ) → m < 2 ^ 63 → n < 2 ^ 63 → decimal m ≡ decimal n → m ≡ n
decimal_is_one m n a b e = decimal_injective m n (omega arith) (omega arith) e

pub hex_is_one : (m n : ℕ) → m < 2 ^ 26 → n < 2 ^ 26 → hex m ≡ hex n → m ≡ n
hex_is_one m n a b e = sym (hex_is_IsNumeral m a).1 ∙ ap (digits_value 16) e ∙ (hex_is_IsNumeral n b).1

-- ## Hex, digit by digit

-- a digit more
pub hex_more : (n d : ℕ) → 0 < n → n < 2 ^ 22 → d < 16 → hex (n * 16 + d) ≡ hex n ++ (digit_glyph true d ∷ [])
hex_more n d some small digit =
    let front : (n * 16 + d) / 16 ≡ n = omega arith in
    let last : (n * 16 + d) % 16 ≡ d = omega arith in
    hex_step (n * 16 + d) (omega arith) (omega arith) ∙ ap₂ (λ (a b : ℕ). hex a ++ (digit_glyph true b ∷ [])) front last

-- ## A number that goes on

snoc_view : (x : ℕ) (xs : List ℕ) → (front : List ℕ) × (last : ℕ) × (x ∷ xs ≡ front ++ last ∷ [])
snoc_view x [] = ([], x, refl)
snoc_view x (y ∷ ys) = let deeper = snoc_view y ys in (x ∷ deeper.0, deeper.1, ap (λ (zs : List ℕ). x ∷ zs) deeper.2)

pub hex_some : (n : ℕ) → n < 2 ^ 26 → 0 < length (hex n)
hex_some n h = (hex_is_IsNumeral n h).0.0

-- what may follow a front of a number
pub record GoesOn (whole front byte : ℕ) : Type 0 where
  pub some : 0 < front
  pub small : front * 16 ≤ whole
  pub digit : ℕ
  pub digit_small : digit < 16
  pub byte_is : byte ≡ digit_glyph true digit

pub hex_front : (k m n b : ℕ) (bs : List ℕ) → m ≤ k → m < 2 ^ 26 → n < 2 ^ 26 → hex m ≡ hex n ++ b ∷ bs → GoesOn m n b
hex_front zero m n b bs le p q e =
    let none : m ≡ 0 = omega arith in
    let one : length (hex m) ≡ 1 = ap length (ap hex none ∙ hex_one_digit true 0 (omega arith)) in
    let more : length (hex m) ≡ length (hex n) + suc (length bs) = ap length e ∙ length-append (hex n) (b ∷ bs) in
    absurd (omega (arith, one, more, hex_some n q))
hex_front (suc k) m n b bs le p q e =
    elim (cases_lt m 16) [
      | inl lt ↦
          let one : length (hex m) ≡ 1 = ap length (hex_one_digit true m lt) in
          let more : length (hex m) ≡ length (hex n) + suc (length bs) = ap length e ∙ length-append (hex n) (b ∷ bs) in
          absurd (omega (arith, one, more, hex_some n q))
      | inr big ↦ by (λ front le small same. hex_front k (m / 16) n b front le small q same) bs (sym (hex_step m big (omega arith)) ∙ e) big
    ]
  where
    by : ((front : List ℕ) → m / 16 ≤ k → m / 16 < 2 ^ 26 → hex (m / 16) ≡ hex n ++ b ∷ front → GoesOn (m / 16) n b) → (cs : List ℕ) → hex (m / 16) ++ (digit_glyph true (m % 16) ∷ []) ≡ hex n ++ b ∷ cs → 16 ≤ m → GoesOn m n b
    by again [] f big =
        let parts = same_from_push (hex (m / 16)) (hex n) (digit_glyph true (m % 16)) b f in
        let same : m / 16 ≡ n = hex_is_one (m / 16) n (omega arith) q parts.0 in
        record { some = omega (arith, same); small = omega (arith, same); digit = m % 16; digit_small = omega arith; byte_is = sym parts.1 }
    by again (c ∷ cs) f big =
        let view = snoc_view c cs in
        let parts = same_from_push (hex (m / 16)) (hex n ++ b ∷ view.0) (digit_glyph true (m % 16)) view.1
        (f ∙ ap (λ (x : List ℕ). hex n ++ b ∷ x) view.2 ∙ sym (append_assoc (hex n) (b ∷ view.0) (view.1 ∷ []))) in
        let deeper = again view.0 (omega arith) (omega arith) parts.0 in
        record { some = deeper.some; small = omega (arith, deeper.small); digit = deeper.digit; digit_small = deeper.digit_small; byte_is = deeper.byte_is }

-- a front of a number, and what follows it in the word
pub hex_inside : (m n k : ℕ) (word : List ℕ) → m < 2 ^ 26 → n < 2 ^ 26 → word ≡ hex m → hex n ≡ take k word → k < length word → GoesOn m n (get_or word k 0)
hex_inside m n k word p q is front lt =
    let parted : take k word ++ drop k word ≡ word = take-append-drop k word in
    let next : drop k word ≡ get_or word k 0 ∷ drop (suc k) word = drop-cons word k 0 lt in
    hex_front m m n (get_or word k 0) (drop (suc k) word) (omega arith) p q
    (sym is ∙ sym parted ∙ ap₂ (λ (a b : List ℕ). a ++ b) (sym front) next)

pub record IsGlyph (byte : ℕ) : Type 0 where
  pub digit : ℕ
  pub small : digit < 16
  pub is : byte ≡ digit_glyph true digit

first_of_front : (xs ys : List ℕ) → 0 < length xs → get_or (xs ++ ys) 0 0 ≡ get_or xs 0 0
first_of_front [] ys some = absurd (omega arith)
first_of_front (x ∷ xs) ys some = refl

pub hex_starts : (k n : ℕ) → n ≤ k → n < 2 ^ 26 → IsGlyph (get_or (hex n) 0 0)
hex_starts zero n le small = record { digit = n; small = omega arith; is = ap (λ (x : List ℕ). get_or x 0 0) (hex_one_digit true n (omega arith)) }
hex_starts (suc k) n le small =
    elim (cases_lt n 16) [
      | inl lt ↦ record { digit = n; small = lt; is = ap (λ (x : List ℕ). get_or x 0 0) (hex_one_digit true n lt) }
      | inr big ↦
          let deeper = hex_starts k (n / 16) (omega arith) (omega arith) in
          record {
            digit = deeper.digit;
            small = deeper.small;
            is = ap (λ (x : List ℕ). get_or x 0 0) (hex_step n big (omega arith)) ∙ first_of_front (hex (n / 16)) (digit_glyph true (n % 16) ∷ []) (hex_some (n / 16) (omega arith)) ∙ deeper.is;
          }
    ]

-- ## A word without its first byte, as a slice

abbrev pub after_first : List ℕ → List ℕ
after_first word = take (length word - 1) (drop 1 word)

pub after_first_is : (x : ℕ) (xs : List ℕ) → after_first (x ∷ xs) ≡ xs
after_first_is x xs = take_all (length (x ∷ xs) - 1) xs (omega arith)

pub after_first_at : (word : List ℕ) (i : ℕ) → i < length (after_first word) → (suc i < length word) × (get_or (after_first word) i 0 ≡ get_or word (suc i) 0)
after_first_at [] i lt = absurd (omega (arith, lt, length-take {A = ℕ} (length {A = ℕ} [] - 1) []))
after_first_at (x ∷ xs) i lt = let n : length (after_first (x ∷ xs)) ≡ length xs = ap length (after_first_is x xs) in (omega (arith, n, lt), ap (λ (ys : List ℕ). get_or ys i 0) (after_first_is x xs))

-- a front that grows by a digit
pub front_more : (word : List ℕ) (n d i : ℕ) → hex n ≡ take (suc i) word → 0 < n → n < 2 ^ 22 → d < 16 → i < length (after_first word) → get_or (after_first word) i 0 ≡ digit_glyph true d
    → hex (n * 16 + d) ≡ take (suc (i + 1)) word
front_more word n d i front some small digit lt is =
    let next = after_first_at word i lt in
    let at : take (suc (suc i)) word ≡ take (suc i) word ++ get_or word (suc i) 0 ∷ [] = take-suc word (suc i) 0 next.0 in
    let len : suc (i + 1) ≡ suc (suc i) = omega arith in
    hex_more n d some small digit ∙ ap₂ (λ (x : List ℕ) (y : ℕ). x ++ y ∷ []) front (sym is ∙ next.1) ∙ sym at ∙ ap (λ (k : ℕ). take k word) (sym len)

pub front_one : (word : List ℕ) (d : ℕ) → 0 < length word → d < 16 → get_or word 0 0 ≡ digit_glyph true d → hex d ≡ take 1 word
front_one [] d some digit is = absurd (omega arith)
front_one (x ∷ word) d some digit is = hex_one_digit true d digit ∙ ap (λ (y : ℕ). y ∷ []) (sym is)
