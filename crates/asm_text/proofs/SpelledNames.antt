-- Numbers and names are read as they are spelled.
use Rattle.std.proofs.Common.{◌≡◌, ◌<◌, ◌^◌, ℕ, zero, suc, Bool, true, ◌==◌, ◌&&◌, List, [], ◌∷◌, ◌++◌, length, Option, Some, None, codes, refl, sym, ap, subst, ◌∙◌, inl, inr, ◌⊎◌, arith, eqb-true, get_or}
use Rattle.std.specs.Prelude.{nat_lt, is_none, option_and_then}
use Rattle.std.specs.Char.{is_digit}
use Rattle.std.specs.List.{Contains, list_all}
use Rattle.std.specs.Str.{bytes_eq}
use Rattle.std.specs.Str.Parse.{digits_value}
use Rattle.std.proofs.lemmas.Bool.{and_parts, cases_Bool}
use Rattle.std.proofs.lemmas.Bool.Decides.{nat_tests}
use Rattle.std.proofs.lemmas.List.{append-nil}
use Rattle.std.proofs.lemmas.Option.{none-some, same_Some}
use Rattle.arm2_decode.specs.declared.names.Register.{Register}
use Rattle.arm2_decode.specs.declared.names.Shift.{Shift}
use Rattle.asm_text.specs.Pieces.{Piece, Run, Comma, Sign}
use Rattle.asm_text.specs.Numbers.{after_zero, digits_of, fits, number_by, first_number, read_number, with_rest}
use Rattle.asm_text.specs.Operands.{alone, all_read}
use Rattle.asm_text.specs.Registers.{in_both_cases, named_in, is_rrx, first_register_comma, first_register, register_names, register_of, shift_names, shift_of}
use Rattle.asm_text.specs.SpelledOperands.{IsDigits, IsNumber, IsRegister, IsRrx, IsShift, SpellsNumber}
use Rattle.asm_text.specs.declared.token.Mark.TheVariants.{Ampersand}
use Rattle.asm_text.proofs.WordLaws.{chosen, equal_bytes, false_true, same_bytes}

-- ## What an option came from

pub and_then_is : {A B : Type 0} (f : A → Option B) (o : Option A) (b : B) → option_and_then f o ≡ Some b → (a : A) × (o ≡ Some a) × (f a ≡ Some b)
and_then_is f None b e = absurd (none-some b e)
and_then_is f (Some a) b e = (a, refl, e)

pub with_rest_is : {A : Type 0} (ps : List Piece) (o : Option A) (f : A × List Piece) → with_rest ps o ≡ Some f → (o ≡ Some f.0) × (ps ≡ f.1)
with_rest_is ps None f e = absurd (none-some f e)
with_rest_is ps (Some a) f e = let same = same_Some (a, ps) f e in (ap (λ g. Some g.0) same, ap (λ g. g.1) same)

alone_is : {A : Type 0} (a : A) (ps : List Piece) (b : A) → alone a ps ≡ Some b → (ps ≡ []) × (a ≡ b)
alone_is a [] b e = (refl, same_Some a b e)
alone_is a (p ∷ ps) b e = absurd (none-some b e)

pub whole_is : {A : Type 0} (o : Option (A × List Piece)) (a : A) → all_read o ≡ Some a → o ≡ Some (a, [])
whole_is None a e = absurd (none-some a e)
whole_is (Some f) a e = let k = alone_is f.0 f.1 a e in ap Some (rw (← k.0, ← k.1) refl)

-- ## Digits

fits_is : (o : Option ℕ) (n : ℕ) → fits o ≡ Some n → (o ≡ Some n) × (n < 2 ^ 32)
fits_is None n e = absurd (none-some n e)
fits_is (Some m) n e =
    elim (chosen (nat_lt m (2 ^ 32)) (Some m) None (Some n) e) [
      | inl h ↦ let same = same_Some m n h.1 in let lt : m < 2 ^ 32 = grind (arith, nat_tests, h.0) in (ap Some same, omega arith)
      | inr h ↦ absurd (none-some n h.1)
    ]

pub digits_is : (radix : ℕ) (text : List ℕ) (n : ℕ) → number_by radix text ≡ Some n → IsDigits radix text n
digits_is radix text n e =
    let f = fits_is (digits_of radix text) n e in
    elim (chosen (nat_lt 0 (length text) && list_all (λ c. is_digit c radix) text) (Some (digits_value radix text)) None (Some n) f.0) [
      | inl h ↦
          let k = and_parts (nat_lt 0 (length text)) (list_all (λ c. is_digit c radix) text) h.0 in
          record { some = grind (arith, nat_tests, k.0); digits = k.1; value = sym (same_Some (digits_value radix text) n h.1); fits = f.1 }
      | inr h ↦ absurd (none-some n h.1)
    ]

pub digits_again : (radix : ℕ) (text : List ℕ) (n : ℕ) → IsDigits radix text n → number_by radix text ≡ Some n
digits_again radix text n h =
    let some : nat_lt 0 (length text) ≡ true = grind (arith, nat_tests, h.some) in
    let small : nat_lt n (2 ^ 32) ≡ true = grind (arith, nat_tests, h.fits) in
    let of : digits_of radix text ≡ Some n = rw (some, h.digits) (ap Some (sym h.value)) in
    ap fits of ∙ rw small refl

-- ## Numbers

zero_is : (d : List ℕ) (n : ℕ) → after_zero d ≡ Some n → IsNumber (48 ∷ d) n
zero_is [] n e = inl (digits_is 10 (48 ∷ []) n e)
zero_is (c ∷ d) n e =
    elim (chosen (c == 120) (number_by 16 d) (number_by 10 (48 ∷ c ∷ d)) (Some n) e) [
      | inl h ↦ inr (d, ap (λ (b : ℕ). 48 ∷ b ∷ d) (eqb-true c 120 h.0), digits_is 16 d n h.1)
      | inr h ↦ inl (digits_is 10 (48 ∷ c ∷ d) n h.1)
    ]

pub number_is : (text : List ℕ) (n : ℕ) → read_number text ≡ Some n → IsNumber text n
number_is [] n e = absurd (none-some n e)
number_is (c ∷ d) n e =
    elim (chosen (c == 48) (after_zero d) (number_by 10 (c ∷ d)) (Some n) e) [
      | inl h ↦ rw (eqb-true c 48 h.0) (zero_is d n h.1)
      | inr h ↦ inl (digits_is 10 (c ∷ d) n h.1)
    ]

zero_again : (d : List ℕ) (n : ℕ) → IsDigits 10 (48 ∷ d) n → after_zero d ≡ Some n
zero_again [] n h = digits_again 10 (48 ∷ []) n h
zero_again (c ∷ d) n h =
    elim (cases_Bool (c == 120)) [
      | inl e ↦
          let k = and_parts (is_digit 48 10) (list_all (λ c. is_digit c 10) (c ∷ d)) h.digits in
          let m = and_parts (is_digit c 10) (list_all (λ c. is_digit c 10) d) k.1 in
          false_true (ap (λ b. is_digit b 10) (sym (eqb-true c 120 e)) ∙ m.0)
      | inr e ↦ rw e (digits_again 10 (48 ∷ c ∷ d) n h)
    ]

decimal_again : (text : List ℕ) (n : ℕ) → IsDigits 10 text n → read_number text ≡ Some n
decimal_again [] n h = absurd (omega (arith, h.some))
decimal_again (c ∷ d) n h =
    elim (cases_Bool (c == 48)) [
      | inl e ↦ rw e (zero_again d n (subst (λ b. IsDigits 10 (b ∷ d) n) (eqb-true c 48 e) h))
      | inr e ↦ rw e (digits_again 10 (c ∷ d) n h)
    ]

pub number_again : (text : List ℕ) (n : ℕ) → IsNumber text n → read_number text ≡ Some n
number_again text n h = elim h [ inl d ↦ decimal_again text n d | inr d ↦ ap read_number d.1 ∙ digits_again 16 d.0 n d.2 ]

-- ## A number at the front

pub number_front : (ps : List Piece) (f : ℕ × List Piece) → first_number ps ≡ Some f → (a : List Piece) × (ps ≡ a ++ f.1) × SpellsNumber f.0 a
number_front (Run d ∷ ps) f e =
    let k = with_rest_is ps (read_number d) f e in
    (Run d ∷ [], ap (λ (qs : List Piece). Run d ∷ qs) k.1, inl (d, refl, number_is d f.0 k.0))
number_front (Sign Ampersand ∷ Run d ∷ ps) f e =
    let k = with_rest_is ps (number_by 16 d) f e in
    (Sign Ampersand ∷ Run d ∷ [], ap (λ (qs : List Piece). Sign Ampersand ∷ Run d ∷ qs) k.1, inr (d, refl, digits_is 16 d f.0 k.0))
number_front _ f e = absurd (none-some f e)

pub front_number : (n : ℕ) (a rest : List Piece) → SpellsNumber n a → first_number (a ++ rest) ≡ Some (n, rest)
front_number n a rest h =
    elim h [
      | inl k ↦ rw (k.1, number_again k.0 n k.2) refl
      | inr k ↦ rw (k.1, digits_again 16 k.0 n k.2) refl
    ]

pub number_whole : (ps : List Piece) (n : ℕ) → all_read (first_number ps) ≡ Some n → SpellsNumber n ps
number_whole ps n e =
    let k = number_front ps (n, []) (whole_is (first_number ps) n e) in
    subst (SpellsNumber n) (sym (append-nil k.0) ∙ sym k.1) k.2

pub whole_number : (n : ℕ) (ps : List Piece) → SpellsNumber n ps → all_read (first_number ps) ≡ Some n
whole_number n ps h = ap (λ (qs : List Piece). all_read (first_number qs)) (sym (append-nil ps)) ∙ ap all_read (front_number n ps [] h)

-- ## Names

-- no name occurs twice
abbrev once : {A : Type 0} → List (List ℕ × A) → Bool
once [] = true
once (e ∷ es) = is_none (named_in es e.0) && once es

in_more : {A : Type 0} (e : List ℕ × A) (es : List (List ℕ × A)) (x : List ℕ × A) → Contains es x → Contains (e ∷ es) x
in_more e es x h = (suc h.0, omega (arith, h.1), h.2)

in_cases : {A : Type 0} (e : List ℕ × A) (es : List (List ℕ × A)) (x : List ℕ × A) (k : ℕ) → k < length (e ∷ es) → get_or (e ∷ es) k x ≡ x → (e ≡ x) ⊎ Contains es x
in_cases e es x zero lt is = inl is
in_cases e es x (suc k) lt is = inr (k, omega arith, is)

found_is : {A : Type 0} (names : List (List ℕ × A)) (text : List ℕ) (a : A) → named_in names text ≡ Some a → Contains names (text, a)
found_is [] text a e = absurd (none-some a e)
found_is (x ∷ xs) text a e =
    elim (chosen (bytes_eq text x.0) (Some x.1) (named_in xs text) (Some a) e) [
      | inl h ↦ (0, omega arith, rw (← (equal_bytes text x.0 h.0), ← (same_Some x.1 a h.1)) refl)
      | inr h ↦ in_more x xs (text, a) (found_is xs text a h.1)
    ]

found_first : {A : Type 0} (names : List (List ℕ × A)) (text : List ℕ) (a : A) → once names ≡ true → Contains names (text, a) → named_in names text ≡ Some a
found_first [] text a u h = absurd (omega (arith, h.1))
found_first (x ∷ xs) text a u h =
    let k = and_parts (is_none (named_in xs x.0)) (once xs) u in
    elim (in_cases x xs (text, a) h.0 h.1 h.2) [
      | inl is ↦ rw is (rw (same_bytes text) refl)
      | inr later ↦
          let there = found_first xs text a k.1 later in
          elim (cases_Bool (bytes_eq text x.0)) [
            | inl same ↦ false_true (ap is_none (sym there ∙ ap (named_in xs) (equal_bytes text x.0 same)) ∙ k.0)
            | inr other ↦ rw other there
          ]
    ]

pub register_is : (text : List ℕ) (r : Register) → register_of text ≡ Some r → IsRegister text r
unfolding register_of
register_is text r e = found_is (in_both_cases register_names) text r e

pub register_again : (text : List ℕ) (r : Register) → IsRegister text r → register_of text ≡ Some r
unfolding register_of
register_again text r h = found_first (in_both_cases register_names) text r refl h

pub shift_is : (text : List ℕ) (s : Shift) → shift_of text ≡ Some s → IsShift text s
unfolding shift_of
shift_is text s e = found_is (in_both_cases shift_names) text s e

pub shift_again : (text : List ℕ) (s : Shift) → IsShift text s → shift_of text ≡ Some s
unfolding shift_of
shift_again text s h = found_first (in_both_cases shift_names) text s refl h

pub rrx_is : (text : List ℕ) → is_rrx text ≡ true → IsRrx text
rrx_is text e =
    elim (cases_Bool (bytes_eq text (codes "RRX"))) [
      | inl h ↦ inl (equal_bytes text (codes "RRX") h)
      | inr h ↦ let k : bytes_eq text (codes "rrx") ≡ true = rw h at e in inr (equal_bytes text (codes "rrx") k)
    ]

pub rrx_again : (text : List ℕ) → IsRrx text → is_rrx text ≡ true
rrx_again text h = elim h [ inl e ↦ rw e refl | inr e ↦ rw e refl ]

-- ## A register at the front

pub register_front : (ps : List Piece) (f : Register × List Piece) → first_register ps ≡ Some f → (t : List ℕ) × (ps ≡ Run t ∷ f.1) × IsRegister t f.0
register_front (Run t ∷ ps) f e =
    let k = with_rest_is ps (register_of t) f e in
    (t, ap (λ (qs : List Piece). Run t ∷ qs) k.1, register_is t f.0 k.0)
register_front _ f e = absurd (none-some f e)

pub front_register : (t : List ℕ) (r : Register) (ps : List Piece) → IsRegister t r → first_register (Run t ∷ ps) ≡ Some (r, ps)
front_register t r ps h = rw (register_again t r h) refl

pub register_comma_front : (ps : List Piece) (f : Register × List Piece) → first_register_comma ps ≡ Some f → (t : List ℕ) × (ps ≡ Run t ∷ Comma ∷ f.1) × IsRegister t f.0
register_comma_front (Run t ∷ Comma ∷ ps) f e =
    let k = with_rest_is ps (register_of t) f e in
    (t, ap (λ (qs : List Piece). Run t ∷ Comma ∷ qs) k.1, register_is t f.0 k.0)
register_comma_front _ f e = absurd (none-some f e)

pub front_register_comma : (t : List ℕ) (r : Register) (ps : List Piece) → IsRegister t r → first_register_comma (Run t ∷ Comma ∷ ps) ≡ Some (r, ps)
front_register_comma t r ps h = rw (register_again t r h) refl
