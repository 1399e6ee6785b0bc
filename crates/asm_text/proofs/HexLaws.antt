-- Hexadecimal numbers, digit by digit.
use Rattle.std.proofs.Common.{◌≡◌, ℕ, zero, suc, ◌/◌, ◌%◌, ◌^◌, ◌<◌, ◌≤◌, Bool, true, cond, List, [], ◌∷◌, ◌++◌}
use Rattle.std.proofs.Common.{length, refl, sym, ap, ◌∙◌, append_assoc, length-append, inl, inr, eq-eqb, ne_eqb, arith}
use Rattle.std.specs.Fmt.{digits, digits_onto}
use Rattle.std.specs.List.{list_all}
use Rattle.std.proofs.lemmas.Bool.{cases_lt}
use Rattle.std.proofs.lemmas.Fmt.{hex_one_digit}
use Rattle.std.proofs.lemmas.List.Folds.{list_all-append}
use Rattle.asm_text.specs.Hex.{hex, hex_digit, hex_digits}

abbrev spell : ℕ → ℕ → List ℕ → List ℕ
spell k n acc = digits_onto k 16 true n acc

spell_last : (k n : ℕ) (acc : List ℕ) → n < 16 → spell (suc k) n acc ≡ hex_digit (n % 16) ∷ acc
spell_last k n acc h =
    let d = hex_digit (n % 16) in
    ap (λ (t : Bool). cond t (d ∷ acc) (spell k (n / 16) (d ∷ acc))) (eq-eqb (n / 16) 0 (omega arith))

spell_next : (k n : ℕ) (acc : List ℕ) → 16 ≤ n
    → spell (suc k) n acc ≡ spell k (n / 16) (hex_digit (n % 16) ∷ acc)
spell_next k n acc h =
    let d = hex_digit (n % 16) in
    ap (λ (t : Bool). cond t (d ∷ acc) (spell k (n / 16) (d ∷ acc))) (ne_eqb (n / 16) 0 (λ e. omega arith))

spell-append : (k n : ℕ) (acc : List ℕ) → spell k n acc ≡ spell k n [] ++ acc
spell-append zero n acc = refl
spell-append (suc k) n acc =
    let d = hex_digit (n % 16) in
    elim (cases_lt n 16) [
      | inl lt ↦ spell_last k n acc lt ∙ ap (λ (x : List ℕ). x ++ acc) (sym (spell_last k n [] lt))
      | inr le ↦
          spell_next k n acc le ∙ spell-append k (n / 16) (d ∷ acc)
          ∙ sym (append_assoc (spell k (n / 16) []) (d ∷ []) acc)
          ∙ ap (λ (x : List ℕ). x ++ acc) (sym (spell_next k n [] le ∙ spell-append k (n / 16) (d ∷ [])))
    ]

-- the limit of digits does not matter once it is large enough
spell_enough : (j k n : ℕ) (acc : List ℕ) → n < 16 ^ suc j → n < 16 ^ suc k
    → spell (suc j) n acc ≡ spell (suc k) n acc
spell_enough zero k n acc p q = spell_last zero n acc (omega arith) ∙ sym (spell_last k n acc (omega arith))
spell_enough (suc j) zero n acc p q =
    spell_last (suc j) n acc (omega arith) ∙ sym (spell_last zero n acc (omega arith))
spell_enough (suc j) (suc k) n acc p q =
    elim (cases_lt n 16) [
      | inl lt ↦ spell_last (suc j) n acc lt ∙ sym (spell_last (suc k) n acc lt)
      | inr le ↦
          spell_next (suc j) n acc le
          ∙ spell_enough j k (n / 16) (hex_digit (n % 16) ∷ acc) (omega arith) (omega arith)
          ∙ sym (spell_next (suc k) n acc le)
    ]

pub hex_one : (n : ℕ) → n < 16 → hex n ≡ hex_digit n ∷ []
hex_one n lt = hex_one_digit true n lt

pub hex_step : (n : ℕ) → 16 ≤ n → n < 2 ^ 64 → hex n ≡ hex (n / 16) ++ hex_digit (n % 16) ∷ []
unfolding digits
hex_step n le small =
    spell_next 63 n [] le
    ∙ spell_enough 62 63 (n / 16) (hex_digit (n % 16) ∷ []) (omega arith) (omega arith)
    ∙ spell-append 64 (n / 16) (hex_digit (n % 16) ∷ [])

pub hex_length : (k n : ℕ) → n < 16 ^ suc k → n < 2 ^ 64 → length (hex n) ≤ suc k
hex_length zero n lt small = rw (hex_one n (omega arith)) (omega arith)
hex_length (suc k) n lt small =
    elim (cases_lt n 16) [
      | inl one ↦ rw (hex_one n one) (omega arith)
      | inr le ↦
          let front = hex_length k (n / 16) (omega arith) (omega arith) in
          rw (hex_step n le small)
          (omega (arith, length-append (hex (n / 16)) (hex_digit (n % 16) ∷ []), front))
    ]

pub hex_room : (n : ℕ) → n < 2 ^ 33 → length (hex n) ≤ 9
hex_room n lt = hex_length 8 n (omega arith) (omega arith)

pub all_digits : (p : ℕ → Bool) (k n : ℕ) → ((d : ℕ) → d < 16 → p (hex_digit d) ≡ true)
    → list_all p (hex_digits k n) ≡ true
all_digits p zero n h = refl
all_digits p (suc k) n h =
    list_all-append p (hex_digits k (n / 16)) (hex_digit (n % 16) ∷ [])
    ∙ rw (all_digits p k (n / 16) h, h (n % 16) (omega arith)) refl
