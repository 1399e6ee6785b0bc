-- The digits of a byte, from the table.
use Rattle.std.proofs.Common.{◌≡◌, ◌∙◌, ℕ, zero, suc, ◌+◌, ◌-◌, ◌*◌, ◌/◌, ◌%◌, ◌^◌, ◌<◌, ◌≤◌, Bool, true, ◌&&◌, T, eqb, [], ◌∷◌, ◌++◌, length, get_or}
use Rattle.std.proofs.Common.{refl, ap, inl, inr, arith, eq-zero-or-pos, eqb→eq, append_assoc, length-append}
use lib.Ieee.Fits.{and_l, and_r}
use Rattle.asm_text.specs.Hex.{hex, hex_digit}
use Rattle.asm_text.proofs.HexLaws.{hex_one, hex_step}
use Rattle.certificate.specs.declared.hex_text.TheConstants.{PAIRS}

abbrev are_pairs : ℕ → Bool
are_pairs zero = true
are_pairs (suc p) =
    (eqb (get_or PAIRS (p * 2) 0) (hex_digit (p / 16)) && eqb (get_or PAIRS (p * 2 + 1) 0) (hex_digit (p % 16)))
    && are_pairs p

below : (n p : ℕ) → T (are_pairs n) → p < n
    → (get_or PAIRS (p * 2) 0 ≡ hex_digit (p / 16)) × (get_or PAIRS (p * 2 + 1) 0 ≡ hex_digit (p % 16))
below zero p t h = absurd (omega arith)
below (suc n) p t h =
    elim (eq-zero-or-pos (n - p)) [
      | inl z ↦ let e : p ≡ n = omega arith in let a = and_l _ (are_pairs n) t in rw e (eqb→eq _ _ (and_l _ _ a), eqb→eq _ _ (and_r _ _ a))
      | inr g ↦ below n p (and_r _ (are_pairs n) t) (omega arith)
    ]

pub pair_at : (p : ℕ) → p < 256
    → (get_or PAIRS (p * 2) 0 ≡ hex_digit (p / 16)) × (get_or PAIRS (p * 2 + 1) 0 ≡ hex_digit (p % 16))
pair_at p h = below 256 p tt h

-- a number by its front and its last two digits
pub hex_pair : (n : ℕ) → 256 ≤ n → n < 2 ^ 64
    → hex n ≡ hex (n / 256) ++ hex_digit (n % 256 / 16) ∷ hex_digit (n % 256 % 16) ∷ []
hex_pair n le small =
    let a : n / 16 / 16 ≡ n / 256 = omega arith in
    let b : n / 16 % 16 ≡ n % 256 / 16 = omega arith in
    let c : n % 16 ≡ n % 256 % 16 = omega arith in
    rw (hex_step n (omega arith) small, hex_step (n / 16) (omega arith) (omega arith), append_assoc, a, b, c) refl

pub hex_two : (n : ℕ) → 16 ≤ n → n < 256 → hex n ≡ hex_digit (n / 16) ∷ hex_digit (n % 16) ∷ []
hex_two n le lt = rw (hex_step n le (omega arith), hex_one (n / 16) (omega arith)) refl

pub hex_pair_len : (n : ℕ) → 256 ≤ n → n < 2 ^ 64 → length (hex n) ≡ length (hex (n / 256)) + 2
hex_pair_len n le small = ap length (hex_pair n le small) ∙ length-append _ _

pub hex_two_len : (n : ℕ) → 16 ≤ n → n < 256 → length (hex n) ≡ 2
hex_two_len n le lt = ap length (hex_two n le lt)

pub hex_one_len : (n : ℕ) → n < 16 → length (hex n) ≡ 1
hex_one_len n lt = ap length (hex_one n lt)
