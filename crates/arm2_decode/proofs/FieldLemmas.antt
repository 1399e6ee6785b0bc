-- Fields by shift and mask, and masks as fields.
use Rattle.std.proofs.Common.{ℕ, ◌+◌, ◌-◌, ◌*◌, ◌/◌, ◌%◌, ◌^◌, ◌≤◌, ◌<◌, ◌≡◌, ap, ◌∙◌, arith, zero, suc, refl, eqb}
use Rattle.std.proofs.lemmas.Nat.{and_mask, and_block, shr_split, mod_below, pow_pos}
use Rattle.std.proofs.lemmas.Nat.Bits.{and_high, ones_shr}
use Rattle.std.specs.Int.Bits.{bit_and}
use Rattle.arm2_decode.specs.Allowed.{bit_of}
use Rattle.arm2_decode.specs.Bits.{bits}

-- a field, as the code takes it
pub get_field : (hi lo w : ℕ) → lo ≤ hi → hi < 32 → bit_and (w / 2 ^ lo) ((2 ^ 32 - 1) / 2 ^ (31 - (hi - lo))) ≡ bits hi lo w
get_field hi lo w ordered in_word =
    let width : 32 - (31 - (hi - lo)) ≡ hi + 1 - lo = omega arith in
    let room : 31 - (hi - lo) ≤ 32 = omega arith in
    ap (bit_and (w / 2 ^ lo)) (ones_shr 32 (31 - (hi - lo)) room ∙ ap (λ k. 2 ^ k - 1) width) ∙ and_mask (w / 2 ^ lo) (hi + 1 - lo)

-- a mask of one run of k bits from j on
pub mask_one : (w j k : ℕ) → bit_and w (2 ^ (k + j) - 2 ^ j) ≡ (w / 2 ^ j % 2 ^ k) * 2 ^ j
mask_one w j k = and_high w k j

-- a mask in two parts, cut at bit c
pub mask_cut : (w c high low : ℕ) → low < 2 ^ c → bit_and w (high * 2 ^ c + low) ≡ bit_and (w / 2 ^ c) high * 2 ^ c + bit_and (w % 2 ^ c) low
mask_cut w c high low fits =
    let whole : w ≡ w / 2 ^ c * 2 ^ c + w % 2 ^ c = omega (arith, shr_split w c) in
    ap (λ x. bit_and x (high * 2 ^ c + low)) whole ∙ and_block c (w / 2 ^ c) high (w % 2 ^ c) low (mod_below w (2 ^ c) (pow_pos c)) fits

-- a bit as a `bool` and back
pub bit_again : (x : ℕ) → x < 2 → bit_of (eqb x 1) ≡ x
bit_again zero h = refl
bit_again (suc zero) h = refl
bit_again (suc (suc x)) h = absurd (omega arith)

pub set_bit : (hi lo w x : ℕ) → hi ≡ lo → x ≡ bits hi lo w → bit_of (eqb x 1) ≡ bits hi lo w
set_bit hi lo w x one e =
    let width : hi + 1 - lo ≡ 1 = omega arith in
    let below : w / 2 ^ lo % 2 ^ (hi + 1 - lo) < 2 = rw width (mod_below (w / 2 ^ lo) 2 (omega arith)) in
    bit_again x (omega (arith, e, below)) ∙ e

-- the masks of the table, as fields
pub mask_kind : (w : ℕ) → bit_and w 0x0E000000 ≡ bits 27 25 w * 2 ^ 25
mask_kind w = mask_one w 25 3

pub mask_wide : (w : ℕ) → bit_and w 0x0F000000 ≡ bits 27 24 w * 2 ^ 24
mask_wide w = mask_one w 24 4

pub mask_multiply : (w : ℕ) → bit_and w 0x0FC000F0 ≡ bits 27 22 w * 2 ^ 22 + bits 7 4 w * 2 ^ 4
mask_multiply w = omega (arith, mask_cut w 8 0x0FC000 0xF0 (omega arith), mask_one (w / 2 ^ 8) 14 6, mask_one (w % 2 ^ 8) 4 4)

pub mask_four : (w : ℕ) → bit_and w 0x0E000010 ≡ bits 27 25 w * 2 ^ 25 + bits 4 4 w * 2 ^ 4
mask_four w = omega (arith, mask_cut w 25 7 0x10 (omega arith), mask_one (w / 2 ^ 25) 0 3, mask_one (w % 2 ^ 25) 4 1)

pub mask_seven_four : (w : ℕ) → bit_and w 0x0E000090 ≡ bits 27 25 w * 2 ^ 25 + bits 7 7 w * 2 ^ 7 + bits 4 4 w * 2 ^ 4
mask_seven_four w = omega (arith, mask_cut w 25 7 0x90 (omega arith), mask_one (w / 2 ^ 25) 0 3, mask_cut (w % 2 ^ 25) 5 4 0x10 (omega arith), mask_one (w % 2 ^ 25 / 2 ^ 5) 2 1, mask_one (w % 2 ^ 25 % 2 ^ 5) 4 1)
