-- The registers of a list: as many as its bits, and at least one in a block word.
use Rattle.std.proofs.Common.{◌≡◌, ℕ, zero, suc, ◌+◌, ◌/◌, ◌%◌, ◌^◌, ◌<◌, ◌≤◌, ◌==◌, if◌then◌else◌, Bool, true, false, cond, List, [], ◌∷◌, length, filter, count_ones, refl, sym, ap, ◌∙◌, arith}
use Rattle.std.specs.List.{count_by}
use Rattle.std.proofs.Math.Nat.{div-div-eq-div-mul, pow-suc}
use Rattle.std.proofs.lemmas.Nat.{ones_le_self, zero_from_ones}
use Rattle.std.proofs.lemmas.List.Sums.{count_by-le-length, length-filter}
use lib.Count.{ones_step}
use Rattle.arm2_decode.specs.Allowed.{bit_of, block_clash}
use Rattle.arm2_decode.specs.Names.{register_number}
use Rattle.arm2_decode.specs.Transfers.{all_registers, is_listed, word_count}
use Rattle.arm2_decode.specs.declared.instr.Block.{Block}
use Rattle.arm2_decode.specs.declared.names.Register.{Register}
use Rattle.arm2_decode.proofs.FieldLemmas.{bit_again}

-- registers whose numbers count up from n
abbrev pub Counted : ℕ → List Register → Type 0
Counted n [] = Unit {0}
Counted n (r ∷ rest) = (register_number r ≡ n) × Counted (suc n) rest

-- one more where a test holds
kept_one : (b : Bool) (x : Register) (xs : List Register) (n : ℕ) → length (cond b (x ∷ xs) xs) + n ≡ bit_of b + (length xs + n)
kept_one true x xs n = omega arith
kept_one false x xs n = omega arith

halved : (list n : ℕ) → list / 2 ^ n / 2 ≡ list / 2 ^ suc n
halved list n = div-div-eq-div-mul list (2 ^ n) 2 ∙ ap (λ m. list / m) (sym (pow-suc 2 n))

bits_kept : (list n : ℕ) (rs : List Register) → Counted n rs → length (filter (is_listed list) rs) + count_ones (list / 2 ^ (n + length rs)) ≡ count_ones (list / 2 ^ n)
bits_kept list n [] h =
    let e : n + 0 ≡ n = omega arith in
    let same : 0 + count_ones (list / 2 ^ (n + 0)) ≡ count_ones (list / 2 ^ (n + 0)) = omega arith in
    same ∙ ap (λ m. count_ones (list / 2 ^ m)) e
bits_kept list n (r ∷ rest) h =
    let rest_kept = bits_kept list (suc n) rest h.1 in
    let e : n + suc (length rest) ≡ suc n + length rest = omega arith in
    let bit : bit_of (is_listed list r) ≡ list / 2 ^ n % 2 = ap (λ m. bit_of (list / 2 ^ m % 2 == 1)) h.0 ∙ bit_again (list / 2 ^ n % 2) (omega arith) in
    kept_one (is_listed list r) r (filter (is_listed list) rest) (count_ones (list / 2 ^ (n + suc (length rest))))
    ∙ ap (λ m. bit_of (is_listed list r) + (length (filter (is_listed list) rest) + count_ones (list / 2 ^ m))) e
    ∙ ap (λ m. bit_of (is_listed list r) + m) rest_kept
    ∙ ap (λ m. m + count_ones (list / 2 ^ suc n)) bit
    ∙ ap (λ m. list / 2 ^ n % 2 + count_ones m) (sym (halved list n))
    ∙ sym (ones_step (list / 2 ^ n))

pub all_counted : Counted 0 all_registers
unfolding all_registers
all_counted = (refl, (refl, (refl, (refl, (refl, (refl, (refl, (refl, (refl, (refl, (refl, (refl, (refl, (refl, (refl, (refl, tt))))))))))))))))

pub sixteen : length all_registers ≡ 16
unfolding all_registers
sixteen = refl

pub ones_are : (list : ℕ) → list < 2 ^ 16 → count_ones list ≡ word_count list
ones_are list fits =
    let whole = bits_kept list 0 all_registers all_counted in
    let none : list / 2 ^ 16 ≡ 0 = omega arith in
    let past : count_ones (list / 2 ^ (0 + length all_registers)) ≡ count_ones 0 = ap (λ n. count_ones (list / 2 ^ (0 + n))) sixteen ∙ ap count_ones none in
    let first : list / 2 ^ 0 ≡ list = omega arith in
    omega (arith, whole, past, ones_le_self 0, ap count_ones first)

-- a block moves one word at least and sixteen at most
pub few_words : (list : ℕ) → word_count list ≤ 16
few_words list =
    let kept : word_count list ≡ count_by (is_listed list) all_registers = length-filter (is_listed list) all_registers in
    omega (arith, kept, count_by-le-length (is_listed list) all_registers, sixteen)

pub some_words : (x : Block) → 1 ≤ word_count x.list
some_words x = by_count (count_ones x.list) refl
  where
    by_base : (b : Bool) → ◌≡◌ {A = ℕ} (if b then 7 else 8) 0 → ⊥
    by_base true e = omega (arith, e)
    by_base false e = omega (arith, e)

    by_count : (n : ℕ) → count_ones x.list ≡ n → 1 ≤ word_count x.list
    by_count zero none = absurd (by_base (register_number x.rn == 15) (ap (block_clash (register_number x.rn)) (sym (zero_from_ones x.list none)) ∙ x.allocated))
    by_count (suc n) some = omega (arith, some, ones_are x.list x.list_fits)
