-- The lowest register of a list, and the list of the others.
use Rattle.std.proofs.Common.{◌≡◌, ◌≢◌, ℕ, suc, ◌+◌, ◌*◌, ◌%◌, ◌^◌, ◌<◌, ◌≤◌, ◌⊎◌, ◌==◌, true, false, cond, List, [], ◌∷◌, length, filter, bit_and, inl, inr, refl, sym, ap, ◌∙◌, arith}
use Rattle.std.specs.Int.{bit_at, bit_not, trailing_zeros, w32}
use Rattle.std.proofs.lemmas.Bool.{cases_lt}
use Rattle.std.proofs.lemmas.Nat.{and_le_l}
use Rattle.std.proofs.lemmas.Nat.Bits.{bit_at-trailing_zeros, bit_at_above, bit_at_clear_same, bit_at_clear_other}
use Rattle.arm2_decode.proofs.NameLemmas.{same_register}
use Rattle.arm2_decode.specs.Names.{register_number}
use Rattle.arm2_decode.specs.Transfers.{all_registers, is_listed, registers_in}
use Rattle.arm2_decode.specs.declared.names.Register.{Register}
use Rattle.arm2_decode.proofs.Listed.{Counted, all_counted, sixteen}

-- two lists that differ in one bit, their lowest
pub record IsSplit (list rest lowest : ℕ) : Type 0 where
  pub few : lowest < 16
  pub has : bit_at list lowest ≡ 1
  pub none_below : (i : ℕ) → i < lowest → bit_at list i ≡ 0
  pub cleared : bit_at rest lowest ≡ 0
  pub others : (i : ℕ) → i < 32 → i ≢ lowest → bit_at rest i ≡ bit_at list i

pub split_is : (list : ℕ) → 1 ≤ list → list < 2 ^ 16 → IsSplit list (bit_and list (bit_not w32 (1 * 2 ^ trailing_zeros w32 list % 2 ^ 32))) (trailing_zeros w32 list)
split_is list some fits =
    let found = bit_at-trailing_zeros w32 list some (omega (arith, fits)) in
    record {
      few = by_order found.1 (cases_lt (trailing_zeros w32 list) 16);
      has = found.1;
      none_below = found.2;
      cleared = bit_at_clear_same w32 list (trailing_zeros w32 list) found.0;
      others = bit_at_clear_other w32 list (trailing_zeros w32 list) found.0;
    }
  where
    by_order : bit_at list (trailing_zeros w32 list) ≡ 1 → (trailing_zeros w32 list < 16) ⊎ (16 ≤ trailing_zeros w32 list) → trailing_zeros w32 list < 16
    by_order one (inl h) = h
    by_order one (inr h) = absurd (omega (arith, one, bit_at_above list 16 (trailing_zeros w32 list) fits h))

-- the rest is the lesser number
pub split_less : (list mask lowest : ℕ) → IsSplit list (bit_and list mask) lowest → bit_and list mask < list
split_less list mask lowest split = by_order (cases_lt (bit_and list mask) list)
  where
    by_order : (bit_and list mask < list) ⊎ (list ≤ bit_and list mask) → bit_and list mask < list
    by_order (inl h) = h
    by_order (inr h) =
        let same : bit_and list mask ≡ list = omega (arith, and_le_l list mask) in
        absurd (omega (arith, split.has, split.cleared, ap (λ (n : ℕ). bit_at n lowest) same))

listed_at : (list k b : ℕ) (r : Register) → register_number r ≡ k → bit_at list k ≡ b → is_listed list r ≡ (b == 1)
listed_at list k b r number bit = ap (λ (n : ℕ). bit_at list n == 1) number ∙ ap (λ (n : ℕ). n == 1) bit

-- above the lowest both have the same registers
same_above : (list rest lowest k : ℕ) (rs : List Register) → IsSplit list rest lowest → Counted k rs → lowest < k → k + length rs ≤ 32 → filter (is_listed list) rs ≡ filter (is_listed rest) rs
same_above list rest lowest k [] split counted above fits = refl
same_above list rest lowest k (r ∷ rs) split counted above fits =
    let mine : is_listed list r ≡ (bit_at list k == 1) = listed_at list k (bit_at list k) r counted.0 refl in
    let other : is_listed rest r ≡ (bit_at list k == 1) = listed_at rest k (bit_at list k) r counted.0 (split.others k (omega arith) (omega arith)) in
    let more = same_above list rest lowest (suc k) rs split counted.1 (omega arith) (omega arith) in
    rw (mine, other) (ap (λ (xs : List Register). cond (bit_at list k == 1) (r ∷ xs) xs) more)

lowest_first : (list rest lowest k : ℕ) (rs : List Register) (register : Register) → IsSplit list rest lowest → register_number register ≡ lowest → Counted k rs → k ≤ lowest → lowest < k + length rs → k + length rs ≤ 32
    → filter (is_listed list) rs ≡ register ∷ filter (is_listed rest) rs
lowest_first list rest lowest k [] register split named counted from within fits = absurd (omega arith)
lowest_first list rest lowest k (r ∷ rs) register split named counted from within fits = by_order (λ h. lowest_first list rest lowest (suc k) rs register split named counted.1 (omega arith) (omega arith) (omega arith)) (cases_lt k lowest)
  where
    by_order : (k < lowest → filter (is_listed list) rs ≡ register ∷ filter (is_listed rest) rs) → (k < lowest) ⊎ (lowest ≤ k) → filter (is_listed list) (r ∷ rs) ≡ register ∷ filter (is_listed rest) (r ∷ rs)
    by_order more (inl h) =
        let mine : is_listed list r ≡ false = listed_at list k 0 r counted.0 (split.none_below k h) in
        let other : is_listed rest r ≡ false = listed_at rest k 0 r counted.0 (split.others k (omega arith) (omega arith) ∙ split.none_below k h) in
        rw (mine, other) (more h)
    by_order more (inr h) =
        let here : k ≡ lowest = omega arith in
        let mine : is_listed list r ≡ true = listed_at list k 1 r counted.0 (ap (bit_at list) here ∙ split.has) in
        let other : is_listed rest r ≡ false = listed_at rest k 0 r counted.0 (ap (bit_at rest) here ∙ split.cleared) in
        let same : r ≡ register = same_register r register (counted.0 ∙ here ∙ sym named) in
        rw (mine, other, same) (ap (λ (xs : List Register). register ∷ xs) (same_above list rest lowest (suc k) rs split counted.1 (omega arith) (omega arith)))

pub split_registers : (list rest lowest : ℕ) (register : Register) → IsSplit list rest lowest → register_number register ≡ lowest → registers_in list ≡ register ∷ registers_in rest
split_registers list rest lowest register split named =
    lowest_first list rest lowest 0 all_registers register split named all_counted (omega arith) (omega (arith, sixteen, split.few)) (omega (arith, sixteen))

-- no bit, no register, and the other way round
pub none_listed : registers_in 0 ≡ []
unfolding all_registers
none_listed = refl
