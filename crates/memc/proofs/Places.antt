-- Places by shifts and masks are those of the definition, and lie in the fitted RAM.
use Rattle.std.proofs.Common.{◌≡◌, ℕ, ◌+◌, ◌-◌, ◌*◌, ◌/◌, ◌%◌, ◌^◌, ◌<◌, ◌≤◌, inl, inr, sym, ◌∙◌, ap, arith, bit_or, bit_and}
use Rattle.std.proofs.lemmas.Nat.{shl_whole, one_shl, and_mask, or_shifted, mod_below, pow_pos, mul-add-lt, pow-add, div_below, mul-le, shl-shr}
use Rattle.std.proofs.lemmas.Bool.{cases_lt}
use Rattle.std.proofs.Math.Nat.{pow-le-pow_right}
use Rattle.std.proofs.Common.{List, Option, Some, None, slice_index_or, IfSome}
use Rattle.memc.specs.declared.pages.Entry.{Entry}
use Rattle.std.proofs.lemmas.Option.{same_Some}
use Rattle.memc.specs.Paged.{fitted_bytes, place_of, IsWhole}
use Rattle.memc.specs.Table.{IsPaged}

-- the place of a word lies within its page
word_below : (shift address : ℕ) → address % 2 ^ shift / 4 * 4 < 2 ^ shift
word_below shift address =
    let below : address % 2 ^ shift < 2 ^ shift = mod_below address (2 ^ shift) (pow_pos shift) in
    omega arith

-- the place by shifts and masks
pub place_is : (shift physical address : ℕ) → shift ≤ 15 → physical < 128 → bit_or (physical * 2 ^ shift % 2 ^ 32) (bit_and address (1 * 2 ^ shift % 2 ^ 32 - 1) / 4 * 4) ≡ place_of shift physical address
place_is shift physical address s p =
    rw (shl_whole physical 7 shift 32 p (omega arith), one_shl shift 32 (omega arith), and_mask address shift)
    (or_shifted physical shift (address % 2 ^ shift / 4 * 4) (word_below shift address))

-- it is in the fitted memory
pub place_fits : (shift physical address : ℕ) → physical < 128 → place_of shift physical address < fitted_bytes shift
place_fits shift physical address p =
    let below : physical * 2 ^ shift + address % 2 ^ shift / 4 * 4 < 2 ^ shift * 128 = mul-add-lt physical (2 ^ shift) (address % 2 ^ shift / 4 * 4) 128 p (word_below shift address) in
    omega arith

-- a word of the fitted memory is in the list of words
pub word_within : (shift place n : ℕ) → n ≡ 2 ^ (shift + 5) → place < fitted_bytes shift → place / 4 < n
word_within shift place n size p =
    let split : 2 ^ (shift + 5) ≡ 2 ^ shift * 32 = pow-add 2 shift 5 in
    div_below place 4 n (omega arith) (omega arith)

-- a table has at least 1024 pages
pub pages_long : (shift n : ℕ) → shift ≤ 15 → n * 2 ^ shift ≡ 2 ^ 25 → 1024 ≤ n
pages_long shift n s h =
    elim (cases_lt n 1024) [
      | inl p ↦
          let most : n * 2 ^ shift ≤ 1023 * 32768 = mul-le n (2 ^ shift) 1023 32768 (omega arith) (pow-le-pow_right (omega arith) s) in
          absurd (omega arith)
      | inr p ↦ p
    ]

-- so many pages
pub pages_count : (shift n : ℕ) → n * 2 ^ shift ≡ 2 ^ 25 → 2 ^ 25 / 2 ^ shift ≡ n
pages_count shift n h = ap (λ (x : ℕ). x / 2 ^ shift) (sym h) ∙ shl-shr n shift

-- and how many pages that is
pub pages_of : (shift : ℕ) → shift ≤ 15 → 2 ^ (25 - shift) ≡ 2 ^ 25 / 2 ^ shift
pages_of shift s =
    let e : 25 - shift + shift ≡ 25 = omega arith in
    sym (pages_count shift (2 ^ (25 - shift)) (sym (pow-add 2 (25 - shift) shift) ∙ ap (λ (k : ℕ). 2 ^ k) e))

pub page_within : (shift n l : ℕ) → n * 2 ^ shift ≡ 2 ^ 25 → l < 2 ^ 25 / 2 ^ shift → l < n
page_within shift n l h p = rw (pages_count shift n h) at p

pub limit_is : (shift : ℕ) → shift ≤ 15 → 128 * 2 ^ shift % 2 ^ 32 ≡ fitted_bytes shift
limit_is shift s = shl_whole 128 8 shift 32 (omega arith) (omega arith)

pub fitted_at : (shift : ℕ) (words : List ℕ) (pages : List (Option Entry)) (held : List (Option ℕ)) → IsPaged shift words pages held → (l : ℕ) (o : Option Entry) → slice_index_or pages l None ≡ o → IfSome o (λ e. e.physical < 128)
fitted_at shift words pages held h l None is = tt
fitted_at shift words pages held h l (Some e) is = h.physical_below l e is

-- what callers see of a table and its inverse
pub whole : (shift : ℕ) (words : List ℕ) (pages : List (Option Entry)) (held : List (Option ℕ)) → IsPaged shift words pages held → IsWhole shift (record { words = words; pages = pages })
whole shift words pages held h = record {
  size = (h.shift_least, h.shift_most);
  words = h.size;
  count = h.count;
  physical_below = h.physical_below;
  level_below = h.level_below;
  alone = λ k l e f on_k on_l same. same_Some k l (sym (h.held_by k e on_k) ∙ ap (λ (p : ℕ). slice_index_or held p None) same ∙ h.held_by l f on_l);
}
