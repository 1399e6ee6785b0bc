-- A word is its row's fixed bits and its fields; the lowest rotation.
use Rattle.std.proofs.Common.{ℕ, suc, ◌+◌, ◌-◌, ◌*◌, ◌^◌, ◌<◌, ◌≤◌, ◌≡◌, refl, ap, ◌∙◌, arith, ◌∷◌, Option, Some, Result, Ok, Bool, true, sym}
use Rattle.std.specs.Int.{w32, rotate_left}
use Rattle.std.specs.List.{find, range_with_len}
use Rattle.std.proofs.lemmas.Bool.{lt-ltb, le-ltb}
use Rattle.arm2_decode.specs.declared.instr.Instr.{Instr}
use Rattle.arm2_decode.specs.Names.{cond_number}
use Rattle.arm2_decode.specs.Table.{row_of, operands, Means, word_in}
use Rattle.arm2_decode.proofs.OnlyLemmas.{word_laid}
use Rattle.assembler.specs.Codes.{allowed, in_range, is_byte_by}
use Rattle.assembler.specs.declared.fault.LineFault.{LineFault}

pub means_word : (w : ℕ) (i : Instr) → w < 2 ^ 32 → Means w i → w ≡ word_in (row_of i.operation) (cond_number i.cond ∷ operands i.operation)
means_word w i below h = word_laid w i.operation below h.fixed ∙ ap (word_in (row_of i.operation)) h.fields

-- the lowest rotation from one on
abbrev pub rotation_from : ℕ → ℕ → Option ℕ
rotation_from k n = find (is_byte_by n) (range_with_len k (16 - k))

pub rotation_on : (k n : ℕ) → k < 16 → 256 ≤ rotate_left w32 n (2 * k) → rotation_from k n ≡ rotation_from (k + 1) n
rotation_on k n lt large =
    let left : 16 - k ≡ suc (16 - (k + 1)) = omega arith in
    rw (left, le-ltb (rotate_left w32 n (2 * k)) 256 large) refl

pub rotation_here : (k n : ℕ) → k < 16 → rotate_left w32 n (2 * k) < 256 → rotation_from k n ≡ Some k
rotation_here k n lt small =
    let left : 16 - k ≡ suc (16 - (k + 1)) = omega arith in
    rw (left, lt-ltb (rotate_left w32 n (2 * k)) 256 small) refl

-- ## What a test allows

pub allowed_word : (why barred word is : ℕ) → why ≡ barred → why ≡ 0 → word ≡ is → Ok word ≡ allowed barred is
allowed_word why barred word is same zero made = ap (λ (w : ℕ). Ok w) made ∙ ap (λ (b : ℕ). allowed b is) (sym zero ∙ same)

pub in_range_word : (fits : Bool) (r x : Result ℕ LineFault) → fits ≡ true → x ≡ r → x ≡ in_range fits r
in_range_word fits r x e same = rw e same
