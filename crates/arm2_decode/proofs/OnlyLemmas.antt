-- A word means one instruction at most, and an instruction has one word.
use Rattle.std.proofs.Common.{ℕ, ◌^◌, ◌<◌, ◌≡◌, refl, ap, sym, ◌∙◌, arith, List, [], ◌∷◌, map, Result, Ok, Err}
use Rattle.std.specs.Prelude.{slice_index, slice_index_or}
use Rattle.std.specs.Int.Bits.{bit_and}
use Rattle.arm2_decode.specs.declared.instr.Instr.{Instr}
use Rattle.arm2_decode.specs.declared.instr.Unallocated.{Unallocated}
use Rattle.arm2_decode.specs.declared.instr.Operation.{Operation}
use Rattle.arm2_decode.specs.declared.instr.Operation.TheVariants.{Multiply, DataRegister, DataRegisterShift, DataImmediate, SingleImmediate, SingleRegister, Block}
use Rattle.arm2_decode.specs.Names.{cond_number}
use Rattle.arm2_decode.specs.Allowed.{block_clash, data_clash, data_shift_clash, multiply_clash, single_clash, single_register_clash}
use Rattle.arm2_decode.specs.Table.{Row, row_of, operands, place_of, IsOfRow, Means, bars, why_from, why_of, Decodes, multiply_row, data_register_row, data_register_shift_row, data_immediate_row, single_immediate_row, single_register_row, block_row, branch_row, swi_row, undefined_transfer_row, coprocessor_transfer_row, coprocessor_row, word_in}
use Rattle.arm2_decode.proofs.NameLemmas.{same_cond}
use Rattle.arm2_decode.proofs.FieldLemmas.{mask_kind, mask_wide, mask_multiply, mask_four, mask_seven_four}
use Rattle.arm2_decode.proofs.PatternLemmas.{agrees, bars_of, first_fit, first_fit_at, why_among}
use Rattle.arm2_decode.proofs.SameLemmas.{row_number, same_operation}
use Rattle.arm2_decode.proofs.RowLemmas.{multiply_why, data_register_why, data_register_shift_why, data_immediate_why, single_immediate_why, single_register_why, block_why}

rows : List Row
rows =
    multiply_row
    ∷ data_register_row
    ∷ data_register_shift_row
    ∷ data_immediate_row
    ∷ single_immediate_row
    ∷ single_register_row
    ∷ block_row
    ∷ branch_row
    ∷ swi_row
    ∷ undefined_transfer_row
    ∷ coprocessor_transfer_row
    ∷ coprocessor_row
    ∷ []

row_at : (o : Operation) (d : Row) → row_of o ≡ slice_index_or rows (row_number o) d
unfolding rows
row_at (Multiply x) d = refl
row_at _ d = refl

-- a word is of one row
one_row : (w : ℕ) (o : Operation) → bit_and w (row_of o).mask ≡ (row_of o).fixed → first_fit rows w ≡ row_number o
unfolding rows agrees
one_row w (Multiply x) h = first_fit_at multiply_row w h rows 0 (omega arith) refl refl
one_row w o h = first_fit_at (row_of o) w h rows (row_number o) (omega arith) refl refl

same_parts : (i j : Instr) → i.cond ≡ j.cond → i.operation ≡ j.operation → i ≡ j
same_parts i j p q = λ t. record { cond = p t; operation = q t }

pub one_meaning : (w : ℕ) (i j : Instr) → Means w i → Means w j → i ≡ j
one_meaning w i j h m =
    let row : row_number i.operation ≡ row_number j.operation = sym (one_row w i.operation h.fixed) ∙ one_row w j.operation m.fixed in
    let same : row_of i.operation ≡ row_of j.operation = row_at i.operation multiply_row ∙ ap (λ n. slice_index_or rows n multiply_row) row ∙ sym (row_at j.operation multiply_row) in
    let fields : cond_number i.cond ∷ operands i.operation ≡ cond_number j.cond ∷ operands j.operation = sym h.fields ∙ ap (λ r. map (place_of w) r.places) same ∙ m.fields in
    same_parts i j (same_cond i.cond j.cond (cc)) (same_operation i.operation j.operation row (cc))

-- no bar is met by a word that means an operation: the last six have no bars
pub allowed : (w c : ℕ) (o : Operation) → IsOfRow (row_of o) w (c ∷ operands o) → why_of w ≡ 0
unfolding agrees bars_of why_from
allowed w c (Multiply x) h = multiply_why w h.fixed ∙ ap (λ fields. multiply_clash (slice_index fields 1) (slice_index fields 3) (slice_index fields 4) (slice_index fields 5) (slice_index fields 6)) h.fields ∙ x.allocated
allowed w c (DataRegister x) h = data_register_why w h.fixed ∙ ap (λ fields. data_clash (slice_index fields 1) (slice_index fields 2)) h.fields ∙ x.allocated
allowed w c (DataRegisterShift x) h = data_register_shift_why w h.fixed ∙ ap (λ fields. data_shift_clash (slice_index fields 1) (slice_index fields 2) (slice_index fields 5)) h.fields ∙ x.allocated
allowed w c (DataImmediate x) h = data_immediate_why w h.fixed ∙ ap (λ fields. data_clash (slice_index fields 1) (slice_index fields 2)) h.fields ∙ x.allocated
allowed w c (SingleImmediate x) h = single_immediate_why w h.fixed ∙ ap (λ fields. single_clash (slice_index fields 1) (slice_index fields 3) (slice_index fields 4) (slice_index fields 5) (slice_index fields 6) (slice_index fields 7)) h.fields ∙ x.allocated
allowed w c (SingleRegister x) h = single_register_why w h.fixed ∙ ap (λ fields. single_register_clash (slice_index fields 1) (slice_index fields 3) (slice_index fields 4) (slice_index fields 5) (slice_index fields 6) (slice_index fields 7) (slice_index fields 10)) h.fields ∙ x.allocated
allowed w c (Block x) h = block_why w h.fixed ∙ ap (λ fields. block_clash (slice_index fields 6) (slice_index fields 7)) h.fields ∙ x.allocated
allowed w c o h = why_among (row_of o) w h.fixed bars

pub decode_only : (w : ℕ) (i : Instr) (r : Result Instr Unallocated) → Decodes w r → Means w i → r ≡ Ok i
decode_only w i (Ok j) h m = ap Ok (one_meaning w j i h m)
decode_only w i (Err u) h m = absurd (omega (arith, h.why, h.some, allowed w (cond_number i.cond) i.operation m))

-- a word is its fixed bits and its fields
pub word_laid : (w : ℕ) (o : Operation) → w < 2 ^ 32 → bit_and w (row_of o).mask ≡ (row_of o).fixed
    → w ≡ word_in (row_of o) (map (place_of w) (row_of o).places)
word_laid w (Multiply x) below h = omega (arith, h, mask_multiply w)
word_laid w _ below h = omega (arith, h, mask_kind w, mask_wide w, mask_four w, mask_seven_four w)

pub one_word : (v w : ℕ) (i : Instr) → v < 2 ^ 32 → w < 2 ^ 32 → Means v i → Means w i → v ≡ w
one_word v w i lv lw h m =
    word_laid v i.operation lv h.fixed
    ∙ ap (word_in (row_of i.operation)) (h.fields ∙ sym m.fields)
    ∙ sym (word_laid w i.operation lw m.fixed)
