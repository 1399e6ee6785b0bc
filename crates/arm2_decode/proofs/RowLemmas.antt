-- What words mean, by their fields.
use Rattle.std.proofs.Common.{ℕ, ◌≡◌, ◌≢◌, true, false, not, ◌&&◌, refl, ap, sym, ◌∙◌, inl, inr, arith, eqb, cond, [], ◌∷◌}
use Rattle.std.proofs.lemmas.Bool.Decides.{eqb_tells}
use Rattle.std.specs.Int.Bits.{bit_and}
use Rattle.std.proofs.lemmas.Bool.{eq-eqb}
use Rattle.arm2_decode.specs.Bits.{bits}
use Rattle.arm2_decode.specs.Allowed.{block_clash, data_clash, data_shift_clash, multiply_clash, single_clash, single_register_clash}
use Rattle.arm2_decode.specs.Table.{multiply_row, data_register_row, data_register_shift_row, data_immediate_row, single_immediate_row, single_register_row, block_row, branch_row, swi_row, undefined_transfer_row, coprocessor_transfer_row, coprocessor_row, IsOfRow, why_from, why_of, bars, stray_bar, IsWhy}
use Rattle.arm2_decode.proofs.FieldLemmas.{mask_kind, mask_wide, mask_multiply, mask_four, mask_seven_four}
use Rattle.arm2_decode.proofs.PatternLemmas.{agrees, within, bars_of, first_met, eqb_apart, why_among, why_of_row}

-- a word of the row, from its fields
pub multiply_fits : (w c accumulate sets_flags rd rn rs rm : ℕ) → bits 27 22 w ≡ 0 → bits 7 4 w ≡ 9 → c ≡ bits 31 28 w → accumulate ≡ bits 21 21 w → sets_flags ≡ bits 20 20 w → rd ≡ bits 19 16 w → rn ≡ bits 15 12 w → rs ≡ bits 11 8 w → rm ≡ bits 3 0 w → IsOfRow multiply_row w (c ∷ accumulate ∷ sets_flags ∷ rd ∷ rn ∷ rs ∷ rm ∷ [])
multiply_fits w c accumulate sets_flags rd rn rs rm kind second at_cond at_accumulate at_sets_flags at_rd at_rn at_rs at_rm = record { fixed = omega (arith, mask_multiply w); fields = cc }

pub data_register_fits : (w c opcode sets_flags rn rd amount shift rm : ℕ) → bits 27 25 w ≡ 0 → bits 4 4 w ≡ 0 → c ≡ bits 31 28 w → opcode ≡ bits 24 21 w → sets_flags ≡ bits 20 20 w → rn ≡ bits 19 16 w → rd ≡ bits 15 12 w → amount ≡ bits 11 7 w → shift ≡ bits 6 5 w → rm ≡ bits 3 0 w → IsOfRow data_register_row w (c ∷ opcode ∷ sets_flags ∷ rn ∷ rd ∷ amount ∷ shift ∷ rm ∷ [])
data_register_fits w c opcode sets_flags rn rd amount shift rm kind second at_cond at_opcode at_sets_flags at_rn at_rd at_amount at_shift at_rm = record { fixed = omega (arith, mask_four w); fields = cc }

pub data_register_shift_fits : (w c opcode sets_flags rn rd rs shift rm : ℕ) → bits 27 25 w ≡ 0 → bits 7 7 w ≡ 0 → bits 4 4 w ≡ 1 → c ≡ bits 31 28 w → opcode ≡ bits 24 21 w → sets_flags ≡ bits 20 20 w → rn ≡ bits 19 16 w → rd ≡ bits 15 12 w → rs ≡ bits 11 8 w → shift ≡ bits 6 5 w → rm ≡ bits 3 0 w → IsOfRow data_register_shift_row w (c ∷ opcode ∷ sets_flags ∷ rn ∷ rd ∷ rs ∷ shift ∷ rm ∷ [])
data_register_shift_fits w c opcode sets_flags rn rd rs shift rm kind second third at_cond at_opcode at_sets_flags at_rn at_rd at_rs at_shift at_rm = record { fixed = omega (arith, mask_seven_four w); fields = cc }

pub data_immediate_fits : (w c opcode sets_flags rn rd rotation value : ℕ) → bits 27 25 w ≡ 1 → c ≡ bits 31 28 w → opcode ≡ bits 24 21 w → sets_flags ≡ bits 20 20 w → rn ≡ bits 19 16 w → rd ≡ bits 15 12 w → rotation ≡ bits 11 8 w → value ≡ bits 7 0 w → IsOfRow data_immediate_row w (c ∷ opcode ∷ sets_flags ∷ rn ∷ rd ∷ rotation ∷ value ∷ [])
data_immediate_fits w c opcode sets_flags rn rd rotation value kind at_cond at_opcode at_sets_flags at_rn at_rd at_rotation at_value = record { fixed = omega (arith, mask_kind w); fields = cc }

pub single_immediate_fits : (w c before up byte write_back load rn rd offset : ℕ) → bits 27 25 w ≡ 2 → c ≡ bits 31 28 w → before ≡ bits 24 24 w → up ≡ bits 23 23 w → byte ≡ bits 22 22 w → write_back ≡ bits 21 21 w → load ≡ bits 20 20 w → rn ≡ bits 19 16 w → rd ≡ bits 15 12 w → offset ≡ bits 11 0 w → IsOfRow single_immediate_row w (c ∷ before ∷ up ∷ byte ∷ write_back ∷ load ∷ rn ∷ rd ∷ offset ∷ [])
single_immediate_fits w c before up byte write_back load rn rd offset kind at_cond at_before at_up at_byte at_write_back at_load at_rn at_rd at_offset = record { fixed = omega (arith, mask_kind w); fields = cc }

pub single_register_fits : (w c before up byte write_back load rn rd amount shift rm : ℕ) → bits 27 25 w ≡ 3 → bits 4 4 w ≡ 0 → c ≡ bits 31 28 w → before ≡ bits 24 24 w → up ≡ bits 23 23 w → byte ≡ bits 22 22 w → write_back ≡ bits 21 21 w → load ≡ bits 20 20 w → rn ≡ bits 19 16 w → rd ≡ bits 15 12 w → amount ≡ bits 11 7 w → shift ≡ bits 6 5 w → rm ≡ bits 3 0 w → IsOfRow single_register_row w (c ∷ before ∷ up ∷ byte ∷ write_back ∷ load ∷ rn ∷ rd ∷ amount ∷ shift ∷ rm ∷ [])
single_register_fits w c before up byte write_back load rn rd amount shift rm kind second at_cond at_before at_up at_byte at_write_back at_load at_rn at_rd at_amount at_shift at_rm = record { fixed = omega (arith, mask_four w); fields = cc }

pub block_fits : (w c before up user write_back load rn list : ℕ) → bits 27 25 w ≡ 4 → c ≡ bits 31 28 w → before ≡ bits 24 24 w → up ≡ bits 23 23 w → user ≡ bits 22 22 w → write_back ≡ bits 21 21 w → load ≡ bits 20 20 w → rn ≡ bits 19 16 w → list ≡ bits 15 0 w → IsOfRow block_row w (c ∷ before ∷ up ∷ user ∷ write_back ∷ load ∷ rn ∷ list ∷ [])
block_fits w c before up user write_back load rn list kind at_cond at_before at_up at_user at_write_back at_load at_rn at_list = record { fixed = omega (arith, mask_kind w); fields = cc }

pub branch_fits : (w c link offset : ℕ) → bits 27 25 w ≡ 5 → c ≡ bits 31 28 w → link ≡ bits 24 24 w → offset ≡ bits 23 0 w → IsOfRow branch_row w (c ∷ link ∷ offset ∷ [])
branch_fits w c link offset kind at_cond at_link at_offset = record { fixed = omega (arith, mask_kind w); fields = cc }

pub swi_fits : (w c comment : ℕ) → bits 27 24 w ≡ 15 → c ≡ bits 31 28 w → comment ≡ bits 23 0 w → IsOfRow swi_row w (c ∷ comment ∷ [])
swi_fits w c comment kind at_cond at_comment = record { fixed = omega (arith, mask_wide w); fields = cc }

pub undefined_transfer_fits : (w c high low : ℕ) → bits 27 25 w ≡ 3 → bits 4 4 w ≡ 1 → c ≡ bits 31 28 w → high ≡ bits 24 5 w → low ≡ bits 3 0 w → IsOfRow undefined_transfer_row w (c ∷ high ∷ low ∷ [])
undefined_transfer_fits w c high low kind second at_cond at_high at_low = record { fixed = omega (arith, mask_four w); fields = cc }

pub coprocessor_transfer_fits : (w c rest : ℕ) → bits 27 25 w ≡ 6 → c ≡ bits 31 28 w → rest ≡ bits 24 0 w → IsOfRow coprocessor_transfer_row w (c ∷ rest ∷ [])
coprocessor_transfer_fits w c rest kind at_cond at_rest = record { fixed = omega (arith, mask_kind w); fields = cc }

pub coprocessor_fits : (w c rest : ℕ) → bits 27 24 w ≡ 14 → c ≡ bits 31 28 w → rest ≡ bits 23 0 w → IsOfRow coprocessor_row w (c ∷ rest ∷ [])
coprocessor_fits w c rest kind at_cond at_rest = record { fixed = omega (arith, mask_wide w); fields = cc }

-- the number of the first bar that a word meets, by its row
pub data_register_why : (w : ℕ) → bit_and w 0x0E000010 ≡ 0x00000000 → why_of w ≡ data_clash (bits 24 21 w) (bits 20 20 w)
unfolding agrees within bars_of first_met
data_register_why w h = why_of_row data_register_row w h refl

pub data_register_shift_why : (w : ℕ) → bit_and w 0x0E000090 ≡ 0x00000010 → why_of w ≡ data_shift_clash (bits 24 21 w) (bits 20 20 w) (bits 11 8 w)
unfolding agrees within bars_of first_met
data_register_shift_why w h = why_of_row data_register_shift_row w h refl

pub data_immediate_why : (w : ℕ) → bit_and w 0x0E000000 ≡ 0x02000000 → why_of w ≡ data_clash (bits 24 21 w) (bits 20 20 w)
unfolding agrees within bars_of first_met
data_immediate_why w h = why_of_row data_immediate_row w h refl

pub single_immediate_why : (w : ℕ) → bit_and w 0x0E000000 ≡ 0x04000000 → why_of w ≡ single_clash (bits 24 24 w) (bits 22 22 w) (bits 21 21 w) (bits 20 20 w) (bits 19 16 w) (bits 15 12 w)
unfolding agrees within bars_of first_met
single_immediate_why w h = why_of_row single_immediate_row w h refl

pub single_register_why : (w : ℕ) → bit_and w 0x0E000010 ≡ 0x06000000 → why_of w ≡ single_register_clash (bits 24 24 w) (bits 22 22 w) (bits 21 21 w) (bits 20 20 w) (bits 19 16 w) (bits 15 12 w) (bits 3 0 w)
unfolding agrees within bars_of first_met
single_register_why w h = why_of_row single_register_row w h refl

pub block_why : (w : ℕ) → bit_and w 0x0E000000 ≡ 0x08000000 → why_of w ≡ block_clash (bits 19 16 w) (bits 15 0 w)
unfolding agrees within bars_of first_met
block_why w h = why_of_row block_row w h refl

-- a multiply passes the bar of the words that only resemble one
stray_passed : (w : ℕ) → bit_and w 0x0FC000F0 ≡ 0x00000090 → stray_bar w ≡ false
stray_passed w h =
    let high : eqb (bits 27 22 w) 0 ≡ true = eq-eqb _ _ (omega (arith, mask_multiply w)) in
    let low : eqb (bits 7 4 w) 9 ≡ true = eq-eqb _ _ (omega (arith, mask_multiply w)) in
    rw (high, low) refl

pub multiply_why : (w : ℕ) → bit_and w 0x0FC000F0 ≡ 0x00000090 → why_of w ≡ multiply_clash (bits 21 21 w) (bits 19 16 w) (bits 15 12 w) (bits 11 8 w) (bits 3 0 w)
unfolding agrees within bars_of first_met
multiply_why w h =
    why_of_row multiply_row w h refl ∙ ap (λ b. cond b 2 (multiply_clash (bits 21 21 w) (bits 19 16 w) (bits 15 12 w) (bits 11 8 w) (bits 3 0 w))) (stray_passed w h)

not_both : (x y : ℕ) → (x ≡ 0 → y ≢ 9) → not (eqb x 0 && eqb y 9) ≡ true
not_both x y h =
    elim (eqb_tells x 0) [
      | inl p ↦ let e : eqb x 0 ≡ true = p.0 in let f : eqb y 9 ≡ false = eqb_apart _ _ (h p.1) in rw (e, f) refl
      | inr p ↦ let e : eqb x 0 ≡ false = p.0 in rw e refl
    ]

-- bits 7 and 4 set where data processing has a register, and no multiply
stray_why : (w : ℕ) → bit_and w 0x0E000090 ≡ 0x00000090 → stray_bar w ≡ true → why_of w ≡ 2
unfolding why_from agrees bars_of
stray_why w h met =
    let here : eqb (bit_and w 0x0E000090) 0x00000090 ≡ true = eq-eqb _ _ h in
    why_among (record { mask = 0x0E000090; fixed = 0x00000090; places = [] }) w h bars ∙ rw (here, met) refl

pub stray_barred : (w : ℕ) → bits 27 25 w ≡ 0 → bits 7 7 w ≡ 1 → bits 4 4 w ≡ 1 → (bits 27 22 w ≡ 0 → bits 7 4 w ≢ 9) → IsWhy w 2
stray_barred w kind seven four other =
    record { least = sym (stray_why w (omega (arith, mask_seven_four w, kind, seven, four)) (not_both (bits 27 22 w) (bits 7 4 w) other)); some = omega arith }

-- the answer for a word of a row that meets a bar
barred : (w n m : ℕ) → n ≡ m → n ≢ 0 → why_of w ≡ m → IsWhy w n
barred w n m e some whole = record { least = e ∙ sym whole; some = omega (arith, some) }

pub multiply_barred : (w n accumulate rd rn rs rm : ℕ) → bits 27 22 w ≡ 0 → bits 7 4 w ≡ 9 → accumulate ≡ bits 21 21 w → rd ≡ bits 19 16 w → rn ≡ bits 15 12 w → rs ≡ bits 11 8 w → rm ≡ bits 3 0 w → n ≡ multiply_clash accumulate rd rn rs rm → n ≢ 0 → IsWhy w n
multiply_barred w n accumulate rd rn rs rm kind second at_accumulate at_rd at_rn at_rs at_rm e some =
    barred w n (multiply_clash accumulate rd rn rs rm) e some (multiply_why w (omega (arith, mask_multiply w)) ∙ cc)

pub ruleset multiply_words = (multiply_fits, multiply_barred)

pub data_register_barred : (w n opcode sets_flags : ℕ) → bits 27 25 w ≡ 0 → bits 4 4 w ≡ 0 → opcode ≡ bits 24 21 w → sets_flags ≡ bits 20 20 w → n ≡ data_clash opcode sets_flags → n ≢ 0 → IsWhy w n
data_register_barred w n opcode sets_flags kind second at_opcode at_sets_flags e some =
    barred w n (data_clash opcode sets_flags) e some (data_register_why w (omega (arith, mask_four w)) ∙ cc)

pub ruleset data_register_words = (data_register_fits, data_register_barred)

pub data_register_shift_barred : (w n opcode sets_flags rs : ℕ) → bits 27 25 w ≡ 0 → bits 7 7 w ≡ 0 → bits 4 4 w ≡ 1 → opcode ≡ bits 24 21 w → sets_flags ≡ bits 20 20 w → rs ≡ bits 11 8 w → n ≡ data_shift_clash opcode sets_flags rs → n ≢ 0 → IsWhy w n
data_register_shift_barred w n opcode sets_flags rs kind second third at_opcode at_sets_flags at_rs e some =
    barred w n (data_shift_clash opcode sets_flags rs) e some (data_register_shift_why w (omega (arith, mask_seven_four w)) ∙ cc)

pub ruleset data_register_shift_words = (data_register_shift_fits, data_register_shift_barred)

pub data_immediate_barred : (w n opcode sets_flags : ℕ) → bits 27 25 w ≡ 1 → opcode ≡ bits 24 21 w → sets_flags ≡ bits 20 20 w → n ≡ data_clash opcode sets_flags → n ≢ 0 → IsWhy w n
data_immediate_barred w n opcode sets_flags kind at_opcode at_sets_flags e some =
    barred w n (data_clash opcode sets_flags) e some (data_immediate_why w (omega (arith, mask_kind w)) ∙ cc)

pub ruleset data_immediate_words = (data_immediate_fits, data_immediate_barred)

pub single_immediate_barred : (w n before byte write_back load rn rd : ℕ) → bits 27 25 w ≡ 2 → before ≡ bits 24 24 w → byte ≡ bits 22 22 w → write_back ≡ bits 21 21 w → load ≡ bits 20 20 w → rn ≡ bits 19 16 w → rd ≡ bits 15 12 w → n ≡ single_clash before byte write_back load rn rd → n ≢ 0 → IsWhy w n
single_immediate_barred w n before byte write_back load rn rd kind at_before at_byte at_write_back at_load at_rn at_rd e some =
    barred w n (single_clash before byte write_back load rn rd) e some (single_immediate_why w (omega (arith, mask_kind w)) ∙ cc)

pub ruleset single_immediate_words = (single_immediate_fits, single_immediate_barred)

pub single_register_barred : (w n before byte write_back load rn rd rm : ℕ) → bits 27 25 w ≡ 3 → bits 4 4 w ≡ 0 → before ≡ bits 24 24 w → byte ≡ bits 22 22 w → write_back ≡ bits 21 21 w → load ≡ bits 20 20 w → rn ≡ bits 19 16 w → rd ≡ bits 15 12 w → rm ≡ bits 3 0 w → n ≡ single_register_clash before byte write_back load rn rd rm → n ≢ 0 → IsWhy w n
single_register_barred w n before byte write_back load rn rd rm kind second at_before at_byte at_write_back at_load at_rn at_rd at_rm e some =
    barred w n (single_register_clash before byte write_back load rn rd rm) e some (single_register_why w (omega (arith, mask_four w)) ∙ cc)

pub ruleset single_register_words = (single_register_fits, single_register_barred)

pub block_barred : (w n rn list : ℕ) → bits 27 25 w ≡ 4 → rn ≡ bits 19 16 w → list ≡ bits 15 0 w → n ≡ block_clash rn list → n ≢ 0 → IsWhy w n
block_barred w n rn list kind at_rn at_list e some =
    barred w n (block_clash rn list) e some (block_why w (omega (arith, mask_kind w)) ∙ cc)

pub ruleset block_words = (block_fits, block_barred)
