-- Which words are unallocated, by the numbers in their fields: the number of the first bar that they meet,
-- or 0 (after the warnings of the VL86C010 data sheet).
use Rattle.std.specs.Prelude.{ℕ, Bool, true, false, ◌&&◌, ◌||◌, ◌==◌, if◌then◌else◌}
use Rattle.arm2_decode.specs.Names.{is_compare_number, is_pc_number}
use Rattle.arm2_decode.specs.Transfers.{writes_base}

-- a bit as a number
abbrev pub bit_of : Bool → ℕ
bit_of true = 1
bit_of false = 0

-- a compare (TST TEQ CMP CMN) that does not set the flags
abbrev pub is_bad_compare : ℕ → ℕ → Bool
is_bad_compare opcode sets_flags = is_compare_number opcode && (sets_flags == 0)

-- Rd is Rm; R15 is Rd, Rm or Rs; or R15 is Rn, and the multiply accumulates
abbrev pub is_bad_multiply : ℕ → ℕ → ℕ → ℕ → ℕ → Bool
is_bad_multiply accumulate rd rn rs rm =
    (rd == rm) || is_pc_number rd || is_pc_number rm || is_pc_number rs
    || ((accumulate == 1) && is_pc_number rn)

-- the base R15, written back
abbrev pub is_bad_base : ℕ → ℕ → ℕ → Bool
is_bad_base before write_back rn = is_pc_number rn && writes_base (before == 1) (write_back == 1)

-- a load of the base that is written back
abbrev pub is_bad_load : ℕ → ℕ → ℕ → ℕ → ℕ → Bool
is_bad_load before write_back load rn rd =
    (load == 1) && writes_base (before == 1) (write_back == 1) && (rd == rn)

-- a byte of R15
abbrev pub is_bad_byte : ℕ → ℕ → Bool
is_bad_byte byte rd = (byte == 1) && is_pc_number rd

-- data processing: 1 a compare that does not set the flags
abbrev pub data_clash : ℕ → ℕ → ℕ
data_clash opcode sets_flags = if is_bad_compare opcode sets_flags then 1 else 0

-- with the amount in a register: 4 that register is R15
abbrev pub data_shift_clash : ℕ → ℕ → ℕ → ℕ
data_shift_clash opcode sets_flags rs =
    if is_bad_compare opcode sets_flags then 1 else (if is_pc_number rs then 4 else 0)

-- a multiply: 3
abbrev pub multiply_clash : ℕ → ℕ → ℕ → ℕ → ℕ → ℕ
multiply_clash accumulate rd rn rs rm = if is_bad_multiply accumulate rd rn rs rm then 3 else 0

-- a single transfer: 6 the base R15 is written back, 9 the base is loaded and written back, 10 a byte of R15
abbrev pub single_clash : ℕ → ℕ → ℕ → ℕ → ℕ → ℕ → ℕ
single_clash before byte write_back load rn rd =
    if is_bad_base before write_back rn then 6
    else (if is_bad_load before write_back load rn rd then 9 else (if is_bad_byte byte rd then 10 else 0))

-- with the offset in a register: 5 that register is R15
abbrev pub single_register_clash : ℕ → ℕ → ℕ → ℕ → ℕ → ℕ → ℕ → ℕ
single_register_clash before byte write_back load rn rd rm =
    if is_pc_number rm then 5 else single_clash before byte write_back load rn rd

-- a block transfer: 7 the base is R15, 8 the list is empty
abbrev pub block_clash : ℕ → ℕ → ℕ
block_clash rn list = if is_pc_number rn then 7 else (if list == 0 then 8 else 0)
