-- The table of instruction words (VL86C010 data sheet, instruction formats, but for which words are
-- undefined and which unallocated).
use Rattle.std.specs.Prelude.{ℕ, ◌+◌, ◌*◌, ◌^◌, ◌≤◌, ◌≡◌, Bool, true, not, ◌&&◌, ◌==◌, if◌then◌else◌, List}
use Rattle.std.specs.Prelude.{[], ◌∷◌, map}
use Rattle.std.specs.Prelude.{bit_and}
use Rattle.std.specs.Prelude.{Contains, MatchResult, Result}
use Rattle.arm2_decode.specs.declared.instr.Instr.{Instr}
use Rattle.arm2_decode.specs.declared.instr.Unallocated.{Unallocated}
use Rattle.arm2_decode.specs.declared.instr.Operation.{Operation}
use Rattle.arm2_decode.specs.declared.instr.Operation.TheVariants.{Multiply, DataRegister, DataRegisterShift}
use Rattle.arm2_decode.specs.declared.instr.Operation.TheVariants.{DataImmediate, SingleImmediate}
use Rattle.arm2_decode.specs.declared.instr.Operation.TheVariants.{SingleRegister, Block, Branch, Swi}
use Rattle.arm2_decode.specs.declared.instr.Operation.TheVariants.{UndefinedTransfer, CoprocessorTransfer}
use Rattle.arm2_decode.specs.declared.instr.Operation.TheVariants.{Coprocessor}
use Rattle.arm2_decode.specs.Names.{cond_number, is_pc_number, opcode_number, register_number}
use Rattle.arm2_decode.specs.Names.{shift_number}
use Rattle.arm2_decode.specs.Allowed.{bit_of, is_bad_compare, is_bad_multiply, is_bad_base, is_bad_load}
use Rattle.arm2_decode.specs.Allowed.{is_bad_byte}
use Rattle.arm2_decode.specs.Bits.{bits}

-- Words of one row agree with fixed where mask has ones, and have their fields at the places, each (highest
-- bit, lowest bit). The first place of each row is the condition's.
pub record Row : Type 0 where
  pub mask : ℕ
  pub fixed : ℕ
  pub places : List (ℕ × ℕ)

-- accumulate sets_flags rd rn rs rm
abbrev pub multiply_row : Row
multiply_row = record {
  mask = 0x0FC000F0;
  fixed = 0x00000090;
  places = (31, 28) ∷ (21, 21) ∷ (20, 20) ∷ (19, 16) ∷ (15, 12) ∷ (11, 8) ∷ (3, 0) ∷ [];
}

-- opcode sets_flags rn rd amount shift rm
abbrev pub data_register_row : Row
data_register_row = record {
  mask = 0x0E000010;
  fixed = 0x00000000;
  places = (31, 28) ∷ (24, 21) ∷ (20, 20) ∷ (19, 16) ∷ (15, 12) ∷ (11, 7) ∷ (6, 5) ∷ (3, 0) ∷ [];
}

-- opcode sets_flags rn rd rs shift rm
abbrev pub data_register_shift_row : Row
data_register_shift_row = record {
  mask = 0x0E000090;
  fixed = 0x00000010;
  places = (31, 28) ∷ (24, 21) ∷ (20, 20) ∷ (19, 16) ∷ (15, 12) ∷ (11, 8) ∷ (6, 5) ∷ (3, 0) ∷ [];
}

-- opcode sets_flags rn rd rotation value
abbrev pub data_immediate_row : Row
data_immediate_row = record {
  mask = 0x0E000000;
  fixed = 0x02000000;
  places = (31, 28) ∷ (24, 21) ∷ (20, 20) ∷ (19, 16) ∷ (15, 12) ∷ (11, 8) ∷ (7, 0) ∷ [];
}

-- before up byte write_back load rn rd offset
abbrev pub single_immediate_row : Row
single_immediate_row = record {
  mask = 0x0E000000;
  fixed = 0x04000000;
  places =
      (31, 28) ∷ (24, 24) ∷ (23, 23) ∷ (22, 22) ∷ (21, 21) ∷ (20, 20) ∷ (19, 16) ∷ (15, 12) ∷ (11, 0) ∷ [];
}

-- before up byte write_back load rn rd amount shift rm
abbrev pub single_register_row : Row
single_register_row = record {
  mask = 0x0E000010;
  fixed = 0x06000000;
  places =
      (31, 28) ∷ (24, 24) ∷ (23, 23) ∷ (22, 22) ∷ (21, 21) ∷ (20, 20) ∷ (19, 16) ∷ (15, 12) ∷ (11, 7) ∷ (6, 5)
      ∷ (3, 0) ∷ [];
}

-- before up user write_back load rn list
abbrev pub block_row : Row
block_row = record {
  mask = 0x0E000000;
  fixed = 0x08000000;
  places = (31, 28) ∷ (24, 24) ∷ (23, 23) ∷ (22, 22) ∷ (21, 21) ∷ (20, 20) ∷ (19, 16) ∷ (15, 0) ∷ [];
}

-- link offset
abbrev pub branch_row : Row
branch_row = record {
  mask = 0x0E000000;
  fixed = 0x0A000000;
  places = (31, 28) ∷ (24, 24) ∷ (23, 0) ∷ [];
}

-- comment
abbrev pub swi_row : Row
swi_row = record {
  mask = 0x0F000000;
  fixed = 0x0F000000;
  places = (31, 28) ∷ (23, 0) ∷ [];
}

-- high low
abbrev pub undefined_transfer_row : Row
undefined_transfer_row = record {
  mask = 0x0E000010;
  fixed = 0x06000010;
  places = (31, 28) ∷ (24, 5) ∷ (3, 0) ∷ [];
}

-- bits
abbrev pub coprocessor_transfer_row : Row
coprocessor_transfer_row = record {
  mask = 0x0E000000;
  fixed = 0x0C000000;
  places = (31, 28) ∷ (24, 0) ∷ [];
}

-- bits
abbrev pub coprocessor_row : Row
coprocessor_row = record {
  mask = 0x0F000000;
  fixed = 0x0E000000;
  places = (31, 28) ∷ (23, 0) ∷ [];
}

-- the row of an operation
abbrev pub row_of : Operation → Row
row_of (Multiply x) = multiply_row
row_of (DataRegister x) = data_register_row
row_of (DataRegisterShift x) = data_register_shift_row
row_of (DataImmediate x) = data_immediate_row
row_of (SingleImmediate x) = single_immediate_row
row_of (SingleRegister x) = single_register_row
row_of (Block x) = block_row
row_of (Branch x) = branch_row
row_of (Swi x) = swi_row
row_of (UndefinedTransfer x) = undefined_transfer_row
row_of (CoprocessorTransfer x) = coprocessor_transfer_row
row_of (Coprocessor x) = coprocessor_row

-- the fields of an operation, in its row's order after the condition
abbrev pub operands : Operation → List ℕ
operands (Multiply x) =
    bit_of x.accumulate ∷ bit_of x.sets_flags ∷ register_number x.rd ∷ register_number x.rn
    ∷ register_number x.rs ∷ register_number x.rm ∷ []
operands (DataRegister x) =
    opcode_number x.opcode ∷ bit_of x.sets_flags ∷ register_number x.rn ∷ register_number x.rd ∷ x.amount
    ∷ shift_number x.shift ∷ register_number x.rm ∷ []
operands (DataRegisterShift x) =
    opcode_number x.opcode ∷ bit_of x.sets_flags ∷ register_number x.rn ∷ register_number x.rd
    ∷ register_number x.rs ∷ shift_number x.shift ∷ register_number x.rm ∷ []
operands (DataImmediate x) =
    opcode_number x.opcode ∷ bit_of x.sets_flags ∷ register_number x.rn ∷ register_number x.rd ∷ x.rotation
    ∷ x.value ∷ []
operands (SingleImmediate x) =
    bit_of x.before ∷ bit_of x.up ∷ bit_of x.byte ∷ bit_of x.write_back ∷ bit_of x.load ∷ register_number x.rn
    ∷ register_number x.rd ∷ x.offset ∷ []
operands (SingleRegister x) =
    bit_of x.before ∷ bit_of x.up ∷ bit_of x.byte ∷ bit_of x.write_back ∷ bit_of x.load ∷ register_number x.rn
    ∷ register_number x.rd ∷ x.amount ∷ shift_number x.shift ∷ register_number x.rm ∷ []
operands (Block x) =
    bit_of x.before ∷ bit_of x.up ∷ bit_of x.user ∷ bit_of x.write_back ∷ bit_of x.load ∷ register_number x.rn
    ∷ x.list ∷ []
operands (Branch x) = bit_of x.link ∷ x.offset ∷ []
operands (Swi x) = x.comment ∷ []
operands (UndefinedTransfer x) = x.high ∷ x.low ∷ []
operands (CoprocessorTransfer x) = x.bits ∷ []
operands (Coprocessor x) = x.bits ∷ []

abbrev pub place_of : ℕ → ℕ × ℕ → ℕ
place_of word place = bits place.0 place.1 word

-- the word has the row's fixed bits, and these fields
pub record IsOfRow (row : Row) (word : ℕ) (values : List ℕ) : Type 0 where
  pub fixed : bit_and word row.mask ≡ row.fixed
  pub fields : map (place_of word) row.places ≡ values

-- the word is the instruction
abbrev pub Means : ℕ → Instr → Type 0
Means word i = IsOfRow (row_of i.operation) word (cond_number i.cond ∷ operands i.operation)

-- fields at their places, together
abbrev pub laid : List (ℕ × ℕ) → List ℕ → ℕ
laid [] fields = 0
laid (place ∷ places) [] = 0
laid (place ∷ places) (field ∷ fields) = field * 2 ^ place.1 + laid places fields

-- the word of a row with these fields
abbrev pub word_in : Row → List ℕ → ℕ
word_in row fields = row.fixed + laid row.places fields

-- bits 27 to 0 of the word of an operation whose fields are in their ranges
abbrev pub below_condition : Operation → ℕ
below_condition operation = word_in (row_of operation) (0 ∷ operands operation)

-- Words of no instruction: those that agree with fixed where mask has ones and meet the test.
pub record Bar : Type 0 where
  pub why : ℕ
  pub mask : ℕ
  pub fixed : ℕ
  pub test : ℕ → Bool

-- a compare that does not set the flags
abbrev pub compare_bar : ℕ → Bool
compare_bar word = is_bad_compare (bits 24 21 word) (bits 20 20 word)

-- not a multiply
abbrev pub stray_bar : ℕ → Bool
stray_bar word = not ((bits 27 22 word == 0) && (bits 7 4 word == 9))

-- registers that a multiply must not have
abbrev pub multiply_bar : ℕ → Bool
multiply_bar word =
    is_bad_multiply (bits 21 21 word) (bits 19 16 word) (bits 15 12 word) (bits 11 8 word) (bits 3 0 word)

-- the amount is in R15
abbrev pub amount_bar : ℕ → Bool
amount_bar word = is_pc_number (bits 11 8 word)

-- the offset is in R15
abbrev pub offset_bar : ℕ → Bool
offset_bar word = is_pc_number (bits 3 0 word)

-- the base R15 is written back
abbrev pub base_bar : ℕ → Bool
base_bar word = is_bad_base (bits 24 24 word) (bits 21 21 word) (bits 19 16 word)

-- the base is R15
abbrev pub block_base_bar : ℕ → Bool
block_base_bar word = is_pc_number (bits 19 16 word)

-- the list is empty
abbrev pub list_bar : ℕ → Bool
list_bar word = bits 15 0 word == 0

-- the base is loaded and written back
abbrev pub load_bar : ℕ → Bool
load_bar word =
    is_bad_load (bits 24 24 word) (bits 21 21 word) (bits 20 20 word) (bits 19 16 word) (bits 15 12 word)

-- a byte of R15
abbrev pub byte_bar : ℕ → Bool
byte_bar word = is_bad_byte (bits 22 22 word) (bits 15 12 word)

-- in the order of their numbers
abbrev pub bars : List Bar
bars =
    record { why = 1; mask = 0x0E000010; fixed = 0x00000000; test = compare_bar }
    ∷ record { why = 1; mask = 0x0E000090; fixed = 0x00000010; test = compare_bar }
    ∷ record { why = 1; mask = 0x0E000000; fixed = 0x02000000; test = compare_bar }
    ∷ record { why = 2; mask = 0x0E000090; fixed = 0x00000090; test = stray_bar }
    ∷ record { why = 3; mask = 0x0FC000F0; fixed = 0x00000090; test = multiply_bar }
    ∷ record { why = 4; mask = 0x0E000090; fixed = 0x00000010; test = amount_bar }
    ∷ record { why = 5; mask = 0x0E000010; fixed = 0x06000000; test = offset_bar }
    ∷ record { why = 6; mask = 0x0E000000; fixed = 0x04000000; test = base_bar }
    ∷ record { why = 6; mask = 0x0E000010; fixed = 0x06000000; test = base_bar }
    ∷ record { why = 7; mask = 0x0E000000; fixed = 0x08000000; test = block_base_bar }
    ∷ record { why = 8; mask = 0x0E000000; fixed = 0x08000000; test = list_bar }
    ∷ record { why = 9; mask = 0x0E000000; fixed = 0x04000000; test = load_bar }
    ∷ record { why = 9; mask = 0x0E000010; fixed = 0x06000000; test = load_bar }
    ∷ record { why = 10; mask = 0x0E000000; fixed = 0x04000000; test = byte_bar }
    ∷ record { why = 10; mask = 0x0E000010; fixed = 0x06000000; test = byte_bar }
    ∷ []

-- the number of the first bar that the word meets, or 0
unfoldable pub why_from : List Bar → ℕ → ℕ
why_from [] word = 0
why_from (bar ∷ rest) word =
    if (bit_and word bar.mask == bar.fixed) && bar.test word then bar.why else why_from rest word

abbrev pub why_of : ℕ → ℕ
why_of word = why_from bars word

-- the word's condition, and the number of the first bar that it meets
pub record IsUnallocated (word : ℕ) (u : Unallocated) : Type 0 where
  pub cond : cond_number u.cond ≡ bits 31 28 word
  pub why : u.why ≡ why_of word
  pub some : 1 ≤ u.why

-- the word meets a bar of the number
pub record IsBarred (word why : ℕ) : Type 0 where
  pub bar : Bar
  pub of_table : Contains bars bar
  pub numbered : bar.why ≡ why
  pub fixed : bit_and word bar.mask ≡ bar.fixed
  pub met : bar.test word ≡ true

-- no bar that the word meets has a lower number
pub record IsLowestBar (word why : ℕ) : Type 0 where
  pub barred : IsBarred word why
  pub lowest : (other : ℕ) → IsBarred word other → why ≤ other

-- why is the number of why the word is unallocated
pub record IsWhy (word why : ℕ) : Type 0 where
  pub least : why ≡ why_of word
  pub some : 1 ≤ why

-- the result is the word's operation, under any condition, or why it has none
abbrev pub Reads : ℕ → Result Operation ℕ → Type 0
Reads word result =
    MatchResult result (λ o. IsOfRow (row_of o) word (bits 31 28 word ∷ operands o)) (IsWhy word)

-- the result is the word's instruction, or why it has none
abbrev pub Decodes : ℕ → Result Instr Unallocated → Type 0
Decodes word result = MatchResult result (Means word) (IsUnallocated word)
