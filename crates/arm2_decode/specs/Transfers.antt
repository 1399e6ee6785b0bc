-- What the fields of a load or a store ask for (VL86C010 data sheet, single data transfer and block data
-- transfer).
use Rattle.std.specs.Prelude.{ℕ, Bool, not, ◌&&◌, ◌||◌, List, [], ◌∷◌, length, filter}
use Rattle.arm2_decode.specs.Bits.{bit_of_word}
use Rattle.arm2_decode.specs.Names.{register_number}
use Rattle.arm2_decode.specs.declared.names.Register.{Register}
use Rattle.arm2_decode.specs.declared.names.Register.TheVariants.{R0, R1, R2, R3, R4, R5, R6, R7, R8, R9, R10}
use Rattle.arm2_decode.specs.declared.names.Register.TheVariants.{R11, R12, R13, R14, R15}

-- a single transfer writes its base: where W is set, and always where P is not
abbrev pub writes_base : (before write_back : Bool) → Bool
writes_base before write_back = write_back || not before

-- it asks for the rights of User: where W is set although P is not
abbrev pub asks_for_user : (before write_back : Bool) → Bool
asks_for_user before write_back = write_back && not before

-- bit n of a block's list stands for register n
abbrev pub is_listed : (list : ℕ) → Register → Bool
is_listed list register = bit_of_word list (register_number register)

-- the sixteen registers, the lowest first
unfoldable pub all_registers : List Register
all_registers = R0 ∷ R1 ∷ R2 ∷ R3 ∷ R4 ∷ R5 ∷ R6 ∷ R7 ∷ R8 ∷ R9 ∷ R10 ∷ R11 ∷ R12 ∷ R13 ∷ R14 ∷ R15 ∷ []

-- the registers of a list, the lowest first
abbrev pub registers_in : (list : ℕ) → List Register
registers_in list = filter (is_listed list) all_registers

-- how many words a block moves: one for each register of its list
abbrev pub word_count : (list : ℕ) → ℕ
word_count list = length (registers_in list)
