-- How operands are spelled, from what they mean to their pieces (over the VL86C010 data sheet's assembler
-- syntax).
use Rattle.std.specs.Prelude.{◌≡◌, ◌⊎◌, ◌+◌, ◌-◌, ◌^◌, ◌<◌, ◌≤◌, ℕ, Bool, true, false, not, List, [], ◌∷◌}
use Rattle.std.specs.Prelude.{◌++◌, codes, length, map, bit_or}
use Rattle.std.specs.Char.{is_digit}
use Rattle.std.specs.List.{Contains, fold, list_all}
use Rattle.std.specs.Str.Parse.{digits_value}
use Rattle.arm2_decode.specs.declared.names.Opcode.{Opcode}
use Rattle.arm2_decode.specs.declared.names.Register.{Register}
use Rattle.arm2_decode.specs.declared.names.Register.TheVariants.{R0}
use Rattle.arm2_decode.specs.declared.names.Shift.{Shift}
use Rattle.arm2_decode.specs.declared.names.Shift.TheVariants.{Lsl}
use Rattle.arm2_decode.specs.Names.{register_number}
use Rattle.asm_text.specs.Pieces.{Piece, Run, Comma, Sign, Gap}
use Rattle.asm_text.specs.Registers.{in_both_cases, register_names, shift_names}
use Rattle.arm2_decode.specs.Names.{is_compare}
use Rattle.asm_text.specs.Operands.{block_before, block_up, compare_rd, lacks_rn, is_s}
use Rattle.asm_text.specs.declared.token.Mark.{Mark}
use Rattle.asm_text.specs.declared.token.Mark.TheVariants.{Hash, Minus, Bang, Caret, Ampersand, CloseBracket}
use Rattle.asm_text.specs.declared.token.Mark.TheVariants.{OpenBrace, CloseBrace}
use Rattle.asm_text.specs.declared.names.Suffix.{Suffix}
use Rattle.asm_text.specs.declared.syntax.Amount.TheVariants as amount
use Rattle.asm_text.specs.declared.syntax.Shifting.{Shifting}
use Rattle.asm_text.specs.declared.syntax.Shifting.TheVariants as shifting
use Rattle.asm_text.specs.declared.syntax.Operand.{Operand}
use Rattle.asm_text.specs.declared.syntax.Operand.TheVariants as operand
use Rattle.asm_text.specs.declared.syntax.Data.{Data}
use Rattle.asm_text.specs.declared.syntax.Product.{Product}
use Rattle.asm_text.specs.declared.syntax.Distance.{Distance}
use Rattle.asm_text.specs.declared.syntax.Distance.TheVariants as distance
use Rattle.asm_text.specs.declared.syntax.Address.{Address}
use Rattle.asm_text.specs.declared.syntax.BlockTransfer.{BlockTransfer}

-- ## Numbers and names

-- one digit or more, of either case, with a value below 2^32
pub record IsDigits (radix : ℕ) (text : List ℕ) (n : ℕ) : Type 0 where
  pub some : 0 < length text
  pub digits : list_all (λ c. is_digit c radix) text ≡ true
  pub value : n ≡ digits_value radix text
  pub fits : n < 2 ^ 32

-- decimal, or hexadecimal after 0x
abbrev pub IsNumber : List ℕ → ℕ → Type 0
IsNumber text n =
    IsDigits 10 text n ⊎ ((digits : List ℕ) × (text ≡ codes "0x" ++ digits) × IsDigits 16 digits n)

-- a number, or hexadecimal digits after &
abbrev pub SpellsNumber : ℕ → List Piece → Type 0
SpellsNumber n ps =
    ((text : List ℕ) × (ps ≡ Run text ∷ []) × IsNumber text n)
    ⊎ ((text : List ℕ) × (ps ≡ Sign Ampersand ∷ Run text ∷ []) × IsDigits 16 text n)

-- a name of the table, in upper or in lower case
abbrev pub IsRegister : List ℕ → Register → Type 0
IsRegister text r = Contains (in_both_cases register_names) (text, r)

abbrev pub IsShift : List ℕ → Shift → Type 0
IsShift text s = Contains (in_both_cases shift_names) (text, s)

abbrev pub IsRrx : List ℕ → Type 0
IsRrx text = (text ≡ codes "RRX") ⊎ (text ≡ codes "rrx")

-- a mark where the value is true, and nothing else
abbrev pub mark_if : Bool → Mark → List Piece
mark_if true m = Sign m ∷ []
mark_if false m = []

-- ## Shifts

-- LSL #3; RRX; LSL R2
abbrev pub SpellsShift : Shifting → List Piece → Type 0
SpellsShift (shifting.Amount (amount.By s n)) ps =
    (name : List ℕ) × (number : List Piece) × (ps ≡ Run name ∷ Gap ∷ Sign Hash ∷ number) × IsShift name s
    × SpellsNumber n number
SpellsShift (shifting.Amount amount.Rrx) ps = (name : List ℕ) × (ps ≡ Run name ∷ []) × IsRrx name
SpellsShift (shifting.Register s r) ps =
    (name register : List ℕ) × (ps ≡ Run name ∷ Gap ∷ Run register ∷ []) × IsShift name s
    × IsRegister register r

-- after a register: a comma and a shift, or nothing, which is LSL #0
abbrev pub SpellsShifting : Shifting → List Piece → Type 0
SpellsShifting s ps =
    ((shift : List Piece) × (ps ≡ Comma ∷ shift) × SpellsShift s shift)
    ⊎ ((ps ≡ []) × (s ≡ shifting.Amount (amount.By Lsl 0)))

-- ## Data processing

-- #n; Rm; Rm,shift
abbrev pub SpellsOperand : Operand → List Piece → Type 0
SpellsOperand (operand.Immediate n) ps =
    (number : List Piece) × (ps ≡ Sign Hash ∷ number) × SpellsNumber n number
SpellsOperand (operand.Shifted m s) ps =
    (register : List ℕ) × (shift : List Piece) × (ps ≡ Run register ∷ shift) × IsRegister register m
    × SpellsShifting s shift

-- Rn,operand of a compare, which always sets the flags
pub record SpellsCompare (op : Opcode) (s : Suffix) (x : Data) (ps : List Piece) : Type 0 where
  pub rn : Register
  pub last : Operand
  pub means : x ≡ record { opcode = op; sets_flags = true; rn = rn; rd = compare_rd s; operand = last }
  pub n : List ℕ
  pub rest : List Piece
  pub pieces : ps ≡ Run n ∷ Comma ∷ rest
  pub n-is : IsRegister n rn
  pub operand : SpellsOperand last rest

-- Rd,operand of MOV and MVN
pub record SpellsMove (op : Opcode) (s : Suffix) (x : Data) (ps : List Piece) : Type 0 where
  pub rd : Register
  pub last : Operand
  pub means : x ≡ record { opcode = op; sets_flags = is_s s; rn = R0; rd = rd; operand = last }
  pub d : List ℕ
  pub rest : List Piece
  pub pieces : ps ≡ Run d ∷ Comma ∷ rest
  pub d-is : IsRegister d rd
  pub operand : SpellsOperand last rest

-- Rd,Rn,operand of the others
pub record SpellsThree (op : Opcode) (s : Suffix) (x : Data) (ps : List Piece) : Type 0 where
  pub rd : Register
  pub rn : Register
  pub last : Operand
  pub means : x ≡ record { opcode = op; sets_flags = is_s s; rn = rn; rd = rd; operand = last }
  pub d : List ℕ
  pub n : List ℕ
  pub rest : List Piece
  pub pieces : ps ≡ Run d ∷ Comma ∷ Run n ∷ Comma ∷ rest
  pub d-is : IsRegister d rd
  pub n-is : IsRegister n rn
  pub operand : SpellsOperand last rest

abbrev pub SpellsData : Opcode → Suffix → Data → List Piece → Type 0
SpellsData op s x ps =
    ((is_compare op ≡ true) × SpellsCompare op s x ps)
    ⊎ ((is_compare op ≡ false) × (lacks_rn op ≡ true) × SpellsMove op s x ps)
    ⊎ ((is_compare op ≡ false) × (lacks_rn op ≡ false) × SpellsThree op s x ps)

-- ## Multiplies

-- MUL Rd,Rm,Rs
pub record SpellsProduct (s : Suffix) (x : Product) (ps : List Piece) : Type 0 where
  pub rd : Register
  pub rm : Register
  pub rs : Register
  pub means : x ≡ record { accumulate = false; sets_flags = is_s s; rd = rd; rn = R0; rs = rs; rm = rm }
  pub d : List ℕ
  pub m : List ℕ
  pub f : List ℕ
  pub spelled : ps ≡ Run d ∷ Comma ∷ Run m ∷ Comma ∷ Run f ∷ []
  pub d-is : IsRegister d rd
  pub m-is : IsRegister m rm
  pub f-is : IsRegister f rs

-- MLA Rd,Rm,Rs,Rn
pub record SpellsSum (s : Suffix) (x : Product) (ps : List Piece) : Type 0 where
  pub rd : Register
  pub rm : Register
  pub rs : Register
  pub rn : Register
  pub means : x ≡ record { accumulate = true; sets_flags = is_s s; rd = rd; rn = rn; rs = rs; rm = rm }
  pub d : List ℕ
  pub m : List ℕ
  pub f : List ℕ
  pub n : List ℕ
  pub spelled : ps ≡ Run d ∷ Comma ∷ Run m ∷ Comma ∷ Run f ∷ Comma ∷ Run n ∷ []
  pub d-is : IsRegister d rd
  pub m-is : IsRegister m rm
  pub f-is : IsRegister f rs
  pub n-is : IsRegister n rn

-- MUL, or where it accumulates MLA
abbrev pub SpellsMultiply : Bool → Suffix → Product → List Piece → Type 0
SpellsMultiply false s x ps = SpellsProduct s x ps
SpellsMultiply true s x ps = SpellsSum s x ps

-- ## Addresses

-- #n; #-n; Rm; -Rm; with a shift by a number; whether it is added
abbrev pub SpellsOffset : Bool → Distance → List Piece → Type 0
SpellsOffset up (distance.Number n) ps =
    (number : List Piece) × (ps ≡ Sign Hash ∷ (mark_if (not up) Minus ++ number)) × SpellsNumber n number
SpellsOffset up (distance.Register m a) ps =
    (register : List ℕ) × (shift : List Piece) × (ps ≡ mark_if (not up) Minus ++ (Run register ∷ shift))
    × IsRegister register m × SpellsShifting (shifting.Amount a) shift

-- what follows the bracket where there is no offset: Rn] or Rn]!, of offset 0
pub record SpellsBase (x : Address) (ps : List Piece) : Type 0 where
  pub rn : Register
  pub write_back : Bool
  pub means : x
      ≡ record { rn = rn; before = true; up = true; write_back = write_back; distance = distance.Number 0 }
  pub n : List ℕ
  pub spelled : ps ≡ Run n ∷ Sign CloseBracket ∷ mark_if write_back Bang
  pub n-is : IsRegister n rn

-- Rn,offset] and Rn,offset]!
pub record SpellsBefore (x : Address) (ps : List Piece) : Type 0 where
  pub before : x.before ≡ true
  pub n : List ℕ
  pub offset : List Piece
  pub spelled : ps ≡ Run n ∷ Comma ∷ (offset ++ (Sign CloseBracket ∷ mark_if x.write_back Bang))
  pub n-is : IsRegister n x.rn
  pub offset-is : SpellsOffset x.up x.distance offset

-- Rn],offset; W stands for user rights, which the word says
pub record SpellsAfter (user : Bool) (x : Address) (ps : List Piece) : Type 0 where
  pub after : x.before ≡ false
  pub rights : x.write_back ≡ user
  pub n : List ℕ
  pub offset : List Piece
  pub spelled : ps ≡ Run n ∷ Sign CloseBracket ∷ Comma ∷ offset
  pub n-is : IsRegister n x.rn
  pub offset-is : SpellsOffset x.up x.distance offset

-- user rights ask the last form
abbrev pub SpellsAddress : Bool → Address → List Piece → Type 0
SpellsAddress user x ps =
    ((user ≡ false) × SpellsBase x ps) ⊎ ((user ≡ false) × SpellsBefore x ps) ⊎ SpellsAfter user x ps

-- ## Lists

-- one or more, each spelled in this way, with commas between them
abbrev pub Listed : {A : Type 0} → (A → List Piece → Type 0) → List A → List Piece → Type 0
Listed spells [] ps = ⊥
Listed spells (a ∷ []) ps = spells a ps
Listed spells (a ∷ b ∷ more) ps =
    (first rest : List Piece) × (ps ≡ first ++ (Comma ∷ rest)) × spells a first
    × Listed spells (b ∷ more) rest

-- ## Blocks

-- a register, or those from one to another that is not below it: R1; R0-R3
abbrev pub SpellsRun : Register × Register → List Piece → Type 0
SpellsRun run ps =
    ((a : List ℕ) × (ps ≡ Run a ∷ []) × IsRegister a run.0 × (run.1 ≡ run.0))
    ⊎ ((a b : List ℕ) × (ps ≡ Run a ∷ Sign Minus ∷ Run b ∷ []) × IsRegister a run.0 × IsRegister b run.1
    × (register_number run.0 ≤ register_number run.1))

-- the bits from the number of the first register to that of the last
abbrev pub bits_of : Register × Register → ℕ
bits_of run = 2 ^ (register_number run.1 + 1) - 2 ^ register_number run.0

-- the bits of all, together
abbrev pub all_bits : List (Register × Register) → ℕ
all_bits runs = fold bit_or 0 (map bits_of runs)

-- Rn!,{R0-R3,R5}^
pub record SpellsBlock (load : Bool) (s : Suffix) (x : BlockTransfer) (ps : List Piece) : Type 0 where
  pub loads : x.load ≡ load
  pub before : x.before ≡ block_before load s
  pub up : x.up ≡ block_up load s
  pub n : List ℕ
  pub runs : List (Register × Register)
  pub listed : List Piece
  pub spelled : ps
      ≡ Run n
      ∷
      (mark_if x.write_back Bang
      ++ (Comma ∷ Sign OpenBrace ∷ (listed ++ (Sign CloseBrace ∷ mark_if x.user Caret))))
  pub n-is : IsRegister n x.rn
  pub runs-are : Listed SpellsRun runs listed
  pub list : x.list ≡ all_bits runs
