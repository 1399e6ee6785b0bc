-- Operands, by the pieces that spell them (over the VL86C010 data sheet's assembler syntax).
use Rattle.std.specs.Prelude.{ℕ, ◌+◌, ◌-◌, ◌^◌, nat_le, Bool, true, false, List, [], ◌∷◌, Option, Some, None}
use Rattle.std.specs.Prelude.{option_map, option_and_then, if◌then◌else◌, bit_or}
use Rattle.arm2_decode.specs.declared.names.Opcode.{Opcode}
use Rattle.arm2_decode.specs.declared.names.Opcode.TheVariants.{Mov, Mvn}
use Rattle.arm2_decode.specs.declared.names.Register.{Register}
use Rattle.arm2_decode.specs.declared.names.Register.TheVariants.{R0, R15}
use Rattle.arm2_decode.specs.declared.names.Shift.{Shift}
use Rattle.arm2_decode.specs.declared.names.Shift.TheVariants.{Lsl}
use Rattle.arm2_decode.specs.Names.{register_number}
use Rattle.asm_text.specs.Pieces.{Piece, Run, Comma, Sign, Gap}
use Rattle.asm_text.specs.Numbers.{first_number}
use Rattle.asm_text.specs.Registers.{is_rrx, first_register_comma, first_register, register_of, shift_of}
use Rattle.arm2_decode.specs.Names.{is_compare}
use Rattle.asm_text.specs.declared.token.Mark.TheVariants.{Hash, Minus, Bang, Caret, CloseBracket, OpenBrace}
use Rattle.asm_text.specs.declared.token.Mark.TheVariants.{CloseBrace}
use Rattle.asm_text.specs.declared.names.Suffix.{Suffix}
use Rattle.asm_text.specs.declared.names.Suffix.TheVariants.{S, P, B, T, Bt, Ia, Ib, Db, Fd, Ed, Fa, Ea}
use Rattle.asm_text.specs.declared.list.ListPlace.{ListPlace}
use Rattle.asm_text.specs.declared.list.ListPlace.TheVariants.{Start, First, To, After}
use Rattle.asm_text.specs.declared.list.Step.{Step}
use Rattle.asm_text.specs.declared.list.Step.TheVariants.{Goes, Ends}
use Rattle.asm_text.specs.declared.syntax.Amount.TheVariants as amount
use Rattle.asm_text.specs.declared.syntax.Shifting.{Shifting}
use Rattle.asm_text.specs.declared.syntax.Shifting.TheVariants as shifting
use Rattle.asm_text.specs.declared.syntax.Operand.{Operand}
use Rattle.asm_text.specs.declared.syntax.Operand.TheVariants as operand
use Rattle.asm_text.specs.declared.syntax.Data.{Data}
use Rattle.asm_text.specs.declared.syntax.Product.{Product}
use Rattle.asm_text.specs.declared.syntax.Distance.{Distance}
use Rattle.asm_text.specs.declared.syntax.Distance.TheVariants as distance
use Rattle.asm_text.specs.declared.syntax.Address.{Address}
use Rattle.asm_text.specs.declared.syntax.BlockTransfer.{BlockTransfer}

-- what is read, where nothing follows it
abbrev pub alone : {A : Type 0} → A → List Piece → Option A
alone a [] = Some a
alone a (p ∷ ps) = None

abbrev pub all_read : {A : Type 0} → Option (A × List Piece) → Option A
all_read None = None
all_read (Some f) = alone f.0 f.1

-- ## Shifts: LSL #3, LSL R2, RRX

abbrev pub first_amount : Shift → List Piece → Option (Shifting × List Piece)
first_amount s ps = option_map (λ f. (shifting.Amount (amount.By s f.0), f.1)) (first_number ps)

abbrev pub first_shift_by : Shift → List Piece → Option (Shifting × List Piece)
first_shift_by s (Sign Hash ∷ ps) = first_amount s ps
first_shift_by s (Run r ∷ ps) = option_map (λ m. (shifting.Register s m, ps)) (register_of r)
first_shift_by s _ = None

abbrev pub first_shift_words : List ℕ → List Piece → Option (Shifting × List Piece)
first_shift_words w (Gap ∷ ps) = option_and_then (λ s. first_shift_by s ps) (shift_of w)
first_shift_words w ps = if is_rrx w then Some (shifting.Amount amount.Rrx, ps) else None

abbrev pub first_shift : List Piece → Option (Shifting × List Piece)
first_shift (Run w ∷ ps) = first_shift_words w ps
first_shift _ = None

-- after a register: a comma and a shift, or none, which is LSL #0
abbrev pub first_shifting : List Piece → Option (Shifting × List Piece)
first_shifting (Comma ∷ ps) = first_shift ps
first_shifting ps = Some (shifting.Amount (amount.By Lsl 0), ps)

-- ## Data processing

-- #n; Rm; Rm,shift
abbrev pub operand_of : List Piece → Option Operand
operand_of (Sign Hash ∷ ps) = option_map operand.Immediate (all_read (first_number ps))
operand_of (Run r ∷ ps) =
    option_and_then (λ m. option_map (operand.Shifted m) (all_read (first_shifting ps))) (register_of r)
operand_of _ = None

abbrev pub lacks_rn : Opcode → Bool
lacks_rn Mov = true
lacks_rn Mvn = true
lacks_rn _ = false

abbrev pub is_s : Suffix → Bool
is_s S = true
is_s _ = false

-- the P form of a compare has R15 as Rd
abbrev pub compare_rd : Suffix → Register
compare_rd P = R15
compare_rd _ = R0

-- Rn,operand of a compare, which always sets the flags
abbrev pub compare_of : Opcode → Suffix → Register → List Piece → Option Data
compare_of op s n ps =
    option_map (λ o. record { opcode = op; sets_flags = true; rn = n; rd = compare_rd s; operand = o })
    (operand_of ps)

-- Rd,operand of MOV and MVN
abbrev pub move_of : Opcode → Suffix → Register → List Piece → Option Data
move_of op s d ps =
    option_map (λ o. record { opcode = op; sets_flags = is_s s; rn = R0; rd = d; operand = o })
    (operand_of ps)

-- Rd,Rn,operand
abbrev pub three_of : Opcode → Suffix → Register → List Piece → Option Data
three_of op s d ps =
    option_and_then
    (λ f. option_map (λ o. record { opcode = op; sets_flags = is_s s; rn = f.0; rd = d; operand = o })
    (operand_of f.1))
    (first_register_comma ps)

abbrev pub data_with : Opcode → Suffix → Register → List Piece → Option Data
data_with op s r ps =
    if is_compare op then compare_of op s r ps
    else (if lacks_rn op then move_of op s r ps else three_of op s r ps)

abbrev pub data_of : Opcode → Suffix → List Piece → Option Data
data_of op s ps = option_and_then (λ f. data_with op s f.0 f.1) (first_register_comma ps)

-- ## Multiplies

-- Rd,Rm,Rs, and of MLA Rn
abbrev pub factors_of : Suffix → Register → Register → List Piece → Option Product
factors_of s d m ps =
    option_map (λ t. record { accumulate = false; sets_flags = is_s s; rd = d; rn = R0; rs = t; rm = m })
    (all_read (first_register ps))

abbrev pub sum_of : Suffix → Register → Register → List Piece → Option Product
sum_of s d m ps =
    option_and_then
    (λ f. option_map
    (λ n. record { accumulate = true; sets_flags = is_s s; rd = d; rn = n; rs = f.0; rm = m })
    (all_read (first_register f.1)))
    (first_register_comma ps)

abbrev pub product_of : Bool → Suffix → List Piece → Option Product
product_of accumulate s ps =
    option_and_then
    (λ f. option_and_then (λ g. if accumulate then sum_of s f.0 g.0 g.1 else factors_of s f.0 g.0 g.1)
    (first_register_comma f.1))
    (first_register_comma ps)

-- ## Addresses

-- whether an offset is added, and its distance
abbrev pub Offset : Type 0
Offset = Bool × Distance

-- a register shifted by a number
abbrev pub by_amount : Bool → Register → Shifting × List Piece → Option (Offset × List Piece)
by_amount up m (shifting.Amount a, ps) = Some ((up, distance.Register m a), ps)
by_amount up m (shifting.Register s r, ps) = None

abbrev pub register_offset : Bool → List Piece → Option (Offset × List Piece)
register_offset up ps =
    option_and_then (λ f. option_and_then (by_amount up f.0) (first_shifting f.1)) (first_register ps)

abbrev pub signed_offset : Bool → List Piece → Option (Offset × List Piece)
signed_offset up ps = option_map (λ f. ((up, distance.Number f.0), f.1)) (first_number ps)

abbrev pub number_offset : List Piece → Option (Offset × List Piece)
number_offset (Sign Minus ∷ ps) = signed_offset false ps
number_offset ps = signed_offset true ps

-- #n; #-n; Rm; -Rm; with a shift by a number
abbrev pub first_offset : List Piece → Option (Offset × List Piece)
first_offset (Sign Hash ∷ ps) = number_offset ps
first_offset (Sign Minus ∷ ps) = register_offset false ps
first_offset ps = register_offset true ps

-- nothing, or the mark, and no more
abbrev pub bang_of : List Piece → Option Bool
bang_of [] = Some false
bang_of (Sign Bang ∷ ps) = alone true ps
bang_of _ = None

-- ] or ]!
abbrev pub closed_of : List Piece → Option Bool
closed_of (Sign CloseBracket ∷ ps) = bang_of ps
closed_of _ = None

abbrev pub address : Register → Bool → Bool → Offset → Address
address n before write_back o =
    record { rn = n; before = before; up = o.0; write_back = write_back; distance = o.1 }

-- after [Rn, the offset and its end
abbrev pub before_of : Register → List Piece → Option Address
before_of n ps =
    option_and_then (λ f. option_map (λ w. address n true w f.0) (closed_of f.1)) (first_offset ps)

-- [Rn] or [Rn]!
abbrev pub unoffset_of : Register → List Piece → Option Address
unoffset_of n ps = option_map (λ w. address n true w (true, distance.Number 0)) (bang_of ps)

-- after [Rn] nothing, a mark, or a comma and an offset; T asks the last and sets W
abbrev pub after_of : Bool → Register → List Piece → Option Address
after_of user n (Comma ∷ ps) = option_map (address n false user) (all_read (first_offset ps))
after_of user n ps = if user then None else unoffset_of n ps

abbrev pub after_base : Bool → Register → List Piece → Option Address
after_base user n (Sign CloseBracket ∷ ps) = after_of user n ps
after_base user n (Comma ∷ ps) = if user then None else before_of n ps
after_base user n _ = None

-- after [
abbrev pub address_of : Bool → List Piece → Option Address
address_of user ps = option_and_then (λ f. after_base user f.0 f.1) (first_register ps)

abbrev pub is_byte : Suffix → Bool
is_byte B = true
is_byte Bt = true
is_byte _ = false

abbrev pub is_user : Suffix → Bool
is_user T = true
is_user Bt = true
is_user _ = false

-- ## Lists of registers

-- the registers from one to another, as bits; none where they fall
abbrev pub run_bits : Register → Register → Option ℕ
run_bits a b =
    if nat_le (register_number a) (register_number b)
    then Some (2 ^ (register_number b + 1) - 2 ^ register_number a) else None

abbrev pub with_bits : ℕ → Option ℕ → Option ℕ
with_bits list bits = option_map (bit_or list) bits

-- after a run of registers: a comma, or } at the end
abbrev pub after_step : ℕ → Piece → Option Step
after_step list Comma = Some (Goes list Start)
after_step list (Sign CloseBrace) = Some (Ends list)
after_step list _ = None

-- after a register: - and the last of its run, or it is alone
abbrev pub first_step : ℕ → Register → Piece → Option Step
first_step list a (Sign Minus) = Some (Goes list (To a))
first_step list a p = option_and_then (λ more. after_step more p) (with_bits list (run_bits a a))

abbrev pub start_step : ℕ → Piece → Option Step
start_step list (Run a) = option_map (λ r. Goes list (First r)) (register_of a)
start_step list _ = None

abbrev pub to_step : ℕ → Register → Piece → Option Step
to_step list a (Run b) =
    option_and_then (λ last. option_map (λ more. Goes more After) (with_bits list (run_bits a last)))
    (register_of b)
to_step list a _ = None

-- what a piece does in a list, by what comes before it
abbrev pub list_step : ℕ → ListPlace → Piece → Option Step
list_step list Start p = start_step list p
list_step list (First a) p = first_step list a p
list_step list (To a) p = to_step list a p
list_step list After p = after_step list p

abbrev pub list_of : Step → ℕ
list_of (Goes list place) = list
list_of (Ends list) = list

abbrev pub list_by : (ℕ → ListPlace → Option (ℕ × List Piece)) → List Piece → Option Step
    → Option (ℕ × List Piece)
list_by on ps None = None
list_by on ps (Some (Goes list place)) = on list place
list_by on ps (Some (Ends list)) = Some (list, ps)

-- after {: registers and runs with commas between them, and }; what follows that
abbrev pub list_from : ℕ → ListPlace → List Piece → Option (ℕ × List Piece)
list_from list place [] = None
list_from list place (p ∷ ps) = list_by (λ more next. list_from more next ps) ps (list_step list place p)

-- nothing, or ^
abbrev pub caret_of : List Piece → Option Bool
caret_of [] = Some false
caret_of (Sign Caret ∷ ps) = alone true ps
caret_of _ = None

-- whether the address moves before each word: stacks grow the other way for loads
abbrev pub block_before : Bool → Suffix → Bool
block_before load Ib = true
block_before load Db = true
block_before true Ed = true
block_before true Ea = true
block_before false Fd = true
block_before false Fa = true
block_before _ _ = false

-- whether it moves upwards
abbrev pub block_up : Bool → Suffix → Bool
block_up load Ia = true
block_up load Ib = true
block_up true Fd = true
block_up true Ed = true
block_up false Fa = true
block_up false Ea = true
block_up _ _ = false

abbrev pub block : Bool → Suffix → Register → Bool → ℕ → Bool → BlockTransfer
block load s n w list user =
    record {
      load = load;
      before = block_before load s;
      up = block_up load s;
      user = user;
      write_back = w;
      rn = n;
      list = list;
    }

-- after Rn and its mark: a comma, the list and its end
abbrev pub braced : Bool → Suffix → Register → Bool → List Piece → Option BlockTransfer
braced load s n w (Comma ∷ Sign OpenBrace ∷ ps) =
    option_and_then (λ f. option_map (block load s n w f.0) (caret_of f.1)) (list_from 0 Start ps)
braced load s n w _ = None

abbrev pub block_based : Bool → Suffix → Register → List Piece → Option BlockTransfer
block_based load s n (Sign Bang ∷ ps) = braced load s n true ps
block_based load s n ps = braced load s n false ps

-- Rn!,{R0-R3,R5}^
abbrev pub block_of : Bool → Suffix → List Piece → Option BlockTransfer
block_of load s ps = option_and_then (λ f. block_based load s f.0 f.1) (first_register ps)
