-- How an instruction is spelled at an address (over the VL86C010 data sheet's assembler syntax: one spelling
-- of each word).
use Rattle.std.specs.Prelude.{◌≡◌, ℕ, zero, suc, ◌+◌, ◌-◌, ◌*◌, ◌%◌, ◌^◌, ◌==◌, ◌&&◌, not, nat_lt, Bool}
use Rattle.std.specs.Prelude.{true, false, List, [], ◌∷◌, ◌++◌, codes, decimal, Option, Some, None, Result}
use Rattle.std.specs.Prelude.{Ok, if◌then◌else◌}
use Rattle.std.specs.Int.{w32, rotate_right}
use Rattle.std.specs.Result.{result_ok}
use Rattle.arm2_decode.specs.declared.instr.Block.{Block}
use Rattle.arm2_decode.specs.declared.instr.Branch.{Branch}
use Rattle.arm2_decode.specs.declared.instr.DataImmediate.{DataImmediate}
use Rattle.arm2_decode.specs.declared.instr.DataRegister.{DataRegister}
use Rattle.arm2_decode.specs.declared.instr.DataRegisterShift.{DataRegisterShift}
use Rattle.arm2_decode.specs.declared.instr.Instr.{Instr}
use Rattle.arm2_decode.specs.declared.instr.Multiply.{Multiply}
use Rattle.arm2_decode.specs.declared.instr.Operation.{Operation}
use Rattle.arm2_decode.specs.declared.instr.Operation.TheVariants as operation
use Rattle.arm2_decode.specs.declared.instr.SingleImmediate.{SingleImmediate}
use Rattle.arm2_decode.specs.declared.instr.SingleRegister.{SingleRegister}
use Rattle.arm2_decode.specs.declared.instr.Swi.{Swi}
use Rattle.arm2_decode.specs.declared.names.Cond.{Cond}
use Rattle.arm2_decode.specs.declared.names.Cond.TheVariants.{Al}
use Rattle.arm2_decode.specs.declared.names.Opcode.{Opcode}
use Rattle.arm2_decode.specs.declared.names.Opcode.TheVariants.{Tst, Teq, Cmp, Cmn, Mov, Mvn}
use Rattle.arm2_decode.specs.declared.names.Register.{Register}
use Rattle.arm2_decode.specs.declared.names.Shift.{Shift}
use Rattle.arm2_decode.specs.declared.names.Shift.TheVariants.{Lsl, Lsr, Asr, Ror}
use Rattle.arm2_decode.specs.Bits.{bit_of_word}
use Rattle.arm2_decode.specs.Names.{is_pc, register_number}
use Rattle.arm2_decode.specs.Table.{Means}
use Rattle.arm2_decode.specs.Transfers.{asks_for_user}
use Rattle.bus_ticks.specs.declared.space.TheConstants.{SPACE_END}
use Rattle.asm_text.specs.Hex.{hex}
use Rattle.asm_text.specs.Names.{cond_name, opcode_name}
use Rattle.asm_text.specs.Shown.{parsed_shown}
use Rattle.asm_text.specs.Statements.{line_of}
use Rattle.asm_text.specs.Words.{branch_name}
use Rattle.asm_text.specs.declared.syntax.Use.{Use}
use Rattle.asm_text.specs.declared.syntax.Use.TheVariants as use_of
use Rattle.asm_text.specs.declared.printed_lines.Shown.{Shown}
use Rattle.asm_text.specs.declared.printed_lines.Shown.TheVariants as shown
use Rattle.assembler.specs.declared.fault.LineFault.{LineFault}
use Rattle.assembler.specs.Codes.{encoded, refer}
use Rattle.assembler.specs.Shown.{AssemblesTo, hex_line}

-- ## Words

-- AL is not written
abbrev pub cond_text : Cond → List ℕ
cond_text Al = []
cond_text c = cond_name c

-- a name, a condition, a suffix and a blank
abbrev pub word_text : List ℕ → Cond → List ℕ → List ℕ
word_text name c suffix = name ++ (cond_text c ++ (suffix ++ codes " "))

abbrev pub flags_text : Bool → List ℕ
flags_text true = codes "S"
flags_text false = []

-- ## Registers

-- R0 to R15, by their numbers
abbrev pub numbered : ℕ → List ℕ
numbered n = codes "R" ++ decimal n

abbrev pub register_text : Register → List ℕ
register_text r = numbered (register_number r)

abbrev pub comma_register : Register → List ℕ
comma_register r = codes "," ++ register_text r

abbrev pub shift_text : Shift → List ℕ
shift_text Lsl = codes ",LSL "
shift_text Lsr = codes ",LSR "
shift_text Asr = codes ",ASR "
shift_text Ror = codes ",ROR "

abbrev pub amount_text : Shift → ℕ → List ℕ
amount_text s n = shift_text s ++ (codes "#" ++ decimal n)

-- a shift by the amount of a word: LSL by 0 is not written, 0 of LSR and ASR stands for 32, 0 of ROR for RRX
abbrev pub shifted_text : Shift → ℕ → List ℕ
shifted_text Lsl n = if n == 0 then [] else amount_text Lsl n
shifted_text Ror n = if n == 0 then codes ",RRX" else amount_text Ror n
shifted_text s n = amount_text s (if n == 0 then 32 else n)

-- ## Data processing

-- P where a compare has R15 as Rd; its S is not written
abbrev pub compare_text : Register → List ℕ
compare_text rd = if is_pc rd then codes "P" else []

abbrev pub compare_front : Cond → Opcode → Register → Register → List ℕ
compare_front c op rn rd = word_text (opcode_name op) c (compare_text rd) ++ (register_text rn ++ codes ",")

abbrev pub move_front : Cond → Opcode → Bool → Register → List ℕ
move_front c op s rd = word_text (opcode_name op) c (flags_text s) ++ (register_text rd ++ codes ",")

abbrev pub three_front : Cond → Opcode → Bool → Register → Register → List ℕ
three_front c op s rn rd =
    word_text (opcode_name op) c (flags_text s) ++ (register_text rd ++ (comma_register rn ++ codes ","))

-- what comes in front of the last operand: a compare has no Rd, MOV and MVN no Rn
abbrev pub data_front : Cond → Opcode → Bool → Register → Register → List ℕ
data_front c Tst s rn rd = compare_front c Tst rn rd
data_front c Teq s rn rd = compare_front c Teq rn rd
data_front c Cmp s rn rd = compare_front c Cmp rn rd
data_front c Cmn s rn rd = compare_front c Cmn rn rd
data_front c Mov s rn rd = move_front c Mov s rd
data_front c Mvn s rn rd = move_front c Mvn s rd
data_front c op s rn rd = three_front c op s rn rd

abbrev pub data_register_text : Cond → DataRegister → List ℕ
data_register_text c x =
    data_front c x.opcode x.sets_flags x.rn x.rd ++ (register_text x.rm ++ shifted_text x.shift x.amount)

abbrev pub data_register_shift_text : Cond → DataRegisterShift → List ℕ
data_register_shift_text c x =
    data_front c x.opcode x.sets_flags x.rn x.rd
    ++ (register_text x.rm ++ (shift_text x.shift ++ register_text x.rs))

-- the number that the byte is, in decimal
abbrev pub data_immediate_text : Cond → DataImmediate → List ℕ
data_immediate_text c x =
    data_front c x.opcode x.sets_flags x.rn x.rd
    ++ (codes "#" ++ decimal (rotate_right w32 x.value (2 * x.rotation)))

-- ## Multiplies

-- Rd,Rm,Rs
abbrev pub factors_text : Multiply → List ℕ
factors_text x = register_text x.rd ++ (comma_register x.rm ++ comma_register x.rs)

-- of MLA also Rn
abbrev pub multiply_text : Cond → Multiply → List ℕ
multiply_text c x =
    if x.accumulate
    then word_text (codes "MLA") c (flags_text x.sets_flags) ++ (factors_text x ++ comma_register x.rn)
    else word_text (codes "MUL") c (flags_text x.sets_flags) ++ factors_text x

-- ## Transfers

abbrev pub load_name : Bool → List ℕ
load_name true = codes "LDR"
load_name false = codes "STR"

-- B for a byte, T for a User access
abbrev pub transfer_suffix : Bool → Bool → List ℕ
transfer_suffix false false = []
transfer_suffix true false = codes "B"
transfer_suffix false true = codes "T"
transfer_suffix true true = codes "BT"

-- the word, Rd and the base after its bracket
abbrev pub transfer_front : Cond → Bool → Bool → Bool → Register → Register → List ℕ
transfer_front c load byte user rd rn =
    word_text (load_name load) c (transfer_suffix byte user)
    ++ (register_text rd ++ (codes ",[" ++ register_text rn))

-- the bracket closes in front of an offset that is added after the access
abbrev pub base_end : Bool → List ℕ
base_end true = codes ","
base_end false = codes "],"

-- or after one that is added before it, with a mark where it is written back
abbrev pub address_end : Bool → Bool → List ℕ
address_end false write_back = []
address_end true true = codes "]!"
address_end true false = codes "]"

abbrev pub sign_text : Bool → List ℕ
sign_text true = []
sign_text false = codes "-"

abbrev pub offset_text : Bool → Bool → ℕ → List ℕ
offset_text before up n = base_end before ++ (codes "#" ++ (sign_text up ++ decimal n))

-- 0, added before the access and not written back, is not written
abbrev pub is_plain : SingleImmediate → Bool
is_plain x = (x.offset == 0 && x.up) && (x.before && not x.write_back)

abbrev pub single_immediate_text : Cond → SingleImmediate → List ℕ
single_immediate_text c x =
    transfer_front c x.load x.byte (asks_for_user x.before x.write_back) x.rd x.rn
    ++ ((if is_plain x then [] else offset_text x.before x.up x.offset) ++ address_end x.before x.write_back)

abbrev pub single_register_text : Cond → SingleRegister → List ℕ
single_register_text c x =
    transfer_front c x.load x.byte (asks_for_user x.before x.write_back) x.rd x.rn
    ++
    (base_end x.before
    ++
    (sign_text x.up
    ++ (register_text x.rm ++ (shifted_text x.shift x.amount ++ address_end x.before x.write_back))))

-- ## Blocks

abbrev pub block_name : Bool → List ℕ
block_name true = codes "LDM"
block_name false = codes "STM"

abbrev pub block_suffix : Bool → Bool → List ℕ
block_suffix false true = codes "IA"
block_suffix true true = codes "IB"
block_suffix false false = codes "DA"
block_suffix true false = codes "DB"

-- it has the register before
abbrev pub follows : ℕ → ℕ → Bool
follows list n = nat_lt 0 n && bit_of_word list (n - 1)

-- the first register, or a comma and the register
abbrev pub run_first : ℕ → ℕ → List ℕ
run_first list n = (if list % 2 ^ n == 0 then [] else codes ",") ++ numbered n

abbrev pub run_last : ℕ → ℕ → List ℕ
run_last list n = if bit_of_word list (n + 1) then [] else codes "-" ++ numbered n

-- what a register adds: it begins a run, ends one of two or more, or is none of the list or within a run
abbrev pub listed : ℕ → ℕ → List ℕ
listed list n =
    if bit_of_word list n then (if follows list n then run_last list n else run_first list n) else []

-- what the registers below a number add
abbrev pub listed_below : ℕ → ℕ → List ℕ
listed_below list zero = []
listed_below list (suc n) = listed_below list n ++ listed list n

abbrev pub list_text : ℕ → List ℕ
list_text list = codes "{" ++ (listed_below list 16 ++ codes "}")

abbrev pub mark_if : Bool → List ℕ → List ℕ
mark_if true mark = mark
mark_if false mark = []

-- the list, with ^ for S
abbrev pub list_operand : ℕ → Bool → List ℕ
list_operand list user = codes "," ++ (list_text list ++ mark_if user (codes "^"))

abbrev pub block_text : Cond → Block → List ℕ
block_text c x =
    word_text (block_name x.load) c (block_suffix x.before x.up)
    ++ (register_text x.rn ++ (mark_if x.write_back (codes "!") ++ list_operand x.list x.user))

-- ## Branches

-- the address that a branch's line shows: so many signed words on from its address plus 8, not wrapped, and 0
-- where that is below 0
abbrev pub shown_target : ℕ → ℕ → ℕ
shown_target at offset =
    if nat_lt offset (2 ^ 23) then at + 8 + 4 * offset else (at + 8 + 4 * offset) - SPACE_END

abbrev pub branch_text : Cond → Branch → ℕ → List ℕ
branch_text c x at = word_text (branch_name x.link) c [] ++ (codes "&" ++ hex (shown_target at x.offset))

abbrev pub swi_text : Cond → Swi → List ℕ
swi_text c x = word_text (codes "SWI") c [] ++ decimal x.comment

-- ## Any

-- an undefined word has no spelling
abbrev pub operation_text : Cond → Operation → ℕ → List ℕ
operation_text c (operation.Multiply x) at = multiply_text c x
operation_text c (operation.DataRegister x) at = data_register_text c x
operation_text c (operation.DataRegisterShift x) at = data_register_shift_text c x
operation_text c (operation.DataImmediate x) at = data_immediate_text c x
operation_text c (operation.SingleImmediate x) at = single_immediate_text c x
operation_text c (operation.SingleRegister x) at = single_register_text c x
operation_text c (operation.Block x) at = block_text c x
operation_text c (operation.Branch x) at = branch_text c x at
operation_text c (operation.Swi x) at = swi_text c x
operation_text c (operation.UndefinedTransfer x) at = []
operation_text c (operation.CoprocessorTransfer x) at = []
operation_text c (operation.Coprocessor x) at = []

-- the stated spelling of an instruction at an address
abbrev pub shown_line : Instr → ℕ → List ℕ
shown_line i at = operation_text i.cond i.operation at

-- the line assembles to its word; it is the stated spelling where the word is an instruction and the
-- spelling assembles to the word, and a DCD line where there is no such spelling
pub record IsShown (word at : ℕ) (line : List ℕ) : Type 0 where
  pub assembles : AssemblesTo line at word
  pub spelled : (i : Instr) → Means word i → AssemblesTo (shown_line i at) at word → line ≡ shown_line i at
  pub dcd : ((i : Instr) → Means word i → AssemblesTo (shown_line i at) at word → ⊥) → line ≡ hex_line word

-- the line of a word at its address; nothing where there is no word
abbrev pub IsWordLine : Option ℕ → (at : ℕ) → List ℕ → Type 0
IsWordLine (Some word) at text = IsShown word at text
IsWordLine None at text = text ≡ []

-- ## What the code tries of a spelling; a spelling that assembles to its word passes

abbrev pub target_word : Use → Result ℕ LineFault → Option ℕ
target_word (use_of.Branch link) (Ok word) = Some word
target_word _ _ = None

-- the word that what is read has at an address; of words with a target only branches are shown
abbrev pub shown_word : Shown → ℕ → Option ℕ
shown_word (shown.Code c) at = result_ok (encoded c at)
shown_word (shown.Refer r n) at = target_word r.how (encoded (refer r at n) at)

-- after a blank the text is a line of an instruction alone, which has the word at the address
abbrev pub AssemblesBack : List ℕ → ℕ → ℕ → Type 0
AssemblesBack text at word =
    (s : Shown) × (line_of (32 ∷ text) ≡ Ok (parsed_shown s)) × (shown_word s at ≡ Some word)
