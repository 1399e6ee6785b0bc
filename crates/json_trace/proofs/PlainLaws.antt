-- No byte of the line of a word needs an escape in a string of JSON.
use Rattle.std.proofs.Common.{◌≡◌, ℕ, zero, suc, ◌+◌, ◌*◌, ◌/◌, ◌%◌, ◌^◌, Bool, true, false, cond, ◌==◌, List, [], ◌∷◌, ◌++◌, ◌<◌, ◌∙◌, codes, refl, sym, ap, inl, inr, arith}
use Rattle.std.specs.Prelude.{decimal}
use Rattle.std.specs.Fmt.{digits, digits_onto, digit_glyph}
use Rattle.std.specs.Int.{w32, rotate_right}
use Rattle.std.specs.List.{list_all}
use Rattle.std.proofs.lemmas.Bool.{and_parts, cases_Bool, false≢true}
use Rattle.std.proofs.lemmas.Bool.Decides.{nat_tests}
use Rattle.arm2_decode.specs.declared.instr.Block.{Block}
use Rattle.arm2_decode.specs.declared.instr.Multiply.{Multiply}
use Rattle.arm2_decode.specs.declared.instr.Operation.{Operation}
use Rattle.arm2_decode.specs.declared.instr.Operation.TheVariants as operation
use Rattle.arm2_decode.specs.declared.instr.SingleImmediate.{SingleImmediate}
use Rattle.arm2_decode.specs.declared.instr.SingleRegister.{SingleRegister}
use Rattle.arm2_decode.specs.declared.names.Cond.{Cond}
use Rattle.arm2_decode.specs.declared.names.Cond.TheVariants.{Eq}
use Rattle.arm2_decode.specs.declared.names.Opcode.{Opcode}
use Rattle.arm2_decode.specs.declared.names.Opcode.TheVariants.{And, Tst, Teq, Cmp, Cmn, Mov, Mvn}
use Rattle.arm2_decode.specs.declared.names.Register.{Register}
use Rattle.arm2_decode.specs.declared.names.Shift.{Shift}
use Rattle.arm2_decode.specs.declared.names.Shift.TheVariants.{Lsl, Lsr, Asr, Ror}
use Rattle.arm2_decode.specs.Names.{register_number}
use Rattle.asm_text.specs.Names.{opcode_name}
use Rattle.asm_text.specs.Words.{branch_name}
use Rattle.asm_text.specs.Hex.{hex, hex_digit}
use Rattle.asm_text.proofs.HexLaws.{all_digits}
use Rattle.assembler.specs.Shown.{hex_line}
use Rattle.json_trace.specs.Json.{needs_no_escape}
use Rattle.arm2_decode.specs.Bits.{bit_of_word}
use Rattle.arm2_decode.specs.Transfers.{asks_for_user}
use Rattle.assembler.specs.ShownLines.{IsShown, amount_text, block_name, block_suffix, block_text, address_end, comma_register, compare_front, compare_text, cond_text, data_front, factors_text, flags_text, follows, is_plain, list_operand, list_text, listed, listed_below, load_name, mark_if, move_front, multiply_text, numbered, offset_text, base_end, operation_text, register_text, run_first, run_last, shift_text, shifted_text, shown_line, sign_text, single_immediate_text, single_register_text, shown_target, three_front, transfer_front, transfer_suffix, word_text}

is_spelled : ℕ → Bool
is_spelled b = needs_no_escape b

abbrev Spelled : List ℕ → Type 0
Spelled text = list_all is_spelled text ≡ true

both : (xs ys : List ℕ) → Spelled xs → Spelled ys → Spelled (xs ++ ys)
both [] ys h k = k
both (x ∷ xs) ys h k =
    let a = and_parts (is_spelled x) (list_all is_spelled xs) h in
    rw (a.0, both xs ys a.1 k) refl

one_of : (b : Bool) (xs ys : List ℕ) → Spelled xs → Spelled ys → Spelled (cond b xs ys)
one_of true xs ys h k = h
one_of false xs ys h k = k

-- ## Numbers

digits_spelled : (k base : ℕ) (upper : Bool) (n : ℕ) (acc : List ℕ) → ((m : ℕ) → is_spelled (digit_glyph upper (m % base)) ≡ true) → Spelled acc → Spelled (digits_onto k base upper n acc)
digits_spelled zero base upper n acc glyph h = h
digits_spelled (suc k) base upper n acc glyph h =
    let more : Spelled (digit_glyph upper (n % base) ∷ acc) = rw (glyph n, h) refl in
    one_of (n / base == 0) (digit_glyph upper (n % base) ∷ acc) (digits_onto k base upper (n / base) (digit_glyph upper (n % base) ∷ acc)) more
    (digits_spelled k base upper (n / base) (digit_glyph upper (n % base) ∷ acc) glyph more)

decimal_glyph : (m : ℕ) → is_spelled (digit_glyph false (m % 10)) ≡ true
unfolding is_spelled
decimal_glyph m = grind (arith, nat_tests)

hex_glyph : (m : ℕ) → is_spelled (digit_glyph true (m % 16)) ≡ true
unfolding is_spelled
hex_glyph m = grind (arith, nat_tests)

decimal_spelled : (n : ℕ) → Spelled (decimal n)
unfolding digits
decimal_spelled n = digits_spelled 64 10 false n [] decimal_glyph refl

hex_spelled : (n : ℕ) → Spelled (hex n)
unfolding digits
hex_spelled n = digits_spelled 64 16 true n [] hex_glyph refl

-- ## The parts

numbered_spelled : (n : ℕ) → Spelled (numbered n)
unfolding is_spelled
numbered_spelled n = both (codes "R") (decimal n) refl (decimal_spelled n)

register_spelled : (r : Register) → Spelled (register_text r)
register_spelled r = numbered_spelled (register_number r)

comma_spelled : (r : Register) → Spelled (comma_register r)
unfolding is_spelled
comma_spelled r = both (codes ",") (register_text r) refl (register_spelled r)

cond_spelled : (c : Cond) → Spelled (cond_text c)
unfolding is_spelled
cond_spelled Eq = refl
cond_spelled _ = refl

opcode_spelled : (op : Opcode) → Spelled (opcode_name op)
unfolding is_spelled
opcode_spelled And = refl
opcode_spelled _ = refl

shift_spelled : (s : Shift) → Spelled (shift_text s)
unfolding is_spelled
shift_spelled Lsl = refl
shift_spelled _ = refl

word_spelled : (name suffix : List ℕ) (c : Cond) → Spelled name → Spelled suffix → Spelled (word_text name c suffix)
unfolding is_spelled
word_spelled name suffix c h k = both name (cond_text c ++ (suffix ++ codes " ")) h (both (cond_text c) (suffix ++ codes " ") (cond_spelled c) (both suffix (codes " ") k refl))

flags_spelled : (s : Bool) → Spelled (flags_text s)
unfolding is_spelled
flags_spelled true = refl
flags_spelled false = refl

amount_spelled : (s : Shift) (n : ℕ) → Spelled (amount_text s n)
unfolding is_spelled
amount_spelled s n = both (shift_text s) (codes "#" ++ decimal n) (shift_spelled s) (both (codes "#") (decimal n) refl (decimal_spelled n))

shifted_spelled : (s : Shift) (n : ℕ) → Spelled (shifted_text s n)
unfolding is_spelled
shifted_spelled Lsl n = one_of (n == 0) [] (amount_text Lsl n) refl (amount_spelled Lsl n)
shifted_spelled Lsr n = amount_spelled Lsr (cond (n == 0) 32 n)
shifted_spelled Asr n = amount_spelled Asr (cond (n == 0) 32 n)
shifted_spelled Ror n = one_of (n == 0) (codes ",RRX") (amount_text Ror n) refl (amount_spelled Ror n)

-- ## Data processing

compare_spelled : (c : Cond) (op : Opcode) (rn rd : Register) → Spelled (compare_front c op rn rd)
unfolding is_spelled
compare_spelled c op rn rd =
    both (word_text (opcode_name op) c (compare_text rd)) (register_text rn ++ codes ",")
    (word_spelled (opcode_name op) (compare_text rd) c (opcode_spelled op) (one_of (register_number rd == 15) (codes "P") [] refl refl))
    (both (register_text rn) (codes ",") (register_spelled rn) refl)

move_spelled : (c : Cond) (op : Opcode) (s : Bool) (rd : Register) → Spelled (move_front c op s rd)
unfolding is_spelled
move_spelled c op s rd =
    both (word_text (opcode_name op) c (flags_text s)) (register_text rd ++ codes ",")
    (word_spelled (opcode_name op) (flags_text s) c (opcode_spelled op) (flags_spelled s))
    (both (register_text rd) (codes ",") (register_spelled rd) refl)

three_spelled : (c : Cond) (op : Opcode) (s : Bool) (rn rd : Register) → Spelled (three_front c op s rn rd)
unfolding is_spelled
three_spelled c op s rn rd =
    both (word_text (opcode_name op) c (flags_text s)) (register_text rd ++ (comma_register rn ++ codes ","))
    (word_spelled (opcode_name op) (flags_text s) c (opcode_spelled op) (flags_spelled s))
    (both (register_text rd) (comma_register rn ++ codes ",") (register_spelled rd) (both (comma_register rn) (codes ",") (comma_spelled rn) refl))

data_spelled : (c : Cond) (op : Opcode) (s : Bool) (rn rd : Register) → Spelled (data_front c op s rn rd)
data_spelled c Tst s rn rd = compare_spelled c Tst rn rd
data_spelled c Teq s rn rd = compare_spelled c Teq rn rd
data_spelled c Cmp s rn rd = compare_spelled c Cmp rn rd
data_spelled c Cmn s rn rd = compare_spelled c Cmn rn rd
data_spelled c Mov s rn rd = move_spelled c Mov s rd
data_spelled c Mvn s rn rd = move_spelled c Mvn s rd
data_spelled c op s rn rd = three_spelled c op s rn rd

-- ## Multiplies

factors_spelled : (x : Multiply) → Spelled (factors_text x)
factors_spelled x = both (register_text x.rd) (comma_register x.rm ++ comma_register x.rs) (register_spelled x.rd) (both (comma_register x.rm) (comma_register x.rs) (comma_spelled x.rm) (comma_spelled x.rs))

multiply_spelled : (c : Cond) (x : Multiply) → Spelled (multiply_text c x)
unfolding is_spelled
multiply_spelled c x =
    one_of x.accumulate
    (word_text (codes "MLA") c (flags_text x.sets_flags) ++ (factors_text x ++ comma_register x.rn))
    (word_text (codes "MUL") c (flags_text x.sets_flags) ++ factors_text x)
    (both (word_text (codes "MLA") c (flags_text x.sets_flags)) (factors_text x ++ comma_register x.rn) (word_spelled (codes "MLA") (flags_text x.sets_flags) c refl (flags_spelled x.sets_flags)) (both (factors_text x) (comma_register x.rn) (factors_spelled x) (comma_spelled x.rn)))
    (both (word_text (codes "MUL") c (flags_text x.sets_flags)) (factors_text x) (word_spelled (codes "MUL") (flags_text x.sets_flags) c refl (flags_spelled x.sets_flags)) (factors_spelled x))

-- ## Transfers

suffix_spelled : (byte user : Bool) → Spelled (transfer_suffix byte user)
unfolding is_spelled
suffix_spelled false false = refl
suffix_spelled true false = refl
suffix_spelled false true = refl
suffix_spelled true true = refl

load_spelled : (load : Bool) → Spelled (load_name load)
unfolding is_spelled
load_spelled true = refl
load_spelled false = refl

transfer_spelled : (c : Cond) (load byte user : Bool) (rd rn : Register) → Spelled (transfer_front c load byte user rd rn)
unfolding is_spelled
transfer_spelled c load byte user rd rn =
    both (word_text (load_name load) c (transfer_suffix byte user)) (register_text rd ++ (codes ",[" ++ register_text rn))
    (word_spelled (load_name load) (transfer_suffix byte user) c (load_spelled load) (suffix_spelled byte user))
    (both (register_text rd) (codes ",[" ++ register_text rn) (register_spelled rd) (both (codes ",[") (register_text rn) refl (register_spelled rn)))

base_end_spelled : (before : Bool) → Spelled (base_end before)
unfolding is_spelled
base_end_spelled true = refl
base_end_spelled false = refl

address_end_spelled : (before write_back : Bool) → Spelled (address_end before write_back)
unfolding is_spelled
address_end_spelled false write_back = refl
address_end_spelled true true = refl
address_end_spelled true false = refl

sign_spelled : (up : Bool) → Spelled (sign_text up)
unfolding is_spelled
sign_spelled true = refl
sign_spelled false = refl

offset_spelled : (before up : Bool) (n : ℕ) → Spelled (offset_text before up n)
unfolding is_spelled
offset_spelled before up n =
    both (base_end before) (codes "#" ++ (sign_text up ++ decimal n)) (base_end_spelled before)
    (both (codes "#") (sign_text up ++ decimal n) refl (both (sign_text up) (decimal n) (sign_spelled up) (decimal_spelled n)))

single_immediate_spelled : (c : Cond) (x : SingleImmediate) → Spelled (single_immediate_text c x)
single_immediate_spelled c x =
    both (transfer_front c x.load x.byte (asks_for_user x.before x.write_back) x.rd x.rn) (cond (is_plain x) [] (offset_text x.before x.up x.offset) ++ address_end x.before x.write_back)
    (transfer_spelled c x.load x.byte (asks_for_user x.before x.write_back) x.rd x.rn)
    (both (cond (is_plain x) [] (offset_text x.before x.up x.offset)) (address_end x.before x.write_back)
    (one_of (is_plain x) [] (offset_text x.before x.up x.offset) refl (offset_spelled x.before x.up x.offset)) (address_end_spelled x.before x.write_back))

single_register_spelled : (c : Cond) (x : SingleRegister) → Spelled (single_register_text c x)
single_register_spelled c x =
    let end = both (shifted_text x.shift x.amount) (address_end x.before x.write_back) (shifted_spelled x.shift x.amount) (address_end_spelled x.before x.write_back) in
    let operand = both (register_text x.rm) (shifted_text x.shift x.amount ++ address_end x.before x.write_back) (register_spelled x.rm) end in
    let signed = both (sign_text x.up) (register_text x.rm ++ (shifted_text x.shift x.amount ++ address_end x.before x.write_back)) (sign_spelled x.up) operand in
    both (transfer_front c x.load x.byte (asks_for_user x.before x.write_back) x.rd x.rn) (base_end x.before ++ (sign_text x.up ++ (register_text x.rm ++ (shifted_text x.shift x.amount ++ address_end x.before x.write_back))))
    (transfer_spelled c x.load x.byte (asks_for_user x.before x.write_back) x.rd x.rn)
    (both (base_end x.before) (sign_text x.up ++ (register_text x.rm ++ (shifted_text x.shift x.amount ++ address_end x.before x.write_back))) (base_end_spelled x.before) signed)

-- ## Blocks

listed_spelled : (list n : ℕ) → Spelled (listed list n)
unfolding is_spelled
listed_spelled list n =
    one_of (bit_of_word list n) (cond (follows list n) (run_last list n) (run_first list n)) []
    (one_of (follows list n) (run_last list n) (run_first list n)
    (one_of (bit_of_word list (n + 1)) [] (codes "-" ++ numbered n) refl (both (codes "-") (numbered n) refl (numbered_spelled n)))
    (both (cond (list % 2 ^ n == 0) [] (codes ",")) (numbered n) (one_of (list % 2 ^ n == 0) [] (codes ",") refl refl) (numbered_spelled n)))
    refl

below_spelled : (list n : ℕ) → Spelled (listed_below list n)
below_spelled list zero = refl
below_spelled list (suc n) = both (listed_below list n) (listed list n) (below_spelled list n) (listed_spelled list n)

mark_spelled : (is_set : Bool) (mark : List ℕ) → Spelled mark → Spelled (mark_if is_set mark)
mark_spelled true mark h = h
mark_spelled false mark h = refl

list_spelled : (list : ℕ) (user : Bool) → Spelled (list_operand list user)
unfolding is_spelled
list_spelled list user =
    let registers = both (codes "{") (listed_below list 16 ++ codes "}") refl (both (listed_below list 16) (codes "}") (below_spelled list 16) refl) in
    both (codes ",") (list_text list ++ mark_if user (codes "^")) refl (both (list_text list) (mark_if user (codes "^")) registers (mark_spelled user (codes "^") refl))

block_name_spelled : (load : Bool) → Spelled (block_name load)
unfolding is_spelled
block_name_spelled true = refl
block_name_spelled false = refl

block_suffix_spelled : (before up : Bool) → Spelled (block_suffix before up)
unfolding is_spelled
block_suffix_spelled false true = refl
block_suffix_spelled true true = refl
block_suffix_spelled false false = refl
block_suffix_spelled true false = refl

block_spelled : (c : Cond) (x : Block) → Spelled (block_text c x)
unfolding is_spelled
block_spelled c x =
    let end = both (mark_if x.write_back (codes "!")) (list_operand x.list x.user) (mark_spelled x.write_back (codes "!") refl) (list_spelled x.list x.user) in
    both (word_text (block_name x.load) c (block_suffix x.before x.up)) (register_text x.rn ++ (mark_if x.write_back (codes "!") ++ list_operand x.list x.user))
    (word_spelled (block_name x.load) (block_suffix x.before x.up) c (block_name_spelled x.load) (block_suffix_spelled x.before x.up))
    (both (register_text x.rn) (mark_if x.write_back (codes "!") ++ list_operand x.list x.user) (register_spelled x.rn) end)

-- ## Any

branch_spelled : (link : Bool) → Spelled (branch_name link)
unfolding is_spelled
branch_spelled true = refl
branch_spelled false = refl

operation_spelled : (c : Cond) (o : Operation) (at : ℕ) → Spelled (operation_text c o at)
unfolding is_spelled
operation_spelled c (operation.Multiply x) at = multiply_spelled c x
operation_spelled c (operation.DataRegister x) at =
    both (data_front c x.opcode x.sets_flags x.rn x.rd) (register_text x.rm ++ shifted_text x.shift x.amount) (data_spelled c x.opcode x.sets_flags x.rn x.rd)
    (both (register_text x.rm) (shifted_text x.shift x.amount) (register_spelled x.rm) (shifted_spelled x.shift x.amount))
operation_spelled c (operation.DataRegisterShift x) at =
    both (data_front c x.opcode x.sets_flags x.rn x.rd) (register_text x.rm ++ (shift_text x.shift ++ register_text x.rs)) (data_spelled c x.opcode x.sets_flags x.rn x.rd)
    (both (register_text x.rm) (shift_text x.shift ++ register_text x.rs) (register_spelled x.rm) (both (shift_text x.shift) (register_text x.rs) (shift_spelled x.shift) (register_spelled x.rs)))
operation_spelled c (operation.DataImmediate x) at =
    both (data_front c x.opcode x.sets_flags x.rn x.rd) (codes "#" ++ decimal (rotate_right w32 x.value (2 * x.rotation))) (data_spelled c x.opcode x.sets_flags x.rn x.rd)
    (both (codes "#") (decimal (rotate_right w32 x.value (2 * x.rotation))) refl (decimal_spelled (rotate_right w32 x.value (2 * x.rotation))))
operation_spelled c (operation.SingleImmediate x) at = single_immediate_spelled c x
operation_spelled c (operation.SingleRegister x) at = single_register_spelled c x
operation_spelled c (operation.Block x) at = block_spelled c x
operation_spelled c (operation.Branch x) at =
    both (word_text (branch_name x.link) c []) (codes "&" ++ hex (shown_target at x.offset)) (word_spelled (branch_name x.link) [] c (branch_spelled x.link) refl)
    (both (codes "&") (hex (shown_target at x.offset)) refl (hex_spelled (shown_target at x.offset)))
operation_spelled c (operation.Swi x) at = both (word_text (codes "SWI") c []) (decimal x.comment) (word_spelled (codes "SWI") [] c refl refl) (decimal_spelled x.comment)
operation_spelled c _ at = refl

-- ## A word's line

plain_text : (text : List ℕ) → Spelled text → list_all needs_no_escape text ≡ true
unfolding is_spelled
plain_text text h = h

digit_plain : (d : ℕ) → d < 16 → needs_no_escape (hex_digit d) ≡ true
digit_plain d lt = grind (arith, nat_tests, lt)

hex_plain : (word : ℕ) → list_all needs_no_escape (hex_line word) ≡ true
hex_plain word = all_digits needs_no_escape 8 word digit_plain

-- of a spelling, or else of a DCD line
pub line_plain : (word at : ℕ) (line : List ℕ) → IsShown word at line → list_all needs_no_escape line ≡ true
line_plain word at line shown = elim (cases_Bool (list_all needs_no_escape line)) [
  | inl all ↦ all
  | inr other ↦ ap (list_all needs_no_escape) (shown.dcd (λ i means gives.
      absurd (false≢true (sym other ∙ ap (list_all needs_no_escape) (shown.spelled i means gives)
      ∙ plain_text (shown_line i at) (operation_spelled i.cond i.operation at))))) ∙ hex_plain word
]
