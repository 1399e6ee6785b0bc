-- A DCD line assembles to its word; a line that is read again.
use Rattle.std.proofs.Common.{◌≡◌, ℕ, zero, suc, ◌*◌, ◌/◌, ◌%◌, ◌^◌, ◌<◌, ◌≤◌, true, ltb, List, [], ◌∷◌, ◌++◌, length, Option, Some, None, Result, Ok, Err, codes, refl, sym, ap, subst, ◌∙◌, length-append, arith}
use Rattle.std.specs.Prelude.{decimal}
use Rattle.std.proofs.lemmas.Fmt.{length-decimal-le}
use Rattle.std.specs.List.{list_all}
use Rattle.std.specs.Char.{is_digit, digit_value}
use Rattle.std.specs.Str.Parse.{digits_value}
use Rattle.std.proofs.lemmas.Int.Digits.{digits_value_push}
use Rattle.std.proofs.lemmas.List.{append-nil}
use Rattle.std.proofs.lemmas.Bool.{lt-ltb}
use Rattle.std.proofs.lemmas.Bool.Decides.{nat_tests}
use Rattle.std.specs.Result.{result_ok}
use Rattle.asm_text.specs.declared.printed_lines.Shown.TheVariants as shown
use Rattle.asm_text.specs.declared.token.Mark.TheVariants.{Ampersand}
use Rattle.asm_text.specs.declared.word.Word.TheVariants.{Dcd}
use Rattle.asm_text.specs.Pieces.{Run, Sign, Gap, is_name, pieces}
use Rattle.asm_text.specs.Hex.{hex8, hex_digit, hex_digits}
use Rattle.asm_text.specs.Lines.{Written}
use Rattle.asm_text.specs.Numbers.{digits_of, fits, number_by}
use Rattle.asm_text.specs.Said.{Number, Codes, Refers, Lists}
use Rattle.asm_text.specs.Shown.{is_shown}
use Rattle.asm_text.specs.Statements.{statement_of}
use Rattle.asm_text.specs.Words.{spelled_word_of, word_of}
use Rattle.asm_text.proofs.HexLaws.{all_digits}
use Rattle.asm_text.proofs.PieceLaws.{pieces_again}
use Rattle.asm_text.proofs.ShownLaws.{shown_line, upper_spelled}
use Rattle.assembler.specs.Codes.{encoded, refer}
use Rattle.assembler.specs.declared.fault.LineFault.{LineFault}
use Rattle.assembler.specs.declared.fault.LineFault.TheVariants.{NotText}
use Rattle.arm2_decode.specs.declared.instr.Instr.{Instr}
use Rattle.arm2_decode.specs.declared.instr.Unallocated.{Unallocated}
use Rattle.arm2_decode.specs.Table.{Means}
use Rattle.asm_text.specs.declared.syntax.Use.{Use}
use Rattle.asm_text.specs.declared.syntax.Use.TheVariants as use_of
use Rattle.assembler.specs.ShownLines.{AssemblesBack, IsShown, numbered, shown_line as spelling, target_word}
use Rattle.assembler.specs.Shown.{AssemblesTo, hex_line}

-- ## What assembles back to a word is a line of it

abbrev ok_by : Option ℕ → Result ℕ LineFault
ok_by None = Err NotText
ok_by (Some w) = Ok w

given_ok : (r : Result ℕ LineFault) (w : ℕ) → result_ok r ≡ Some w → r ≡ Ok w
given_ok (Ok v) w h = ap ok_by h
given_ok (Err fault) w h = absurd cc

target_ok : (u : Use) (r : Result ℕ LineFault) (w : ℕ) → target_word u r ≡ Some w → r ≡ Ok w
target_ok (use_of.Branch link) (Ok v) w h = ap ok_by h
target_ok u r w h = absurd cc

pub back_gives : (text : List ℕ) (at w : ℕ) → AssemblesBack text at w → AssemblesTo text at w
back_gives text at w (shown.Code c, line, word) = (Codes c, line, given_ok (encoded c at) w word)
back_gives text at w (shown.Refer r n, line, word) = (Refers r (Number n), line, target_ok r.how (encoded (refer r at n) at) w word)

pub and_none : (text : List ℕ) → text ++ [] ≡ text
and_none text = append-nil text

-- ## Lengths

pub decimal_wide : (n : ℕ) → n < 2 ^ 32 → length (decimal n) ≤ 10
decimal_wide n lt = length-decimal-le 10 n (omega arith) (omega arith) (omega arith)

pub numbered_short : (n : ℕ) → n < 16 → length (numbered n) ≤ 3
numbered_short n lt = omega (arith, length-append (codes "R") (decimal n), length-decimal-le 2 n (omega arith) (omega arith) (omega arith))

-- ## Hexadecimal digits

char_value : (d : ℕ) → d < 16 → digit_value (hex_digit d) ≡ d
char_value d lt = grind (arith, nat_tests)

char_name : (d : ℕ) → d < 16 → is_name (hex_digit d) ≡ true
char_name d lt = grind (arith, nat_tests)

char_shown : (d : ℕ) → d < 16 → is_shown (hex_digit d) ≡ true
char_shown d lt = grind (arith, nat_tests)

char_digit : (d : ℕ) → d < 16 → is_digit (hex_digit d) 16 ≡ true
char_digit d lt = ap (λ (v : ℕ). ltb v 16) (char_value d lt) ∙ lt-ltb d 16 lt

abbrev room : ℕ → ℕ
room zero = 1
room (suc k) = 16 * room k

chars_value : (k n : ℕ) → n < room k → digits_value 16 (hex_digits k n) ≡ n
chars_value zero n lt = omega arith
chars_value (suc k) n lt =
    let before = chars_value k (n / 16) (omega arith) in
    omega (arith, digits_value_push 16 (hex_digits k (n / 16)) (hex_digit (n % 16)), char_value (n % 16) (omega arith), before)

eight : (w : ℕ) → w < 2 ^ 32 → number_by 16 (hex8 w) ≡ Some w
eight w lt =
    let digits : digits_of 16 (hex8 w) ≡ Some (digits_value 16 (hex8 w)) = rw (all_digits (λ c. is_digit c 16) 8 w char_digit) refl in
    ap fits digits ∙ ap (λ (n : ℕ). fits (Some n)) (chars_value 8 w (omega arith)) ∙ rw (lt-ltb w (2 ^ 32) lt) refl

-- ## The line

dcd_word : spelled_word_of (codes "DCD") ≡ Some Dcd
dcd_word = upper_spelled (codes "DCD") refl ∙ (let one : word_of (codes "DCD") ≡ Some Dcd = unfold word_of in refl in one)

dcd_pieces : (w : ℕ) → pieces (hex_line w) ≡ Run (codes "DCD") ∷ Gap ∷ Sign Ampersand ∷ Run (hex8 w) ∷ []
dcd_pieces w =
    let hex = hex8 w in
    let end : Written (Run hex ∷ []) hex = ([], sym (append-nil hex), omega arith, all_digits is_name 8 w char_name, refl) in
    let sign : Written (Sign Ampersand ∷ Run hex ∷ []) (38 ∷ hex) = (38, hex, refl, refl, refl, refl, refl, end) in
    let gap : Written (Gap ∷ Sign Ampersand ∷ Run hex ∷ []) (32 ∷ 38 ∷ hex) = (32 ∷ [], 38 ∷ hex, refl, omega arith, refl, sign) in
    let word : Written (Run (codes "DCD") ∷ Gap ∷ Sign Ampersand ∷ Run hex ∷ []) (hex_line w) = (32 ∷ 38 ∷ hex, refl, omega arith, refl, gap) in
    pieces_again (Run (codes "DCD") ∷ Gap ∷ Sign Ampersand ∷ Run hex ∷ []) (hex_line w) word (refl, (refl, (refl, tt)))

dcd_values : (o : Option ℕ) (w : ℕ) → o ≡ Some w → number_by 16 (hex8 w) ≡ o → statement_of (Run (codes "DCD") ∷ Gap ∷ Sign Ampersand ∷ Run (hex8 w) ∷ []) ≡ Ok (Lists (Number w ∷ []))
dcd_values o w e is = rw (dcd_word, is, e) refl

pub dcd_gives : (w at : ℕ) → w < 2 ^ 32 → AssemblesTo (hex_line w) at w
dcd_gives w at lt =
    let shown-all : list_all is_shown (hex_line w) ≡ true = rw (all_digits is_shown 8 w char_shown) refl in
    let statement = ap statement_of (dcd_pieces w) ∙ dcd_values (Some w) w refl (eight w lt) in
    (Lists (Number w ∷ []), shown_line (hex_line w) (Lists (Number w ∷ [])) shown-all (rw (dcd_pieces w) refl) statement, refl)

-- ## The line that is shown

abbrev spelling_by : ℕ → Result Instr Unallocated → List ℕ
spelling_by at (Ok i) = spelling i at
spelling_by at (Err u) = []

pub same_spelling : (a i : Instr) (at : ℕ) (r : Result Instr Unallocated) → r ≡ Ok a → r ≡ Ok i → spelling a at ≡ spelling i at
same_spelling a i at r p q = ap (spelling_by at) (sym p ∙ q)

-- a spelling that assembles back to its word is the line
pub spelled_shown : (word at : ℕ) (line : List ℕ) (instr : Instr) → ((i : Instr) → Means word i → spelling instr at ≡ spelling i at) → Means word instr
    → line ≡ spelling instr at → AssemblesBack line at word → IsShown word at line
spelled_shown word at line instr only means is back = record {
  assembles = back_gives line at word back;
  spelled = λ i m b. is ∙ only i m;
  dcd = λ none. absurd (none instr means (subst (λ (t : List ℕ). AssemblesTo t at word) is (back_gives line at word back)));
}

-- where none does, it is a DCD line
pub hex_shown : (word at : ℕ) (line : List ℕ) → word < 2 ^ 32 → line ≡ hex_line word → ((i : Instr) → Means word i → AssemblesTo (spelling i at) at word → ⊥) → IsShown word at line
hex_shown word at line below is none = record {
  assembles = subst (λ (t : List ℕ). AssemblesTo t at word) (sym is) (dcd_gives word at below);
  spelled = λ i m b. absurd (none i m b);
  dcd = λ k. is;
}
