-- A line in upper case, after its blank.
use Rattle.std.proofs.Common.{◌≡◌, ℕ, ◌≤◌, Bool, true, false, cond, not, ◌==◌, ◌&&◌, List, [], ◌∷◌, length, take_all, Option, Some, None, Result, Ok, Err, refl, sym, ap, ◌∙◌, arith}
use Rattle.std.specs.Prelude.{nat_le, option_and_then, option_map}
use Rattle.std.specs.Char.{is_ascii_lowercase, to_ascii_uppercase}
use Rattle.std.specs.List.{list_all}
use Rattle.std.proofs.Math.Seq.{drop-length}
use Rattle.std.proofs.lemmas.Bool.{and_parts}
use Rattle.std.proofs.lemmas.Bool.Decides.{nat_tests}
use Rattle.asm_text.proofs.WordLaws.{same_bytes}
use Rattle.asm_text.specs.Pieces.{Piece, Run, Comma, Sign, Gap, gap_before, is_blank, is_name, mark_of, name_before, pieces, without_gap}
use Rattle.asm_text.specs.Said.{Target, Number, Said, Codes, Refers, Orgs, Lists}
use Rattle.asm_text.specs.declared.printed_lines.Shown.{Shown}
use Rattle.asm_text.specs.declared.printed_lines.Shown.TheVariants as shown
use Rattle.asm_text.specs.declared.statement.TextFault.{TextFault}
use Rattle.asm_text.specs.declared.statement.TextFault.TheVariants.{UnknownWord}
use Rattle.asm_text.specs.Lines.{starts_run}
use Rattle.asm_text.specs.Shown.{is_shown, is_shown_text, is_upper, parsed_shown, shown_in, shown_result, shown_said, upper_pieces}
use Rattle.asm_text.specs.Statements.{Parsed, body_len, body_says, is_in_body, is_text, line_of, or_bad, parsed, statement_of, with_label}
use Rattle.asm_text.specs.Words.{is_one_case, spelled_word_of, upper, word_of}
use Rattle.asm_text.proofs.SpelledLines.{body_is, body_said}

upper_byte : (b : ℕ) → not (is_ascii_lowercase b) ≡ true → to_ascii_uppercase b ≡ b
upper_byte b h = grind (arith, nat_tests)

upper_same : (text : List ℕ) → is_upper text ≡ true → upper text ≡ text
upper_same [] h = refl
upper_same (b ∷ bs) h =
    let k = and_parts (not (is_ascii_lowercase b)) (is_upper bs) h in
    rw (upper_byte b k.0, upper_same bs k.1) refl

pub upper_spelled : (text : List ℕ) → is_upper text ≡ true → spelled_word_of text ≡ word_of text
upper_spelled text h =
    let same = upper_same text h in
    let one : is_one_case text ≡ true = rw (same, same_bytes text) refl in
    rw (one, same) refl

shown_text : (b : ℕ) → is_shown b ≡ true → is_text b ≡ true
shown_text b h = grind (arith, nat_tests)

shown_body : (b : ℕ) → is_shown b ≡ true → is_in_body b ≡ true
shown_body b h = (and_parts (nat_le 32 b && nat_le b 126) (is_in_body b) h).1

all_body : (text : List ℕ) → list_all is_shown text ≡ true → body_len text ≡ length text
all_body [] h = refl
all_body (b ∷ bs) h =
    let k = and_parts (is_shown b) (list_all is_shown bs) h in
    rw (shown_body b k.0) (omega (arith, all_body bs k.1))

all_text : (text : List ℕ) → list_all is_shown text ≡ true → list_all is_text text ≡ true
all_text [] h = refl
all_text (b ∷ bs) h =
    let k = and_parts (is_shown b) (list_all is_shown bs) h in
    rw (shown_text b k.0, all_text bs k.1) refl

gap_parsed : (ps : List Piece) → starts_run ps ≡ true → parsed (gap_before ps) ≡ with_label None (statement_of ps)
gap_parsed (Run r ∷ ps) h = refl
gap_parsed ps h = absurd cc

pub blank_pieces : (text : List ℕ) → pieces (32 ∷ text) ≡ gap_before (pieces text)
unfolding pieces
blank_pieces text = refl

whole_line : (line : List ℕ) → list_all is_shown line ≡ true → line_of line ≡ body_says line
whole_line line h =
    let n = all_body line h in
    rw (n, take_all (length line) line (omega arith), drop-length line, all_text line h) refl

-- a line after its blank, by its pieces
read_blank : (text : List ℕ) (p : Parsed) → list_all is_shown text ≡ true → parsed (gap_before (pieces text)) ≡ Ok p → line_of (32 ∷ text) ≡ Ok p
read_blank text p h e = whole_line (32 ∷ text) h ∙ body_said (32 ∷ text) p (ap parsed (blank_pieces text) ∙ e)

blank_read : (text : List ℕ) (p : Parsed) → list_all is_shown text ≡ true → line_of (32 ∷ text) ≡ Ok p → parsed (gap_before (pieces text)) ≡ Ok p
blank_read text p h e = ap parsed (sym (blank_pieces text)) ∙ body_is (32 ∷ text) p (sym (whole_line (32 ∷ text) h) ∙ e)

pub shown_line : (text : List ℕ) (x : Said) → list_all is_shown text ≡ true → starts_run (pieces text) ≡ true → statement_of (pieces text) ≡ Ok x → line_of (32 ∷ text) ≡ Ok (record { label = None; said = Some x })
shown_line text x h run e = read_blank text (record { label = None; said = Some x }) h (gap_parsed (pieces text) run ∙ ap (with_label None) e)

-- ## What is read, exactly

pub lists_hidden : (vs : Option (List Target)) → shown_result (or_bad (option_map Lists vs)) ≡ None
lists_hidden None = refl
lists_hidden (Some vs) = refl

pub orgs_hidden : (n : Option ℕ) → shown_result (or_bad (option_map Orgs n)) ≡ None
orgs_hidden None = refl
orgs_hidden (Some n) = refl

upper_named : (b : ℕ) (ps : List Piece) → not (is_ascii_lowercase b) ≡ true → upper_pieces ps ≡ true → upper_pieces (name_before b ps) ≡ true
upper_named b [] u h = rw u refl
upper_named b (Run r ∷ ps) u h = rw u h
upper_named b ps u h = rw (u, h) refl

upper_gap : (ps : List Piece) → upper_pieces ps ≡ true → upper_pieces (gap_before ps) ≡ true
upper_gap (Run r ∷ ps) h = h
upper_gap ps h = h

pub upper_ungapped : (ps : List Piece) → upper_pieces ps ≡ true → upper_pieces (without_gap ps) ≡ true
upper_ungapped (Gap ∷ ps) h = h
upper_ungapped ps h = h

upper_by : (blank name comma : Bool) (b : ℕ) (ps : List Piece) → not (is_ascii_lowercase b) ≡ true → upper_pieces ps ≡ true
    → upper_pieces (cond blank (gap_before ps) (cond name (name_before b ps) (cond comma (Comma ∷ without_gap ps) (Sign (mark_of b) ∷ ps)))) ≡ true
upper_by true name comma b ps u h = upper_gap ps h
upper_by false true comma b ps u h = upper_named b ps u h
upper_by false false true b ps u h = upper_ungapped ps h
upper_by false false false b ps u h = h

pub upper_text : (text : List ℕ) → is_upper text ≡ true → upper_pieces (pieces text) ≡ true
unfolding pieces
upper_text [] h = refl
upper_text (b ∷ bs) h =
    let k = and_parts (not (is_ascii_lowercase b)) (is_upper bs) h in
    upper_by (is_blank b) (is_name b) (b == 44) b (pieces bs) k.0 (upper_text bs k.1)

pub upper_run : (r : List ℕ) (ps : List Piece) → upper_pieces (Run r ∷ ps) ≡ true → is_upper r ≡ true
upper_run r ps h = (and_parts (is_upper r) (upper_pieces ps) h).0

abbrev line_by : Option Shown → Result Parsed TextFault
line_by None = Err UnknownWord
line_by (Some s) = Ok (parsed_shown s)

abbrev shown_by : Result Parsed TextFault → Option Shown
shown_by (Ok p) = option_and_then shown_in p.said
shown_by (Err fault) = None

shown_again : (s : Shown) → shown_in (shown_said s) ≡ Some s
shown_again (shown.Code c) = refl
shown_again (shown.Refer r n) = refl

-- what a line says alone is its statement

said_alone : (r : Result Said TextFault) (s : Shown) → shown_result r ≡ Some s → with_label None r ≡ Ok (parsed_shown s)
said_alone (Ok (Codes c)) s h = ap line_by h
said_alone (Ok (Refers r (Number n))) s h = ap line_by h
said_alone _ s h = absurd cc

label_free : (r : Result Said TextFault) → shown_by (with_label None r) ≡ shown_result r
label_free (Ok s) = refl
label_free (Err fault) = refl

alone_said : (r : Result Said TextFault) (s : Shown) → with_label None r ≡ Ok (parsed_shown s) → shown_result r ≡ Some s
alone_said r s h = sym (label_free r) ∙ ap shown_by h ∙ shown_again s

-- the same of a line's pieces after a blank

pieces_alone : (ps : List Piece) (s : Shown) → shown_result (statement_of (without_gap ps)) ≡ Some s → parsed (gap_before ps) ≡ Ok (parsed_shown s)
pieces_alone [] s h = absurd cc
pieces_alone (Run r ∷ ps) s h = said_alone (statement_of (Run r ∷ ps)) s h
pieces_alone (Comma ∷ ps) s h = absurd cc
pieces_alone (Sign m ∷ ps) s h = absurd cc
pieces_alone (Gap ∷ ps) s h = said_alone (statement_of ps) s h

alone_pieces : (ps : List Piece) (s : Shown) → parsed (gap_before ps) ≡ Ok (parsed_shown s) → shown_result (statement_of (without_gap ps)) ≡ Some s
alone_pieces [] s h = ap shown_by h ∙ shown_again s
alone_pieces (Run r ∷ ps) s h = alone_said (statement_of (Run r ∷ ps)) s h
alone_pieces (Comma ∷ ps) s h = ap shown_by h ∙ shown_again s
alone_pieces (Sign m ∷ ps) s h = ap shown_by h ∙ shown_again s
alone_pieces (Gap ∷ ps) s h = alone_said (statement_of ps) s h

bytes_shown : (text : List ℕ) → is_shown_text text ≡ true → list_all is_shown text ≡ true
bytes_shown text h = (and_parts (list_all is_shown text) (is_upper text) (and_parts (list_all is_shown text && is_upper text) (nat_le (length text) 64) h).0).0

pub blank_line : (text : List ℕ) (p : Parsed) → is_shown_text text ≡ true → line_of (32 ∷ text) ≡ Ok p → parsed (gap_before (pieces text)) ≡ Ok p
blank_line text p h e = blank_read text p (bytes_shown text h) e

pub upper_shown : (text : List ℕ) → is_shown_text text ≡ true → upper_pieces (pieces text) ≡ true
upper_shown text h = upper_text text (and_parts (list_all is_shown text) (is_upper text) (and_parts (list_all is_shown text && is_upper text) (nat_le (length text) 64) h).0).1

pub short_shown : (text : List ℕ) → is_shown_text text ≡ true → length text ≤ 64
short_shown text h = grind (arith, nat_tests, (and_parts (list_all is_shown text && is_upper text) (nat_le (length text) 64) h).1)

pub line_shown : (text : List ℕ) (s : Shown) → is_shown_text text ≡ true → shown_result (statement_of (without_gap (pieces text))) ≡ Some s → line_of (32 ∷ text) ≡ Ok (parsed_shown s)
line_shown text s h e = read_blank text (parsed_shown s) (bytes_shown text h) (pieces_alone (pieces text) s e)

pub shown_from : (text : List ℕ) (s : Shown) → is_shown_text text ≡ true → line_of (32 ∷ text) ≡ Ok (parsed_shown s) → shown_result (statement_of (without_gap (pieces text))) ≡ Some s
shown_from text s h e = alone_pieces (pieces text) s (blank_line text (parsed_shown s) h e)
