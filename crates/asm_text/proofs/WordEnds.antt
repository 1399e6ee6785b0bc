-- After the word of a line that is spelled comes a blank or nothing.
use Rattle.std.proofs.Common.{◌≡◌, ◌+◌, ◌<◌, ℕ, suc, Bool, true, false, List, [], ◌∷◌, ◌++◌, length, Option, Some, None, refl, arith}
use Rattle.std.specs.List.{list_all, prefix_len}
use Rattle.std.proofs.lemmas.Bool.{and_parts}
use Rattle.std.proofs.lemmas.Bool.Decides.{nat_tests}
use Rattle.asm_text.specs.Lines.{IsBlanks, Written}
use Rattle.asm_text.specs.Pieces.{Piece, Run, Gap, is_blank, is_name}
use Rattle.asm_text.specs.Said.{Said}
use Rattle.asm_text.specs.Spelling.{SpellsParts}
use Rattle.asm_text.specs.Statements.{begins_blank_or_ends, drop_while, word_ends}
use Rattle.asm_text.proofs.PieceLaws.{first_passes, name_no_blank}

-- ## Fronts

pub drop_while_front : (sort : ℕ → Bool) (front rest : List ℕ) → list_all sort front ≡ true → first_passes sort rest ≡ false → drop_while sort (front ++ rest) ≡ rest
drop_while_front sort [] [] h k = refl
drop_while_front sort [] (b ∷ rest) h k = rw k refl
drop_while_front sort (b ∷ front) rest h k =
    let m = and_parts (sort b) (list_all sort front) h in
    let n : 1 + prefix_len sort (front ++ rest) ≡ suc (prefix_len sort (front ++ rest)) = omega arith in
    rw (m.0, n) (drop_while_front sort front rest m.1 k)

drop_while_none : (sort : ℕ → Bool) (text : List ℕ) → first_passes sort text ≡ false
    → drop_while sort text ≡ text
drop_while_none sort text h = drop_while_front sort [] text refl h

pub blank_no_name : (b : ℕ) → is_blank b ≡ true → is_name b ≡ false
blank_no_name b h = grind (arith, nat_tests)

-- ## What the front of a text is

gap_ends : (gap rest : List ℕ) → 0 < length gap → IsBlanks gap → begins_blank_or_ends (gap ++ rest) ≡ true
gap_ends [] rest lt h = absurd (omega arith)
gap_ends (b ∷ gap) rest lt h = (and_parts (is_blank b) (list_all is_blank gap) h).0

pub gap_no_name : (gap rest : List ℕ) → 0 < length gap → IsBlanks gap → first_passes is_name (gap ++ rest) ≡ false
gap_no_name [] rest lt h = absurd (omega arith)
gap_no_name (b ∷ gap) rest lt h = blank_no_name b (and_parts (is_blank b) (list_all is_blank gap) h).0

pub blanks_no_name : (text : List ℕ) → IsBlanks text → first_passes is_name text ≡ false
blanks_no_name [] h = refl
blanks_no_name (b ∷ bs) h = blank_no_name b (and_parts (is_blank b) (list_all is_blank bs) h).0

pub name_no_gap : (name rest : List ℕ) → 0 < length name → list_all is_name name ≡ true → first_passes is_blank (name ++ rest) ≡ false
name_no_gap [] rest lt h = absurd (omega arith)
name_no_gap (b ∷ name) rest lt h = name_no_blank b (and_parts (is_name b) (list_all is_name name) h).0

pub drop_while_blanks : (text : List ℕ) → IsBlanks text → drop_while is_blank text ≡ []
drop_while_blanks [] h = refl
drop_while_blanks (b ∷ bs) h =
    let m = and_parts (is_blank b) (list_all is_blank bs) h in
    let n : 1 + prefix_len is_blank bs ≡ suc (prefix_len is_blank bs) = omega arith in
    rw (m.0, n) (drop_while_blanks bs m.1)

-- ## The parts of a line

-- a word and a gap
word_first : (name : List ℕ) (ps : List Piece) (text : List ℕ) → Written (Run name ∷ Gap ∷ ps) text → begins_blank_or_ends (drop_while is_name text) ≡ true
word_first name ps text (after, is, some, names, (gap, rest, gap_is, more, blanks, w)) =
    let ends : begins_blank_or_ends after ≡ true = rw gap_is (gap_ends gap rest more blanks) in
    let stops : first_passes is_name after ≡ false = rw gap_is (gap_no_name gap rest more blanks) in
    rw (is, drop_while_front is_name name after names stops) ends

-- after blanks and a name comes a blank or nothing
abbrev pub WordAfter : List ℕ → Type 0
WordAfter text = begins_blank_or_ends (drop_while is_name (drop_while is_blank text)) ≡ true

-- a gap, a word and a gap
gap_first : (name : List ℕ) (ps : List Piece) (text : List ℕ) → Written (Gap ∷ Run name ∷ Gap ∷ ps) text → (first_passes is_name text ≡ false) × WordAfter text
gap_first name ps text (gap, after, is, some, blanks, w) =
    let stops : first_passes is_blank after ≡ false = rw w.1 (name_no_gap name w.0 w.2 w.3) in
    (rw is (gap_no_name gap after some blanks), rw (is, drop_while_front is_blank gap after blanks stops) (word_first name ps after w))

pub blanks_alone : (text : List ℕ) → IsBlanks text → WordAfter text
blanks_alone text h = rw (drop_while_blanks text h) refl

pub parts_end : (label : Option (List ℕ)) (x : Option Said) (ps : List Piece) (text : List ℕ) → Written ps text → SpellsParts label x ps → word_ends text ≡ true
parts_end None None ps text w h =
    let blanks : IsBlanks text = rw h at w in
    rw (drop_while_none is_name text (blanks_no_name text blanks)) (blanks_alone text blanks)
parts_end None (Some x) ps text w (rest, is, said) =
    let front = gap_first said.name said.rest text (rw (is, said.spelled) at w) in
    rw (drop_while_none is_name text front.0) front.1
parts_end (Some name) None ps text w (is, label) =
    let (after, text_is, some, names, blanks) = rw is at w in
    rw (text_is, drop_while_front is_name name after names (blanks_no_name after blanks)) (blanks_alone after blanks)
parts_end (Some name) (Some x) ps text w (rest, is, label, said) =
    let (after, text_is, some, names, more) = rw (is, said.spelled) at w in
    let front = gap_first said.name said.rest after more in
    rw (text_is, drop_while_front is_name name after names front.0) front.1
