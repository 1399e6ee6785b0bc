-- A line that cannot be read, by its text.
use Rattle.std.specs.Prelude.{if◌then◌else◌}
use Rattle.std.proofs.Common.{◌≡◌, ◌+◌, ◌<◌, ◌≤◌, ◌==◌, ℕ, suc, Bool, true, false, List, [], ◌∷◌, ◌++◌, length, drop, Option, Some, None, Result, Ok, Err, refl, sym, ap, subst, ◌∙◌, inl, inr, ◌⊎◌, arith, eqb-true, append_assoc}
use Rattle.std.specs.List.{list_all}
use Rattle.std.proofs.lemmas.Bool.{and_parts, cases_Bool}
use Rattle.std.proofs.lemmas.Bool.Decides.{nat_tests}
use Rattle.std.proofs.lemmas.List.{take-append-drop}
use Rattle.std.proofs.lemmas.List.Folds.{list_all-append}
use Rattle.std.proofs.lemmas.Option.{none-some}
use Rattle.asm_text.specs.Lines.{IsBlanks, WellSpaced, Written, starts_run}
use Rattle.asm_text.specs.Names.{head_of}
use Rattle.asm_text.specs.Pieces.{Piece, Run, Comma, Sign, Gap, gap_before, is_blank, is_name, pieces}
use Rattle.asm_text.specs.Said.{Said}
use Rattle.asm_text.specs.Spelling.{Spells}
use Rattle.asm_text.specs.Statements.{Parsed, begins_blank_or_ends, after_label, after_word, body, body_len, is_comment_text, is_in_body, is_label, is_text, is_text_line, line_of, operands_of, or_bad, parsed, drop_while, statement_of, with_label, with_word, word_ends}
use Rattle.asm_text.specs.Words.{IsSpelling, spelled_word_of, word_of}
use Rattle.asm_text.specs.declared.word.Word.{Word}
use Rattle.asm_text.specs.declared.statement.TextFault.{TextFault}
use Rattle.asm_text.specs.declared.statement.TextFault.TheVariants as text_fault
use Rattle.asm_text.proofs.PieceLaws.{first_name, first_no_run, first_passes, pieces-blanks, pieces-gap, pieces-run, pieces_spaced, pieces_written, prefix_all}
use Rattle.asm_text.proofs.WordEnds.{WordAfter, blank_no_name, blanks_no_name, gap_no_name, name_no_gap, drop_while_front, blanks_alone}
use Rattle.asm_text.proofs.WordLaws.{false_true, spelled_again, spelled_is}
use Rattle.assembler.specs.Faults.{number}
use Rattle.assembler.specs.Refusals.{BeginsLine, BeginsStatement, HasStrayByte, IsUnreadable}
use Rattle.assembler.specs.Sweeps.{line_fault}
use Rattle.assembler.specs.declared.fault.LineFault.{LineFault}
use Rattle.assembler.specs.declared.fault.LineFault.TheVariants.{NotText, UnknownWord, BadOperand}
use Rattle.assembler.proofs.PutLaws.{all_append}
use Rattle.assembler.proofs.RefuseLeast.{IsLeast}

-- ## Stray bytes

all_front : (p : ℕ → Bool) (xs ys : List ℕ) → list_all p (xs ++ ys) ≡ true → list_all p xs ≡ true
all_front p xs ys h = (and_parts (list_all p xs) (list_all p ys) (sym (list_all-append p xs ys) ∙ h)).0

all_weaker : (p q : ℕ → Bool) (xs : List ℕ) → ((x : ℕ) → p x ≡ true → q x ≡ true) → list_all p xs ≡ true
    → list_all q xs ≡ true
all_weaker p q [] f h = refl
all_weaker p q (x ∷ xs) f h =
    let k = and_parts (p x) (list_all p xs) h in rw (f x k.0, all_weaker p q xs f k.1) refl

at_byte : (p : ℕ → Bool) (front rest : List ℕ) (b : ℕ) → list_all p (front ++ (b ∷ rest)) ≡ true → p b ≡ true
at_byte p [] rest b h = (and_parts (p b) (list_all p rest) h).0
at_byte p (x ∷ front) rest b h =
    at_byte p front rest b (and_parts (p x) (list_all p (front ++ (b ∷ rest))) h).1

stray_in : (p : ℕ → Bool) (xs : List ℕ) → list_all p xs ≡ false
    → (front rest : List ℕ) × (b : ℕ) × (xs ≡ front ++ (b ∷ rest)) × (p b ≡ false)
stray_in p [] h = false_true (sym h)
stray_in p (x ∷ xs) h =
    elim (cases_Bool (p x)) [
      | inl e ↦
          let k : list_all p xs ≡ false = rw e at h in
          let m = stray_in p xs k in
          (x ∷ m.0, m.1, m.2, ap (λ (t : List ℕ). x ∷ t) m.3, m.4)
      | inr e ↦ ([], xs, x, refl, e)
    ]

body_front : (front rest : List ℕ) → list_all is_in_body front ≡ true
    → body (front ++ rest) ≡ front ++ body rest
body_front [] rest h = refl
body_front (b ∷ front) rest h =
    let k = and_parts (is_in_body b) (list_all is_in_body front) h in
    let n : 1 + body_len (front ++ rest) ≡ suc (body_len (front ++ rest)) = omega arith in
    rw (k.0, n) (ap (λ (t : List ℕ). b ∷ t) (body_front front rest k.1))

text_in_body : (b : ℕ) → is_text b ≡ false → is_in_body b ≡ true
text_in_body b h =
    elim (cases_Bool (b == 59)) [
      | inl e ↦ let k : is_text 59 ≡ false =
          subst (λ c. is_text c ≡ false) (eqb-true b 59 e) h in absurd cc
      | inr e ↦ rw e refl
    ]

comment_of_text : (b : ℕ) → is_text b ≡ true → is_comment_text b ≡ true
comment_of_text b h = rw h refl

stray_text : (line : List ℕ) → HasStrayByte line → is_text_line line ≡ false
stray_text line (front, rest, b, is, why) =
    elim (cases_Bool (is_text_line line)) [
      | inr e ↦ e
      | inl e ↦
          let k = and_parts (list_all is_text (body line))
          (list_all is_comment_text (drop (body_len line) line)) e in
          elim why [
            | inl odd ↦
                let all : list_all is_comment_text line ≡ true =
                subst (λ t. list_all is_comment_text t ≡ true) (take-append-drop (body_len line) line)
                (all_append is_comment_text (body line) (drop (body_len line) line)
                (all_weaker is_text is_comment_text (body line) comment_of_text k.0) k.1) in
                false_true
                (sym odd ∙ at_byte is_comment_text front rest b
                (subst (λ t. list_all is_comment_text t ≡ true) is all))
            | inr m ↦
                let one : list_all is_in_body (b ∷ []) ≡ true = rw (text_in_body b m.0) refl in
                let there : body line ≡ front ++ (b ∷ body rest) =
                ap body is ∙ body_front front (b ∷ rest) m.1
                ∙ ap (λ (t : List ℕ). front ++ t) (body_front (b ∷ []) rest one) in
                false_true
                (sym m.0 ∙ at_byte is_text front (body rest) b
                (subst (λ t. list_all is_text t ≡ true) there k.0))
          ]
    ]

text_stray : (line : List ℕ) → is_text_line line ≡ false → HasStrayByte line
text_stray line h =
    let n = body_len line in
    let whole = take-append-drop n line in
    elim (cases_Bool (list_all is_text (body line))) [
      | inr odd ↦
          let s = stray_in is_text (body line) odd in
          let parts : line ≡ s.0 ++ (s.2 ∷ (s.1 ++ drop n line)) =
          sym whole ∙ ap (λ (t : List ℕ). t ++ drop n line) s.3
          ∙ append_assoc s.0 (s.2 ∷ s.1) (drop n line) in (
            s.0,
            s.1
                ++ drop n line,
            s.2,
            parts,
            inr (
              s.4,
              all_front is_in_body s.0 (s.2 ∷ s.1)
                  (subst (λ t. list_all is_in_body t ≡ true) s.3 (prefix_all is_in_body line)),
            ),
          )
      | inl all ↦
          let odd : list_all is_comment_text (drop n line) ≡ false = rw all at h in
          let s = stray_in is_comment_text (drop n line) odd in
          let parts : line ≡ (body line ++ s.0) ++ (s.2 ∷ s.1) =
          sym whole ∙ ap (λ (t : List ℕ). body line ++ t) s.3
          ∙ sym (append_assoc (body line) s.0 (s.2 ∷ s.1)) in
          (body line ++ s.0, s.1, s.2, parts, inl s.4)
    ]

-- ## Fronts

spaced_no_name : (blanks rest : List ℕ) → IsBlanks blanks → first_passes is_name rest ≡ false
    → first_passes is_name (blanks ++ rest) ≡ false
spaced_no_name [] rest h k = k
spaced_no_name (b ∷ bs) rest h k = blank_no_name b (and_parts (is_blank b) (list_all is_blank bs) h).0

ends_no_name : (text : List ℕ) → begins_blank_or_ends text ≡ true → first_passes is_name text ≡ false
ends_no_name [] h = refl
ends_no_name (b ∷ bs) h = blank_no_name b h

first_same : (text : List ℕ) → first_passes is_name text ≡ false → first_name text ≡ false
first_same [] h = refl
first_same (b ∷ bs) h = h

word_some : (name : List ℕ) (w : Word) → IsSpelling name w → 0 < length name
unfolding word_of head_of
word_some [] w h = absurd (none-some w (spelled_again [] w h))
word_some (b ∷ bs) w h = omega arith

label_letters : (label : List ℕ) → is_label label ≡ true
    → (list_all is_name label ≡ true) × (0 < length label)
label_letters [] h = false_true h
label_letters (c ∷ cs) h = (grind (arith, nat_tests, h), omega arith)

-- ## The pieces of a line that begins well

StartsWord : List Piece → Type 0
StartsWord (Run name ∷ ps) = (w : Word) × (spelled_word_of name ≡ Some w)
StartsWord _ = ⊥

PiecesBegin : List Piece → Type 0
PiecesBegin [] = Unit {0}
PiecesBegin (Gap ∷ ps) = StartsWord ps
PiecesBegin (Run label ∷ []) = is_label label ≡ true
PiecesBegin (Run label ∷ Gap ∷ ps) = (is_label label ≡ true) × StartsWord ps
PiecesBegin _ = ⊥

statement_pieces : (text : List ℕ) (b : BeginsStatement text) → pieces text ≡ Gap ∷ Run b.name ∷ pieces b.rest
statement_pieces text b =
    let stops = first_no_run b.rest (first_same b.rest (ends_no_name b.rest b.ends)) in
    ap pieces b.parts ∙ pieces-gap b.blanks (b.name ++ b.rest) b.blank b.some
    ∙ ap gap_before (pieces-run b.name b.rest b.letters (word_some b.name b.word b.word-is) stops)

label_pieces : (label after : List ℕ) → is_label label ≡ true → first_passes is_name after ≡ false
    → pieces (label ++ after) ≡ Run label ∷ pieces after
label_pieces label after h stops =
    let k = label_letters label h in
    pieces-run label after k.0 k.1 (first_no_run after (first_same after stops))

begins_pieces : (text : List ℕ) → BeginsLine text → PiecesBegin (pieces text)
unfolding PiecesBegin StartsWord
begins_pieces text h =
    elim h.label-is [
      | inl none ↦
          let is : pieces text ≡ pieces h.after =
          ap pieces (h.parts ∙ ap (λ (l : List ℕ). l ++ h.after) none) in
          elim h.statement [
            | inl blanks ↦ subst PiecesBegin (sym (is ∙ pieces-blanks h.after blanks)) tt
            | inr b ↦
                subst PiecesBegin (sym (is ∙ statement_pieces h.after b))
                (b.word, spelled_again b.name b.word b.word-is)
          ]
      | inr label ↦ elim h.statement [
        | inl blanks ↦
            let is = ap pieces h.parts ∙ label_pieces h.label h.after label (blanks_no_name h.after blanks)
            ∙ ap (λ (ps : List Piece). Run h.label ∷ ps) (pieces-blanks h.after blanks) in
            subst PiecesBegin (sym is) label
        | inr b ↦
            let stops =
            subst (λ t. first_passes is_name t ≡ false) (sym b.parts)
            (gap_no_name b.blanks (b.name ++ b.rest) b.some b.blank) in
            let is = ap pieces h.parts ∙ label_pieces h.label h.after label stops
            ∙ ap (λ (ps : List Piece). Run h.label ∷ ps) (statement_pieces h.after b) in
            subst PiecesBegin (sym is) (label, (b.word, spelled_again b.name b.word b.word-is))
      ]
    ]

-- ## A line that begins well has a word that ends, or none

statement_ends : (text : List ℕ) → BeginsStatement text → WordAfter text
statement_ends text b =
    let stops = name_no_gap b.name b.rest (word_some b.name b.word b.word-is) b.letters in
    let first : drop_while is_blank text ≡ b.name ++ b.rest =
    ap (drop_while is_blank) b.parts ∙ drop_while_front is_blank b.blanks (b.name ++ b.rest) b.blank stops in
    let second : drop_while is_name (b.name ++ b.rest) ≡ b.rest =
    drop_while_front is_name b.name b.rest b.letters (ends_no_name b.rest b.ends) in
    ap begins_blank_or_ends (ap (drop_while is_name) first ∙ second) ∙ b.ends

after_label_ends : (text : List ℕ) → IsBlanks text ⊎ BeginsStatement text
    → (first_passes is_name text ≡ false) × WordAfter text
after_label_ends text h =
    elim h [
      | inl blanks ↦ (blanks_no_name text blanks, blanks_alone text blanks)
      | inr b ↦ (
        subst (λ t. first_passes is_name t ≡ false) (sym b.parts)
            (gap_no_name b.blanks (b.name ++ b.rest) b.some b.blank),
        statement_ends text b,
      )
    ]

begins_end : (text : List ℕ) → BeginsLine text → word_ends text ≡ true
begins_end text h =
    let letters : list_all is_name h.label ≡ true =
    elim h.label-is [ inl e ↦ rw e refl | inr e ↦ (label_letters h.label e).0 ] in
    let k = after_label_ends h.after h.statement in
    let first : drop_while is_name text ≡ h.after =
    ap (drop_while is_name) h.parts ∙ drop_while_front is_name h.label h.after letters k.0 in
    ap (λ (t : List ℕ). begins_blank_or_ends (drop_while is_name (drop_while is_blank t))) first ∙ k.1

-- ## And pieces that begin well are those of such a line

comma_no_name : (blanks rest : List ℕ) → IsBlanks blanks
    → first_passes is_name (blanks ++ (44 ∷ rest)) ≡ false
comma_no_name blanks rest h = spaced_no_name blanks (44 ∷ rest) h refl

written_no_name : (ps : List Piece) (text : List ℕ) → Written ps text → starts_run ps ≡ false
    → first_passes is_name text ≡ false
written_no_name [] text w e = blanks_no_name text w
written_no_name (Run r ∷ ps) text w e = false_true (sym e)
written_no_name (Comma ∷ ps) text (before, after, rest, is, blanks, more, w) e =
    rw is (comma_no_name before (after ++ rest) blanks)
written_no_name (Sign m ∷ ps) text (b, rest, is, not-blank, not-name, not-comma, mark, w) e = rw is not-name
written_no_name (Gap ∷ ps) text (gap, rest, is, some, blanks, w) e = rw is (gap_no_name gap rest some blanks)

statement_from : (ps : List Piece) (text : List ℕ) → Written (Gap ∷ ps) text → WellSpaced ps → StartsWord ps
    → WordAfter text → BeginsStatement text
unfolding StartsWord
statement_from (Run name ∷ ps) text (gap, after, is, some, blanks, (rest, more, letter, letters, w)) spaced
    (word, spelled) ends =
    let stops =
    subst (λ t. first_passes is_blank t ≡ false) (sym more) (name_no_gap name rest letter letters) in
    let first : drop_while is_blank text ≡ after =
    ap (drop_while is_blank) is ∙ drop_while_front is_blank gap after blanks stops in
    let second : drop_while is_name after ≡ rest =
    ap (drop_while is_name) more
    ∙ drop_while_front is_name name rest letters (written_no_name ps rest w spaced.0) in
    record {
      blanks = gap;
      name = name;
      rest = rest;
      parts = is ∙ ap (λ (t : List ℕ). gap ++ t) more;
      blank = blanks;
      some = some;
      letters = letters;
      word = word;
      word-is = spelled_is name word spelled;
      ends = ap begins_blank_or_ends (sym (ap (drop_while is_name) first ∙ second)) ∙ ends;
    }
statement_from ps text w spaced h ends = absurd h

pieces_begin : (ps : List Piece) (text : List ℕ) → Written ps text → WellSpaced ps → word_ends text ≡ true
    → PiecesBegin ps → BeginsLine text
unfolding PiecesBegin
pieces_begin [] text w spaced ends h =
    record { label = []; after = text; parts = refl; label-is = inl refl; statement = inl w }
pieces_begin (Gap ∷ ps) text w spaced ends h =
    let (gap, after, is, some, blanks, more) = w in
    let stops = subst (λ t. first_passes is_name t ≡ false) (sym is) (gap_no_name gap after some blanks) in
    let none : drop_while is_name text ≡ text = drop_while_front is_name [] text refl stops in
    let word : WordAfter text =
    ap (λ (t : List ℕ). begins_blank_or_ends (drop_while is_name (drop_while is_blank t))) (sym none)
    ∙ ends in
    record {
      label =
          [];
      after =
          text;
      parts =
          refl;
      label-is = inl refl;
      statement = inr (statement_from ps text w spaced.1 h word);
    }
pieces_begin (Run label ∷ []) text (after, is, some, letters, blanks) spaced ends h =
    record { label = label; after = after; parts = is; label-is = inr h; statement = inl blanks }
pieces_begin (Run label ∷ Gap ∷ ps) text (after, is, some, letters, w) spaced ends h =
    let (gap, rest, more, one, blanks, v) = w in
    let stops = subst (λ t. first_passes is_name t ≡ false) (sym more) (gap_no_name gap rest one blanks) in
    let front : drop_while is_name text ≡ after =
    ap (drop_while is_name) is ∙ drop_while_front is_name label after letters stops in
    let word : WordAfter after =
    ap (λ (t : List ℕ). begins_blank_or_ends (drop_while is_name (drop_while is_blank t))) (sym front)
    ∙ ends in
    record {
      label =
          label;
      after =
          after;
      parts =
          is;
      label-is = inr h.0;
      statement = inr (statement_from ps after w spaced.1.1 h.1 word);
    }
pieces_begin ps text w spaced ends h = absurd h

-- ## Which of the two it is

Sorted : {A : Type 0} → Result A TextFault → Type 0 → Type 0
Sorted {A} r Begins =
    ((((a : A) × (r ≡ Ok a)) ⊎ (r ≡ Err text_fault.BadOperand)) × Begins)
    ⊎ ((r ≡ Err text_fault.UnknownWord) × (Begins → ⊥))

or_bad_either : (o : Option Said) → ((x : Said) × (or_bad o ≡ Ok x)) ⊎ (or_bad o ≡ Err text_fault.BadOperand)
or_bad_either None = inr refl
or_bad_either (Some x) = inl (x, refl)

after_word_either : (w : Word) (ps : List Piece)
    → ((x : Said) × (after_word w ps ≡ Ok x)) ⊎ (after_word w ps ≡ Err text_fault.BadOperand)
after_word_either w (Gap ∷ ps) = or_bad_either (operands_of w ps)
after_word_either w ps = inr refl

word_sorted : (o : Option Word) (name : List ℕ) (ps : List Piece) → spelled_word_of name ≡ o
    → Sorted (with_word o ps) (StartsWord (Run name ∷ ps))
unfolding Sorted StartsWord
word_sorted None name ps is = inr (refl, λ h. none-some h.0 (sym is ∙ h.1))
word_sorted (Some w) name ps is = inl (after_word_either w ps, (w, is))

statement_sorted : (ps : List Piece) → Sorted (statement_of ps) (StartsWord ps)
unfolding Sorted StartsWord
statement_sorted (Run name ∷ ps) = word_sorted (spelled_word_of name) name ps refl
statement_sorted ps = inr (refl, λ h. h)

label_sorted : (label : Option (List ℕ)) (r : Result Said TextFault) (Begins Others : Type 0)
    → (Begins → Others) → (Others → Begins) → Sorted r Begins → Sorted (with_label label r) Others
unfolding Sorted
label_sorted label r Begins Others there again h =
    elim h [
      | inl k ↦ elim k.0 [
        | inl x ↦ inl (inl (record { label = label; said = Some x.0 }, rw x.1 refl), there k.1)
        | inr e ↦ inl (inr (rw e refl), there k.1)
      ]
      | inr k ↦ inr (rw k.0 refl, λ o. k.1 (again o))
    ]

run_sorted : (label : List ℕ) (ps : List Piece) → is_label label ≡ true
    → Sorted (after_label label ps) (PiecesBegin (Run label ∷ ps))
unfolding Sorted PiecesBegin
run_sorted label [] is = inl (inl (record { label = Some label; said = None }, refl), is)
run_sorted label (Gap ∷ ps) is =
    label_sorted (Some label) (statement_of ps) (StartsWord ps) _ (λ h. (is, h)) (λ h. h.1)
    (statement_sorted ps)
run_sorted label ps is = inr (refl, λ h. h)

no_label : (label : List ℕ) (ps : List Piece) → is_label label ≡ false → PiecesBegin (Run label ∷ ps) → ⊥
unfolding PiecesBegin
no_label label [] other h = false_true (sym other ∙ h)
no_label label (Gap ∷ ps) other h = false_true (sym other ∙ h.0)
no_label label ps other h = h

parsed_sorted : (ps : List Piece) → Sorted (parsed ps) (PiecesBegin ps)
unfolding Sorted PiecesBegin
parsed_sorted [] = inl (inl (record { label = None; said = None }, refl), tt)
parsed_sorted (Gap ∷ ps) =
    label_sorted None (statement_of ps) (StartsWord ps) (StartsWord ps) (λ h. h) (λ h. h)
    (statement_sorted ps)
parsed_sorted (Run label ∷ ps) =
    elim (cases_Bool (is_label label)) [
      | inl e ↦
          subst (λ b. Sorted (if b then after_label label ps else Err text_fault.UnknownWord)
          (PiecesBegin (Run label ∷ ps))) (sym e) (run_sorted label ps e)
      | inr e ↦ inr (rw e refl, no_label label ps e)
    ]
parsed_sorted ps = inr (refl, λ h. h)

-- ## The lowest

abbrev pub fault_in_reading : Result Parsed TextFault → Option LineFault
fault_in_reading (Ok p) = None
fault_in_reading (Err w) = Some (line_fault w)

from_two : (line : List ℕ) (f : LineFault) → IsUnreadable line f → 2 ≤ number f
from_two line NotText h = omega arith
from_two line UnknownWord h = omega arith
from_two line BadOperand h = omega arith
from_two line _ h = absurd h

from_three : (line : List ℕ) → is_text_line line ≡ true → (f : LineFault) → IsUnreadable line f → 3 ≤ number f
from_three line text NotText h = false_true (sym (stray_text line h) ∙ text)
from_three line text UnknownWord h = omega arith
from_three line text BadOperand h = omega arith
from_three line text _ h = absurd h

from_four : (line : List ℕ) → is_text_line line ≡ true → BeginsLine (body line) → (f : LineFault)
    → IsUnreadable line f → 4 ≤ number f
from_four line text begins NotText h = false_true (sym (stray_text line h) ∙ text)
from_four line text begins UnknownWord h = absurd (h begins)
from_four line text begins BadOperand h = omega arith
from_four line text begins _ h = absurd h

none_unreadable : (line : List ℕ) (p : Parsed) → is_text_line line ≡ true → BeginsLine (body line)
    → Spells p line → (f : LineFault) → IsUnreadable line f → ⊥
none_unreadable line p text begins spelled NotText h = false_true (sym (stray_text line h) ∙ text)
none_unreadable line p text begins spelled UnknownWord h = h begins
none_unreadable line p text begins spelled BadOperand h = h p spelled
none_unreadable line p text begins spelled _ h = h

ok_err : (p : Parsed) (w : TextFault) (r : Result Parsed TextFault) → r ≡ Ok p → r ≡ Err w → ⊥
ok_err p w r e k = let same : ◌≡◌ {A = Result Parsed TextFault} (Ok p) (Err w) = sym e ∙ k in cc

pub read_least : ((line : List ℕ) (p : Parsed) → line_of line ≡ Ok p → Spells p line)
    → ((line : List ℕ) (p : Parsed) → Spells p line → line_of line ≡ Ok p)
    → (line : List ℕ) → IsLeast (IsUnreadable line) (fault_in_reading (line_of line))
unfolding IsLeast Sorted
read_least spells reads line =
    elim (cases_Bool (is_text_line line)) [
      | inr odd ↦
          let is : line_of line ≡ Err text_fault.NotText = rw odd refl in
          known (Err text_fault.NotText) is (record { holds = text_stray line odd; lowest = from_two line })
      | inl text ↦ elim (cases_Bool (word_ends (body line))) [
        | inr ragged ↦
            let is : line_of line ≡ Err text_fault.UnknownWord = rw (text, ragged) refl in
            known (Err text_fault.UnknownWord) is
            (record {
              holds =
                  λ b. false_true (sym ragged ∙ begins_end (body line) b);
              lowest = from_three line text;
            })
        | inl ends ↦
            let so : line_of line ≡ parsed (pieces (body line)) = rw (text, ends) refl in
            elim (parsed_sorted (pieces (body line))) [
              | inr k ↦
                  known (Err text_fault.UnknownWord) (so ∙ k.0)
                  (record { holds = λ b. k.1 (begins_pieces (body line) b); lowest = from_three line text })
              | inl k ↦
                  let begins =
                  pieces_begin (pieces (body line)) (body line) (pieces_written (body line))
                  (pieces_spaced (body line)) ends k.1 in
                  elim k.0 [
                    | inl x ↦
                        known (Ok x.0) (so ∙ x.1)
                        (none_unreadable line x.0 text begins (spells line x.0 (so ∙ x.1)))
                    | inr e ↦
                        known (Err text_fault.BadOperand) (so ∙ e)
                        (record {
                          holds =
                              λ p s. ok_err p text_fault.BadOperand (line_of line) (reads line p s) (so ∙ e);
                          lowest =
                              from_four line text begins;
                        })
                  ]
            ]
      ]
    ]
  where
    known : (r : Result Parsed TextFault) → line_of line ≡ r → IsLeast (IsUnreadable line) (fault_in_reading r)
        → IsLeast (IsUnreadable line) (fault_in_reading (line_of line))
    known r is h = subst (λ q. IsLeast (IsUnreadable line) (fault_in_reading q)) (sym is) h
