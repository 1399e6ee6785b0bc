-- Texts in columns.
use Rattle.std.proofs.Common.{◌≡◌, ◌∙◌, ℕ, ◌+◌, ◌-◌, ◌<◌, ◌≤◌, max, List, [], ◌∷◌, ◌++◌, append-nil, append_assoc, length, get_or, take, drop, replicate, sym, ap}
use Rattle.std.specs.Prelude.{Bool}
use Rattle.std.proofs.Math.ListN.{drop_of_length-le}
use Rattle.std.proofs.lemmas.List.{drop_more, flat_map_more, replicate_more, take_more}
use Rattle.std.proofs.lemmas.List.Sums.{fold_more}
use Rattle.asm_text.specs.Pieces.{is_blank}
use Rattle.text_rows.specs.Columns.{in_columns}
use Rattle.text_explained.specs.Columns.{in_column}
use Rattle.text_explained.specs.Printed.{cell_text, cells, widest}
use Rattle.text_explained.specs.ShownTexts.{byte_text, squeezed_from}
use Rattle.text_explained.specs.declared.cost_columns.Column.{Column}
use Rattle.text_explained.specs.declared.cost_columns.Widths.{Widths}
use Rattle.text_explained.specs.declared.folding.TableLine.{TableLine}

-- a blank more
pub blank_more : (n : ℕ) (old now new : List ℕ) → now ≡ old ++ replicate n 32 → new ≡ now ++ 32 ∷ [] → new ≡ old ++ replicate (n + 1) 32
blank_more n old now new before one =
    one ∙ ap (λ xs. xs ++ 32 ∷ []) before ∙ append_assoc old (replicate n 32) (32 ∷ []) ∙ ap (λ xs. old ++ xs) (replicate_more n 32)

-- blanks, and then a text
pub ending : (width blanks : ℕ) (text old mid new : List ℕ) → blanks ≡ width - length text → mid ≡ old ++ replicate blanks 32 → new ≡ mid ++ text → new ≡ old ++ in_columns width text
ending width blanks text old mid new is front back =
    back ∙ ap (λ xs. xs ++ text) (front ∙ ap (λ n. old ++ replicate n 32) is) ∙ append_assoc old (replicate (width - length text) 32) text

-- a byte of a text more
pub squeezed_more : (text : List ℕ) (i d : ℕ) (due next : Bool) (old new all : List ℕ) → i < length text → old ++ squeezed_from due (drop i text) ≡ all
    → new ≡ old ++ byte_text due (get_or text i d) → next ≡ is_blank (get_or text i d) → new ++ squeezed_from next (drop (i + 1) text) ≡ all
squeezed_more text i d due next old new all lt h one next_is =
    let x = get_or text i d in
    let rest = drop (i + 1) text in
    ap (λ b. new ++ squeezed_from b rest) next_is ∙ ap (λ xs. xs ++ squeezed_from (is_blank x) rest) one
    ∙ append_assoc old (byte_text due x) (squeezed_from (is_blank x) rest) ∙ ap (λ ys. old ++ squeezed_from due ys) (sym (drop_more text i d lt)) ∙ h

pub squeezed_end : (text : List ℕ) (i : ℕ) (due : Bool) (out all : List ℕ) → length text ≤ i → out ++ squeezed_from due (drop i text) ≡ all → out ≡ all
squeezed_end text i due out all le h = sym (append-nil out) ∙ ap (λ ys. out ++ squeezed_from due ys) (sym (drop_of_length-le text le)) ∙ h

-- the cell of a column more
pub cell_more : (w : Widths) (line : TableLine) (columns : List Column) (i : ℕ) (d : Column) (old mid new : List ℕ) → i < length columns → mid ≡ old ++ cells w line (take i columns)
    → new ≡ mid ++ in_column w (get_or columns i d) (cell_text line (get_or columns i d)) → new ≡ old ++ cells w line (take (i + 1) columns)
cell_more w line columns i d old mid new lt before one =
    let cell = λ (c : Column). in_column w c (cell_text line c) in
    one ∙ ap (λ xs. xs ++ cell (get_or columns i d)) before ∙ flat_map_more cell old (take i columns) (get_or columns i d)
    ∙ ap (λ cs. old ++ cells w line cs) (sym (take_more columns i d lt))

-- the width of a line more
pub wider_more : (lines : List TableLine) (c : Column) (i : ℕ) (d : TableLine) (old one new : ℕ) → i < length lines → old ≡ widest (take i lines) c
    → one ≡ length (cell_text (get_or lines i d) c) → new ≡ max old one → new ≡ widest (take (i + 1) lines) c
wider_more lines c i d old one new lt before here is =
    is ∙ (λ k. max (before k) (here k)) ∙ sym (fold_more (λ w line. max w (length (cell_text line c))) 0 lines i d lt)
