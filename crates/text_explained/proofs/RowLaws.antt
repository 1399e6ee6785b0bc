-- Rows of words.
use Rattle.std.proofs.Common.{◌≡◌, ◌∙◌, ℕ, ◌+◌, ◌-◌, true, false, List, [], ◌++◌, append-nil, append_assoc, length, refl, sym, ap, subst, arith}
use Rattle.std.specs.Prelude.{◌==◌}
use Rattle.std.specs.List.{list_any}
use Rattle.std.proofs.lemmas.Bool.{false≢true}
use Rattle.std.proofs.lemmas.List.{length-append}
use Rattle.text_explained.specs.Assumed.{IsNamedRow}
use Rattle.asm_text.specs.Appended.{Appends}
use Rattle.text_rows.specs.Rows.{IsShownRow}
use Rattle.text_explained.specs.Printed.{IsLineText, IsRowEnd, IsTextOf, row_columns}
use Rattle.text_explained.specs.ShownTexts.{cut_text}
use Rattle.text_explained.specs.declared.folding.TableLine.TheVariants as table_line
use Rattle.text_explained.specs.declared.printed_rows.Layout.{Layout}
use Rattle.text_explained.specs.declared.table_rows.TableRow.{TableRow}

-- a word that is not named has no row
pub no_row : (named : List ℕ) (e : ℕ × ℕ) (text : List ℕ) → list_any (λ a. a == e.0) named ≡ false → Appends (IsNamedRow named e) text text
no_row named e text other = ([], record { named_one = λ one. absurd (false≢true (sym other ∙ one)); other = λ o. refl }, sym (append-nil text))

-- one that is named has its own
pub its_row : (named : List ℕ) (e : ℕ × ℕ) (old new : List ℕ) → list_any (λ a. a == e.0) named ≡ true → Appends (IsShownRow 0 e) old new → Appends (IsNamedRow named e) old new
its_row named e old new one adds = (adds.0, record { named_one = λ o. adds.1; other = λ other. absurd (false≢true (sym other ∙ one)) }, adds.2)

-- a row whose columns are counted
pub row_written : (layout : Layout) (row : TableRow) (used : ℕ) (old mid new : List ℕ) → mid ≡ old ++ row_columns layout row → used ≡ length mid - length old
    → Appends (IsRowEnd (layout.width - used) row) mid new → Appends (IsLineText layout (table_line.Row row)) old new
row_written layout row used old mid new front is adds =
    let columns = row_columns layout row in
    let long : length mid ≡ length old + length columns = ap length front ∙ length-append old columns in
    let same : used ≡ length columns = omega (arith, is, long) in (
      columns ++ adds.0,
      (adds.0, subst (λ n. IsRowEnd (layout.width - n) row adds.0) same adds.1, refl),
      adds.2 ∙ ap (λ xs. xs ++ adds.0) front ∙ append_assoc old columns adds.0,
    )

-- a text as much as there is room for
pub end_written : (room : ℕ) (row : TableRow) (shown old new : List ℕ) → IsTextOf row.at row.line shown → new ≡ old ++ cut_text room shown → Appends (IsRowEnd room row) old new
end_written room row shown old new is new_is = (cut_text room shown, (shown, is, refl), new_is)

-- a line of one text
pub whole_line : (text old new : List ℕ) → new ≡ old ++ text → Appends (λ part. part ≡ text) old new
whole_line text old new is = (text, refl, is)
