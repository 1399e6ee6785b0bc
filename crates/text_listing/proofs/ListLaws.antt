-- The row of a word.
use Rattle.std.proofs.Common.{◌≡◌, ℕ, List, ◌++◌, codes, Some, refl, ap, ◌∙◌, append_assoc}
use Rattle.assembler.specs.ShownLines.{IsShown}
use Rattle.text_rows.specs.Columns.{cut_row}
use Rattle.asm_text.specs.Appended.{Appends}
use Rattle.text_listing.specs.Listing.{IsWordRow, word_columns}

pub word_row : (at word : ℕ) (line old columns gap new : List ℕ) → IsShown word at line
    → columns ≡ old ++ word_columns at (Some word) → gap ≡ columns ++ codes "  "
    → new ≡ gap ++ cut_row 20 line → Appends (IsWordRow (at, word)) old new
word_row at word line old columns gap new is a b c =
    let here = word_columns at (Some word) in (
      (here ++ codes "  ") ++ cut_row 20 line,
      (line, is, refl),
      c ∙ ap (λ xs. xs ++ cut_row 20 line) (b ∙ ap (λ xs. xs ++ codes "  ") a ∙ append_assoc old here (codes "  "))
          ∙ append_assoc old (here ++ codes "  ") (cut_row 20 line),
    )
