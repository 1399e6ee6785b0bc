-- The rows of a source.
use Rattle.std.proofs.Common.{◌≡◌, ◌∙◌, ℕ, ◌+◌, ◌<◌, ◌≤◌, true, false, List, [], ◌∷◌, ◌++◌, append-nil, append_assoc, length, get_or, map, take, drop, refl, sym, ap}
use Rattle.std.specs.Prelude.{◌==◌, if◌then◌else◌}
use Rattle.std.proofs.Math.ListN.{drop_of_length-le}
use Rattle.std.proofs.lemmas.List.{drop_more, map-append, map_more}
use Rattle.assembler.specs.declared.placed_line.PlacedLine.{PlacedLine}
use Rattle.image.specs.Image.{Words}
use Rattle.text_explained.specs.Table.{Row, WalkFigures, line, line_figures, line_row, line_rows, row_of, told_at, word_row}
use Rattle.text_explained.specs.declared.table_rows.TableRow.{TableRow}

-- a row more
pub row_more : (rows new : List TableRow) (row : TableRow) (said : Row) → new ≡ rows ++ row ∷ [] → row_of row ≡ said → map row_of new ≡ map row_of rows ++ said ∷ []
row_more rows new row said one is = ap (map row_of) one ∙ map-append row_of rows (row ∷ []) ∙ ap (λ r. map row_of rows ++ r ∷ []) is

module _ (walk : WalkFigures) where
  pub row_added : (n : ℕ) (text : List ℕ) (p : PlacedLine) (rows new : List TableRow) (row : TableRow) → (p.words == 0) ≡ false → new ≡ rows ++ row ∷ []
      → row_of row ≡ record { at = told_at walk.taken p; figures = line_figures walk p; subject = line n text }
      → map row_of new ≡ map row_of rows ++ line_row walk n text p
  row_added n text p rows new row some one is =
      let said : Row = record { at = told_at walk.taken p; figures = line_figures walk p; subject = line n text } in
      row_more rows new row said one is ∙ ap (λ b. map row_of rows ++ (if b then [] else said ∷ [])) (sym some)

  pub no_row_added : (n : ℕ) (text : List ℕ) (p : PlacedLine) (rows : List TableRow) → (p.words == 0) ≡ true → map row_of rows ≡ map row_of rows ++ line_row walk n text p
  no_row_added n text p rows none =
      let said : Row = record { at = told_at walk.taken p; figures = line_figures walk p; subject = line n text } in
      sym (append-nil (map row_of rows))
      ∙ ap (λ b. map row_of rows ++ (if b then [] else said ∷ [])) (sym none)

  -- the rows of a line more
  pub line_more : (n next : ℕ) (text : List ℕ) (lines before : List (List ℕ)) (placed : List PlacedLine) (i : ℕ) (d : PlacedLine) (old new all : List Row) → i < length placed
      → before ≡ text ∷ lines → next ≡ n + 1 → old ++ line_rows walk n before (drop i placed) ≡ all → new ≡ old ++ line_row walk n text (get_or placed i d)
      → new ++ line_rows walk next lines (drop (i + 1) placed) ≡ all
  line_more n next text lines before placed i d old new all lt first number h one =
      let p = get_or placed i d in
      let rest = drop (i + 1) placed in
      ap (λ m. new ++ line_rows walk m lines rest) number ∙ ap (λ xs. xs ++ line_rows walk (n + 1) lines rest) one
      ∙ append_assoc old (line_row walk n text p) (line_rows walk (n + 1) lines rest)
      ∙ ap (λ ps. old ++ line_rows walk n (text ∷ lines) ps) (sym (drop_more placed i d lt)) ∙ ap (λ ls. old ++ line_rows walk n ls (drop i placed)) (sym first) ∙ h

  no_places : (n : ℕ) (lines : List (List ℕ)) → line_rows walk n lines [] ≡ []
  no_places n [] = refl
  no_places n (text ∷ lines) = refl

  no_lines : (n : ℕ) (placed : List PlacedLine) → line_rows walk n [] placed ≡ []
  no_lines n [] = refl
  no_lines n (p ∷ placed) = refl

  pub places_end : (n : ℕ) (lines : List (List ℕ)) (placed : List PlacedLine) (i : ℕ) (rows all : List Row) → length placed ≤ i
      → rows ++ line_rows walk n lines (drop i placed) ≡ all → rows ≡ all
  places_end n lines placed i rows all le h =
      sym (append-nil rows) ∙ ap (λ xs. rows ++ xs) (sym (no_places n lines)) ∙ ap (λ ps. rows ++ line_rows walk n lines ps) (sym (drop_of_length-le placed le)) ∙ h

  pub lines_end : (n : ℕ) (lines : List (List ℕ)) (placed : List PlacedLine) (rows all : List Row) → lines ≡ []
      → rows ++ line_rows walk n lines placed ≡ all → rows ≡ all
  lines_end n lines placed rows all none h =
      sym (append-nil rows) ∙ ap (λ xs. rows ++ xs) (sym (no_lines n placed)) ∙ ap (λ ls. rows ++ line_rows walk n ls placed) (sym none) ∙ h

  -- the row of a word more
  pub word_more : (words : Words) (i : ℕ) (d : ℕ × ℕ) (rows new : List TableRow) (row : TableRow) → i < length words → map row_of rows ≡ map (word_row walk) (take i words)
      → new ≡ rows ++ row ∷ [] → row_of row ≡ word_row walk (get_or words i d) → map row_of new ≡ map (word_row walk) (take (i + 1) words)
  word_more words i d rows new row lt before one is =
      row_more rows new row (word_row walk (get_or words i d)) one is ∙ ap (λ rs. rs ++ word_row walk (get_or words i d) ∷ []) before ∙ sym (map_more (word_row walk) words i d lt)
