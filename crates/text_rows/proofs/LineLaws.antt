-- The end of the rows of lines, and the row of one word more.
use Rattle.std.proofs.Common.{◌≡◌, ◌∙◌, ℕ, suc, ◌+◌, ◌≤◌, List, [], ◌∷◌, ◌++◌, append-nil, append_assoc, length, drop, refl, sym, ap}
use Rattle.std.proofs.Math.ListN.{drop_of_length-le}
use Rattle.assembler.specs.declared.placed_line.PlacedLine.{PlacedLine}
use Rattle.text_rows.specs.Lines.{rows_by_line, rows_from}

module _ (rows : ℕ → List ℕ → PlacedLine → List ℕ) where
  no_places : (n : ℕ) (lines : List (List ℕ)) → rows_by_line rows n lines [] ≡ []
  no_places n [] = refl
  no_places n (line ∷ lines) = refl

  pub places_end : (n : ℕ) (lines : List (List ℕ)) (placed : List PlacedLine) (i : ℕ) (text all : List ℕ) → length placed ≤ i
      → text ++ rows_by_line rows n lines (drop i placed) ≡ all → text ≡ all
  places_end n lines placed i text all le h =
      let none : drop i placed ≡ [] = drop_of_length-le placed le in
      sym (append-nil text) ∙ ap (λ xs. text ++ xs) (sym (no_places n lines))
      ∙ ap (λ ps. text ++ rows_by_line rows n lines ps) (sym none) ∙ h

-- a row more
pub word_more : (row : ℕ → List ℕ) (at left after : ℕ) (old new all : List ℕ) → left ≡ suc after → old ++ rows_from row at left ≡ all → new ≡ old ++ row at
    → new ++ rows_from row (at + 4) after ≡ all
word_more row at left after old new all is h one =
    ap (λ xs. xs ++ rows_from row (at + 4) after) one ∙ append_assoc old (row at) (rows_from row (at + 4) after)
    ∙ ap (λ n. old ++ rows_from row at n) (sym is) ∙ h

pub words_end : (row : ℕ → List ℕ) (at left : ℕ) (text all : List ℕ) → left ≡ 0 → text ++ rows_from row at left ≡ all → text ≡ all
words_end row at left text all none h = sym (append-nil text) ∙ ap (λ n. text ++ rows_from row at n) (sym none) ∙ h
