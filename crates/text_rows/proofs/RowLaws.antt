-- Rows that are put one after another.
use Rattle.std.proofs.Common.{◌≡◌, ◌∙◌, ℕ, ◌+◌, ◌-◌, ◌<◌, ◌≤◌, min, take, arith, List, [], ◌++◌, append-nil, length, drop, get_or, refl, sym, ap, subst, append_assoc, codes}
use Rattle.std.proofs.Math.ListN.{drop_of_length-le}
use Rattle.std.proofs.lemmas.List.{drop_more, length-append}
use Rattle.asm_text.specs.Hex.{hex8}
use Rattle.assembler.specs.ShownLines.{IsShown}
use Rattle.text_rows.specs.Columns.{cut_at, cut_row}
use Rattle.asm_text.specs.Appended.{Appends}
use Rattle.text_rows.specs.Rows.{AreRows, IsShownRow, address_column}
use Rattle.text_rows.proofs.ColumnLaws.{five_parts}

module _ {A B : Type 0} (IsRow : A → List B → Type 0) (all : List A) where
  -- whatever rows the others have, all rows are those so far and these
  pub record SoFar (i : ℕ) (old now : List B) : Type 0 where
    pub parts : List B
    pub is : now ≡ old ++ parts
    pub whole : (rest : List B) → AreRows IsRow (drop i all) rest → AreRows IsRow all (parts ++ rest)

  pub so_far_none : (old : List B) → SoFar 0 old old
  so_far_none old = record { parts = []; is = sym (append-nil old); whole = λ rest are. are }

  pub so_far_one : (i : ℕ) (d : A) (old now new : List B) → SoFar i old now → i < length all → Appends (IsRow (get_or all i d)) now new → SoFar (i + 1) old new
  so_far_one i d old now new h lt adds = record {
    parts = h.parts ++ adds.0;
    is = adds.2 ∙ ap (λ (xs : List B). xs ++ adds.0) h.is ∙ append_assoc old h.parts adds.0;
    whole = λ rest are.
        let part = adds.0 in
        let here : AreRows IsRow (drop i all) (part ++ rest) =
        subst (λ (es : List A). AreRows IsRow es (part ++ rest)) (sym (drop_more all i d lt)) (part, rest, adds.1, are, refl) in
        subst (AreRows IsRow all) (sym (append_assoc h.parts part rest)) (h.whole (part ++ rest) here);
  }

  pub so_far_all : (i : ℕ) (old now : List B) → SoFar i old now → length all ≤ i → Appends (AreRows IsRow all) old now
  so_far_all i old now h le =
      let none : drop i all ≡ [] = drop_of_length-le all le in (
        h.parts,
        subst (AreRows IsRow all) (append-nil h.parts) (h.whole [] (subst (λ (es : List A). AreRows IsRow es []) (sym none) refl)),
        h.is,
      )

  -- from an empty list on
  pub all_parts : (i : ℕ) (old now : List B) → old ≡ [] → SoFar i old now → length all ≤ i → AreRows IsRow all now
  all_parts i old now empty h le =
      let e = so_far_all i old now h le in
      subst (AreRows IsRow all) (sym (e.2 ∙ ap (λ (xs : List B). xs ++ e.0) empty)) e.1

-- a row whose columns are counted up to a limit that is no less than 80
pub capped_row : (used most n : ℕ) (text : List ℕ) → n ≡ min used most → 80 ≤ most → cut_row n text ≡ cut_row used text
capped_row used most n text is fits =
    let same : 80 - n ≡ 80 - used = omega (arith, is) in
    ap (λ room. take (cut_at room text) text ++ codes "\n") same

-- the columns of the row of a word, before its line
pub shown_columns : (at word : ℕ) (old a b c d : List ℕ) → a ≡ old ++ address_column at → b ≡ a ++ codes "  " → c ≡ b ++ hex8 word → d ≡ c ++ codes "  "
    → length d - length old ≡ 22
shown_columns at word old a b c d ia ib ic id =
    let la : length a ≡ length old + 10 = ap length ia ∙ length-append old (address_column at) in
    let lb : length b ≡ length a + 2 = ap length ib ∙ length-append a (codes "  ") in
    let lc : length c ≡ length b + 8 = ap length ic ∙ length-append b (hex8 word) in
    let ld : length d ≡ length c + 2 = ap length id ∙ length-append c (codes "  ") in
    omega (arith, la, lb, lc, ld)

-- the row of a word, after the columns that it has before
pub shown_row : (used at word : ℕ) (line old a b c d new : List ℕ) → IsShown word at line
    → a ≡ old ++ address_column at → b ≡ a ++ codes "  " → c ≡ b ++ hex8 word → d ≡ c ++ codes "  " → new ≡ d ++ cut_row (used + 22) line
    → Appends (IsShownRow used (at, word)) old new
shown_row used at word line old a b c d new shown ia ib ic id inew =
    let columns = address_column at ++ (codes "  " ++ (hex8 word ++ codes "  ")) in (
      columns ++ cut_row (used + 22) line,
      (line, shown, refl),
      five_parts old (address_column at) (codes "  ") (hex8 word) (codes "  ") (cut_row (used + 22) line) a b c d new ia ib ic id inew
          ∙ ap (λ xs. old ++ xs) (simp append_assoc refl),
    )
