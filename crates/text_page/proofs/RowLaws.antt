-- Rows that are put, and texts of which all is put.
use Rattle.std.proofs.Common.{◌≡◌, ◌∙◌, ℕ, List, [], ◌++◌, ◌≤◌, append-nil, append_assoc, length, drop, refl, sym, ap, codes}
use Rattle.std.specs.List.{flat_map}
use Rattle.std.proofs.Math.ListN.{drop_of_length-le}
use Rattle.asm_text.specs.Appended.{Appends}
use Rattle.text_rows.proofs.ColumnLaws.{four_parts, seven_parts}
use Rattle.text_explained.specs.declared.table_rows.TableRow.{TableRow}
use Rattle.std.specs.Prelude.{Option}
use Rattle.text_page.specs.Html.{escaped}
use Rattle.text_page.specs.Noted.{IsLink, Noted}
use Rattle.text_page.specs.Rows.{IsLineOf, IsLinePart, IsRow, IsShownPart, link_begin, link_end, row_front}

pub items_end : {X : Type 0} (f : X → List ℕ) (xs : List X) (i : ℕ) (text all : List ℕ) → text ++ flat_map f (drop i xs) ≡ all → length xs ≤ i → text ≡ all
items_end f xs i text all h le =
    sym (append-nil text) ∙ ap (λ ys. text ++ flat_map f ys) (sym (drop_of_length-le xs le)) ∙ h

-- a line's text, escaped
pub line_put : (row : TableRow) (shown old new : List ℕ) → IsLineOf row.at row.line shown → new ≡ old ++ escaped shown → Appends (IsShownPart row) old new
line_put row shown old new is new_is = (escaped shown, (shown, is, refl), new_is)

-- inside a link, if there is one
pub link_put : (notes : Noted) (row : TableRow) (link : Option ℕ) (old begun shown new : List ℕ) → IsLink notes row.at link → begun ≡ old ++ link_begin link → Appends (IsShownPart row) begun shown
    → new ≡ shown ++ link_end link → Appends (IsLinePart notes row) old new
link_put notes row link old begun shown new is begun_is adds new_is = (
  link_begin link ++ (adds.0 ++ link_end link),
  record { text = adds.0; is_text = adds.1; link = link; is_link = is; is = refl },
  new_is ∙ ap (λ xs. xs ++ link_end link) (adds.2 ∙ ap (λ xs. xs ++ adds.0) begun_is)
      ∙ append_assoc (old ++ link_begin link) adds.0 (link_end link) ∙ append_assoc old (link_begin link) (adds.0 ++ link_end link),
)

pub row_put : (notes : Noted) (row : TableRow) (old front mid new : List ℕ) → front ≡ old ++ row_front notes row → Appends (IsLinePart notes row) front mid → new ≡ mid ++ codes "</code></div>\n"
    → Appends (IsRow notes row) old new
row_put notes row old front mid new front_is line new_is =
    let end = codes "</code></div>\n" in (
      row_front notes row ++ (line.0 ++ end),
      (line.0, line.1, refl),
      new_is ∙ ap (λ xs. xs ++ end) (line.2 ∙ ap (λ xs. xs ++ line.0) front_is)
          ∙ append_assoc (old ++ row_front notes row) line.0 end ∙ append_assoc old (row_front notes row) (line.0 ++ end),
    )

-- a page of its parts
pub page_put : (h n l e m1 m2 m3 new : List ℕ) → m1 ≡ h → m2 ≡ m1 ++ n → m3 ≡ m2 ++ l → new ≡ m3 ++ e → new ≡ h ++ (n ++ (l ++ e))
page_put h n l e m1 m2 m3 new i1 i2 i3 inew = four_parts [] h n l e m1 m2 m3 new i1 i2 i3 inew

-- six parts, and ten
pub six : (old p1 p2 p3 p4 p5 p6 a b c d e new : List ℕ) → a ≡ old ++ p1 → b ≡ a ++ p2 → c ≡ b ++ p3 → d ≡ c ++ p4 → e ≡ d ++ p5 → new ≡ e ++ p6 → new ≡ old ++ (p1 ++ (p2 ++ (p3 ++ (p4 ++ (p5 ++ p6)))))
six old p1 p2 p3 p4 p5 p6 a b c d e new ia ib ic id ie inew =
    inew ∙ ap (λ xs. xs ++ p6) (ie ∙ ap (λ xs. xs ++ p5) (id ∙ ap (λ xs. xs ++ p4) (ic ∙ ap (λ xs. xs ++ p3) (ib ∙ ap (λ xs. xs ++ p2) ia)))) ∙ simp append_assoc

pub ten : {m1 m2 m3 m4 m5 m6 m7 m8 m9 new : List ℕ} (old p1 p2 p3 p4 p5 p6 p7 p8 p9 p10 : List ℕ) → m1 ≡ old ++ p1 → m2 ≡ m1 ++ p2 → m3 ≡ m2 ++ p3 → m4 ≡ m3 ++ p4 → m5 ≡ m4 ++ p5 → m6 ≡ m5 ++ p6 → m7 ≡ m6 ++ p7 → m8 ≡ m7 ++ p8 → m9 ≡ m8 ++ p9 → new ≡ m9 ++ p10 → new ≡ old ++ (p1 ++ (p2 ++ (p3 ++ (p4 ++ (p5 ++ (p6 ++ (p7 ++ (p8 ++ (p9 ++ p10)))))))))
ten {m1} {m2} {m3} {m4} {m5} {m6} {m7} {m8} {m9} {new} old p1 p2 p3 p4 p5 p6 p7 p8 p9 p10 e1 e2 e3 e4 e5 e6 e7 e8 e9 e10 =
    let back = seven_parts m3 p4 p5 p6 p7 p8 p9 p10 m4 m5 m6 m7 m8 m9 new e4 e5 e6 e7 e8 e9 e10 in
    four_parts old p1 p2 p3 (p4 ++ (p5 ++ (p6 ++ (p7 ++ (p8 ++ (p9 ++ p10)))))) m1 m2 m3 new e1 e2 e3 back
