-- What is shown of rows.
use Rattle.std.proofs.Common.{◌≡◌, ◌∙◌, Bool, List, [], ◌∷◌, ◌++◌, append-nil, append_assoc, sym, ap, subst}
use Rattle.asm_text.specs.Appended.{Appends}
use Rattle.text_explained.specs.Folding.{AreShown, IsFirstShown}
use Rattle.text_explained.specs.Printed.{AreLines}
use Rattle.text_explained.specs.declared.folding.TableLine.{TableLine}
use Rattle.text_explained.specs.declared.folding.TableLine.TheVariants as table_line
use Rattle.text_explained.specs.declared.folding.Total.{Total}
use Rattle.text_explained.specs.declared.table_rows.TableRow.{TableRow}

module _ (all : Bool) (rows : List TableRow) where
  -- whatever is shown of the rest, what is shown of all rows is what is so far and this
  pub record IsShownSoFar (rest : List TableRow) (old now : List TableLine) : Type 0 where
    pub parts : List TableLine
    pub is : now ≡ old ++ parts
    pub whole : (more : List TableLine) → AreShown all rest more → AreShown all rows (parts ++ more)

  pub shown_none : (old : List TableLine) → IsShownSoFar rows old old
  shown_none old = record { parts = []; is = sym (append-nil old); whole = λ more are. are }

  pub shown_one : (rest others : List TableRow) (old now new : List TableLine) (line : TableLine) → IsShownSoFar rest old now → IsFirstShown all rest line others
      → new ≡ now ++ line ∷ [] → IsShownSoFar others old new
  shown_one rest others old now new line h first new_is = record {
    parts = h.parts ++ line ∷ [];
    is = new_is ∙ ap (λ xs. xs ++ line ∷ []) h.is ∙ append_assoc old h.parts (line ∷ []);
    whole = λ more are. subst (AreShown all rows) (sym (append_assoc h.parts (line ∷ []) more)) (h.whole (line ∷ more) (others, first, are));
  }

  pub shown_all : (rest : List TableRow) (old now : List TableLine) → IsShownSoFar rest old now → rest ≡ [] → Appends (AreShown all rows) old now
  shown_all rest old now h none = (
    h.parts,
    subst (AreShown all rows) (append-nil h.parts) (h.whole [] none),
    h.is,
  )

-- the lines of a table
pub lines_whole : (all : Bool) (rows : List TableRow) (total : Total) (names shown new : List TableLine) → names ≡ table_line.Names ∷ [] → Appends (AreShown all rows) names shown
    → new ≡ shown ++ table_line.Total total ∷ [] → AreLines all rows total new
lines_whole all rows total names shown new names_is adds new_is = (
  adds.0,
  adds.1,
  new_is ∙ ap (λ xs. xs ++ table_line.Total total ∷ []) (adds.2 ∙ ap (λ xs. xs ++ adds.0) names_is),
)
