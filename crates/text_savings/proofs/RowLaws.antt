-- The row of a saving, and the rows of all.
use Rattle.std.proofs.Common.{◌≡◌, ◌∙◌, ℕ, ◌+◌, ◌-◌, Bor, List, ◌++◌, append_assoc, length, Option, Vec, refl, ap, subst, sym, arith}
use Rattle.std.proofs.lemmas.List.{length-append}
use Rattle.std.specs.Global.{Global}
use Rattle.assembler.specs.declared.placed_line.PlacedLine.{PlacedLine}
use Rattle.sources.specs.declared.read.SourceText.{SourceText}
use Rattle.sources.specs.declared.read.SourceText.TheVariants.{Lines, Image}
use Rattle.asm_text.specs.Appended.{Appends}
use Rattle.text_rows.specs.Rows.{AreRows}
use Rattle.text_rows.specs.WordLines.{Numbered}
use Rattle.text_savings.specs.Sections.{IsEndIn, IsImageEnd, IsLineEnd, IsSavingRow, front_text}
use Rattle.text_savings.specs.declared.saving.Saving.{Saving}
use Rattle.text_savings.specs.declared.saving.Subject.{Subject}

-- the end of a row after so many columns
pub whole_row : (IsEnd : (used : ℕ) → Subject → List ℕ → Type 0) (s : Saving) (used : ℕ) (old mid new : List ℕ) → mid ≡ old ++ front_text s → used ≡ length mid - length old
    → Appends (IsEnd used s.subject) mid new → Appends (IsSavingRow IsEnd s) old new
whole_row IsEnd s used old mid new front is adds =
    let long : length mid ≡ length old + length (front_text s) = ap length front ∙ length-append old (front_text s) in
    let same : used ≡ length (front_text s) = omega (arith, is, long) in (
      front_text s ++ adds.0,
      (adds.0, subst (λ n. IsEnd n s.subject adds.0) same adds.1, refl),
      adds.2 ∙ ap (λ (xs : List ℕ). xs ++ adds.0) front ∙ append_assoc old (front_text s) adds.0,
    )

-- by the lines of a text that are found beforehand
pub by_lines : (text : SourceText) (bytes : Bor (List ℕ)) (placed : Vec PlacedLine Global) (lines found : ℕ → Option Numbered) (list : List Saving) (rows : List ℕ) → text ≡ Lines bytes placed
    → ((at : ℕ) → lines at ≡ found at) → AreRows (IsSavingRow (IsLineEnd lines)) list rows → AreRows (IsSavingRow (IsEndIn text found)) list rows
by_lines text bytes placed lines found list rows is are_lines are =
    subst (λ (t : SourceText). AreRows (IsSavingRow (IsEndIn t found)) list rows) (sym is)
    (subst (λ (f : ℕ → Option Numbered). AreRows (IsSavingRow (IsLineEnd f)) list rows) (λ i x. are_lines x i) are)

-- by the words of an image
pub by_words : (text : SourceText) (line : ℕ → Option Numbered) (list : List Saving) (rows : List ℕ) → text ≡ Image → AreRows (IsSavingRow IsImageEnd) list rows → AreRows (IsSavingRow (IsEndIn text line)) list rows
by_words text line list rows is are = subst (λ (t : SourceText). AreRows (IsSavingRow (IsEndIn t line)) list rows) (sym is) are
