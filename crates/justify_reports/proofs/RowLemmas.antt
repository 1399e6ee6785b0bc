-- Rows, and how they are put one after another.
use Rattle.std.proofs.Common.{◌≡◌, ◌∙◌, ◌++◌, ◌∷◌, [], ℕ, Bool, List, length, refl, sym, ap, subst, append_assoc}
use Rattle.std.specs.Prelude.{Option}
use Rattle.std.specs.BTreeMap.{BTreeMap}
use Rattle.asm_text.specs.Appended.{Appends}
use Rattle.control_flow.specs.Flow.{Flow}
use Rattle.image.specs.Image.{Words}
use Rattle.statement.specs.Stated.{Stated}
use Rattle.statement.specs.declared.stated.Loop.{Loop}
use Rattle.sources.specs.Lines.{AreLines}
use Rattle.sources.specs.declared.read.Source.{Source}
use Rattle.text_rows.specs.WordLines.{Numbered, numbered_at}
use Rattle.text_rows.specs.declared.line_labels.SourceLine.{SourceLine}
use Rattle.loop_bounds.specs.Tree.{Tree}
use Rattle.known_places.specs.OnTrust.{OnTrust}
use Rattle.known_places.specs.declared.destination.Destination.{Destination}
use Rattle.known_words.specs.declared.given.Given.{Given}
use Rattle.known_words.specs.declared.words.Range.{Range}
use Rattle.justify_reports.specs.JustifyReport.{IsJustifyText}
use Rattle.justify_reports.specs.Rows.{AreClassRows, AreClassed, AreLoopRows, AreReturnRows, AreStatedRows}
use Rattle.justify_reports.specs.RowTexts.{AreRowTexts, IsEnd, IsRowText, front_text}
use Rattle.justify_reports.specs.Summary.{AreFactRows, summary_text}
use Rattle.justify_reports.specs.declared.rows.Row.{Row}

pub all_rows : (words : Words) (st : Stated) (flow : Flow) (tree : Tree) (left : Option OnTrust) (destinations : List Destination) (outside : List (Option Range)) (endless : List Bool) (named shown : List ℕ) (loops : List Loop)
    (none classes returns rows : List Row) → AreClassed words st flow left named → shown ≡ named → loops ≡ st.loops.list → none ≡ []
    → Appends (AreClassRows words st flow tree left outside shown) none classes → Appends (AreReturnRows words st flow tree destinations) classes returns
    → Appends (AreLoopRows tree left endless loops) returns rows → AreStatedRows words st flow tree left destinations outside endless rows
all_rows words st flow tree left destinations outside endless named shown loops none classes returns rows are same list empty first then last = record {
  named = named;
  classes = first.0;
  returns = then.0;
  loops = last.0;
  are_classed = are;
  are_classes = subst (λ (ns : List ℕ). AreClassRows words st flow tree left outside ns first.0) same first.1;
  are_returns = then.1;
  are_loops = subst (λ (ls : List Loop). AreLoopRows tree left endless ls last.0) list last.1;
  rows_are =
      last.2
      ∙ ap (λ (xs : List Row). xs ++ last.0) (then.2 ∙ ap (λ (xs : List Row). xs ++ then.0) (first.2 ∙ ap (λ (xs : List Row). xs ++ first.0) empty))
      ∙ append_assoc first.0 then.0 last.0;
}

pub row_put : (read : Source) (words : Words) (row : Row) (lines : BTreeMap ℕ SourceLine) (front old a new : List ℕ) (used : ℕ) → AreLines read lines → front ≡ front_text row
    → used ≡ length front → a ≡ old ++ front → Appends (IsEnd words used row.at (numbered_at lines row.at)) a new → Appends (IsRowText read words row) old new
row_put read words row lines front old a new used lines_are is used_is ia adds = (
  front_text row ++ adds.0,
  record {
    end = adds.0;
    end_is =
        subst (λ (l : Option Numbered). IsEnd words (length (front_text row)) row.at l adds.0) (lines_are.each row.at)
        (subst (λ (n : ℕ). IsEnd words n row.at (numbered_at lines row.at) adds.0) (used_is ∙ ap (λ (xs : List ℕ). length xs) is) adds.1);
    text_is = refl;
  },
  adds.2 ∙ ap (λ (xs : List ℕ). xs ++ adds.0) (ia ∙ ap (λ (xs : List ℕ). old ++ xs) is) ∙ append_assoc old (front_text row) adds.0,
)

pub whole_text : (read : Source) (given : List Given) (left : Option OnTrust) (rows : List Row) (bound price : ℕ) (none a b text : List ℕ) → none ≡ []
    → Appends (AreFactRows given) none a → Appends (AreRowTexts read read.image rows) a b → text ≡ b ++ summary_text left rows given bound price
    → IsJustifyText read given left rows bound price text
whole_text read given left rows bound price none a b text empty facts entries is =
    let summary = summary_text left rows given bound price in
    let front : a ≡ facts.0 = facts.2 ∙ ap (λ (xs : List ℕ). xs ++ facts.0) empty in
    record {
      facts = facts.0;
      entries = entries.0;
      are_facts = facts.1;
      are_entries = entries.1;
      text_is = is ∙ ap (λ (xs : List ℕ). xs ++ summary) (entries.2 ∙ ap (λ (xs : List ℕ). xs ++ entries.0) front) ∙ append_assoc facts.0 entries.0 summary;
    }
