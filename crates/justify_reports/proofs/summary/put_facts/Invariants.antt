use Rattle.std.proofs.Common.{◌≡◌, ℕ, List}
use Rattle.known_words.specs.declared.given.Given.{Given}
use Rattle.justify_reports.specs.Summary.{fact_row}
use Rattle.text_rows.proofs.RowLaws.{SoFar}
use Rattle.justify_reports.proofs.summary.put_facts.Given as goal

abbrev pub invariant-loop-fact : goal.invariant-loop-fact
invariant-loop-fact l =
    SoFar (λ (g : Given) (row : List ℕ). row ≡ fact_row g) l.given l.fact-index l.initial.out.items l.out.items
