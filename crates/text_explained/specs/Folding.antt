-- Which rows of a table are folded into one.
use Rattle.std.specs.Prelude.{◌≡◌, ℕ, ◌+◌, ◌-◌, ◌==◌, ◌&&◌, not, Bool, true, false, if◌then◌else◌, List, []}
use Rattle.std.specs.Prelude.{◌∷◌, length, take, drop, slice_get, Option, Some, None}
use Rattle.std.specs.List.{prefix_len}
use Rattle.text_explained.specs.declared.folding.FoldKind.{FoldKind}
use Rattle.text_explained.specs.declared.folding.FoldKind.TheVariants.{OffPath, NeverReached}
use Rattle.text_explained.specs.declared.folding.TableLine.{TableLine}
use Rattle.text_explained.specs.declared.folding.TableLine.TheVariants as table_line
use Rattle.text_explained.specs.declared.table_rows.TableRow.{TableRow}
use Rattle.text_explained.specs.declared.walk_tally.Taken.{Taken}

-- ## Kinds

-- what never is reached is of one kind, and what is, but not by the walk, of another
abbrev pub kind_of : Option Taken → Option FoldKind
kind_of None = Some NeverReached
kind_of (Some t) = if t.passes == 0 then Some OffPath else None

abbrev pub is_one_kind : (a b : Option FoldKind) → Bool
is_one_kind (Some OffPath) (Some OffPath) = true
is_one_kind (Some NeverReached) (Some NeverReached) = true
is_one_kind a b = false

-- a row is folded with another, unless all are printed
abbrev pub goes_with : (all : Bool) → (first row : TableRow) → Bool
goes_with all first row = not all && is_one_kind (kind_of first.figures.taken) (kind_of row.figures.taken)

-- ## What is shown of rows

-- a row with so many rows after it, of which this is the last: by itself, if there is none
abbrev pub shown_with : TableRow → (count : ℕ) → (last : Option TableRow) → TableLine
shown_with first n None = table_line.Row first
shown_with first n (Some last) = table_line.Fold (record { first = first; last = last; count = n + 1 })

-- a row with these rows after it
abbrev pub shown_run : TableRow → List TableRow → TableLine
shown_run first run = shown_with first (length run) (slice_get run (length run - 1))

-- how many of the rows after it are folded with a row: all up to one that is not
abbrev pub run_len : (all : Bool) → TableRow → List TableRow → ℕ
run_len all first rows = prefix_len (goes_with all first) rows

-- what is shown first of rows: the first with those that are folded with it; and the rows after these
abbrev pub IsFirstShown : (all : Bool) → List TableRow → TableLine → (others : List TableRow) → Type 0
IsFirstShown all [] line others = ⊥
IsFirstShown all (r ∷ rows) line others =
    (line ≡ shown_run r (take (run_len all r rows) rows)) × (others ≡ drop (run_len all r rows) rows)

-- what is shown of rows, one line after another
abbrev pub AreShown : (all : Bool) → List TableRow → List TableLine → Type 0
AreShown all rows [] = rows ≡ []
AreShown all rows (line ∷ lines) =
    (others : List TableRow) × IsFirstShown all rows line others × AreShown all others lines
