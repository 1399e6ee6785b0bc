-- What is printed of where a run and a greatest walk differ.
use Rattle.std.specs.Prelude.{◌≡◌, ℕ, ◌+◌, ◌==◌, cond, Bool, true, false, if◌then◌else◌, List, [], ◌∷◌}
use Rattle.std.specs.Prelude.{◌++◌, codes, decimal, flat_map, length, sum_by, Option, Some, None}
use Rattle.control_flow.specs.Flow.{Flow}
use Rattle.image.specs.Image.{Words}
use Rattle.sources.specs.Lines.{line_of}
use Rattle.sources.specs.Source.{IsSource}
use Rattle.sources.specs.declared.read.Source.{Source}
use Rattle.sources.specs.declared.read.SourceText.{SourceText}
use Rattle.sources.specs.declared.read.SourceText.TheVariants.{Lines, Image}
use Rattle.statement.specs.Stated.{Stated}
use Rattle.text_rows.specs.Columns.{in_columns}
use Rattle.text_rows.specs.Rows.{AreRows, IsShownRow, section}
use Rattle.text_rows.specs.WordLines.{Numbered}
use Rattle.text_savings.specs.Sections.{line_row}
use Rattle.walk_counts.specs.Counts.{capped}
use Rattle.follow_reports.specs.Differences.{IsListed, less, more}
use Rattle.follow_reports.specs.declared.differences.Cause.{Cause}
use Rattle.follow_reports.specs.declared.differences.Cause.TheVariants.{Access, Fetches, Leaving, Multiply}
use Rattle.follow_reports.specs.declared.differences.Cause.TheVariants.{OtherWay}
use Rattle.follow_reports.specs.declared.differences.Compared.{Compared}
use Rattle.follow_reports.specs.declared.differences.Difference.{Difference}
use Rattle.follow_reports.specs.declared.differences.Numbers.{Numbers}
use Rattle.sources.specs.File.{File}

-- ## Rows

-- each number with a blank in front
abbrev pub numbers_text : Numbers → List ℕ
numbers_text n =
    codes " " ++ (in_columns 7 (decimal n.passes) ++ (codes " " ++ in_columns 8 (decimal n.ticks)))

abbrev pub compared_text : Compared → List ℕ
compared_text c = numbers_text c.run ++ numbers_text c.bound

-- the lines of a text by their addresses; an image has none
abbrev pub lines_in : Source → SourceText → Option (ℕ → Option Numbered)
lines_in source (Lines bytes placed) = Some (line_of source)
lines_in source Image = None

-- after so many columns: the address, and the number and the text of its line, or the word and its line
abbrev pub IsEnd : Option (ℕ → Option Numbered) → (used : ℕ) → Difference → List ℕ → Type 0
IsEnd (Some line) used d end = end ≡ line_row used d.at (line d.at)
IsEnd None used d end = IsShownRow used (d.at, d.word) end

-- how often the run and the walk pass a word, and their ticks there
abbrev pub IsDifferenceRow : Option (ℕ → Option Numbered) → Difference → List ℕ → Type 0
IsDifferenceRow lines d row =
    (end : List ℕ) × IsEnd lines (length (compared_text d.compared)) d end
    × (row ≡ compared_text d.compared ++ end)

-- ## Sums

abbrev pub cause_name : Cause → List ℕ
cause_name OtherWay = codes "another way, or other turns"
cause_name Multiply = codes "multiplies"
cause_name Access = codes "devices and other classes"
cause_name Fetches = codes "quads and ROM"
cause_name Leaving = codes "the way out"

abbrev pub is_same : Cause → Cause → Bool
is_same OtherWay OtherWay = true
is_same Multiply Multiply = true
is_same Access Access = true
is_same Fetches Fetches = true
is_same Leaving Leaving = true
is_same one other = false

-- a number of each difference of that cause, in all
abbrev pub sum_of : (Difference → ℕ) → Cause → List Difference → ℕ
sum_of number cause list = capped (sum_by (λ d. cond (is_same d.cause cause) (number d) 0) list)

-- by how many ticks the run takes less where the cause is this, and by how many more
abbrev pub sum_row : (less more : ℕ) → Cause → List ℕ
sum_row less more cause =
    in_columns 8 (decimal less)
    ++ (codes " " ++ (in_columns 8 (decimal more) ++ (codes "  " ++ (cause_name cause ++ codes "\n"))))

-- nothing where it is neither
abbrev pub sum_row_if : (less more : ℕ) → Cause → List ℕ
sum_row_if less more cause = if less + more == 0 then [] else sum_row less more cause

abbrev pub cause_row : List Difference → Cause → List ℕ
cause_row list cause = sum_row_if (sum_of less cause list) (sum_of more cause list) cause

abbrev pub causes : List Cause
causes = OtherWay ∷ Multiply ∷ Access ∷ Fetches ∷ Leaving ∷ []

abbrev pub sum_rows : List Difference → List ℕ
sum_rows list = flat_map (cause_row list) causes

-- ## The table

abbrev pub upper_heading : List ℕ
upper_heading = codes "              run            bound\n"

-- above the rows of a text, or of an image
abbrev pub heading_of : SourceText → List ℕ
heading_of (Lines bytes placed) =
    upper_heading ++ codes "  passes    ticks  passes    ticks   address  line  text\n"
heading_of Image = upper_heading ++ codes "  passes    ticks  passes    ticks   address      word  text\n"

abbrev pub sums_heading : List ℕ
sums_heading = codes "    less     more  ticks of the run, by\n"

-- a row for each word of the source, which has these words, where the two differ, the greatest difference
-- first; and below them their sums by cause; no text where they nowhere differ
pub record IsTable (source : File) (words : Words) (st : Stated) (flow : Flow) (compared : ℕ → Compared)
    (text : List ℕ) : Type 0 where
  pub read : Source
  pub is_read : IsSource source read
  pub words_are : read.image ≡ words
  pub list : List Difference
  pub is_listed : IsListed words st flow compared list
  pub rows : List ℕ
  pub are_rows : AreRows (IsDifferenceRow (lines_in read read.text)) list rows
  pub text_is : text ≡ section (heading_of read.text) rows ++ section sums_heading (sum_rows list)
