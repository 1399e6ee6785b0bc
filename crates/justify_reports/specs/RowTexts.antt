-- The rows as they are printed.
use Rattle.std.specs.Prelude.{◌≡◌, ◌==◌, ℕ, if◌then◌else◌, List, [], ◌++◌, codes, decimal, length, Option}
use Rattle.std.specs.Prelude.{Some, None}
use Rattle.asm_text.specs.Hex.{hex8}
use Rattle.image.specs.Image.{Words, word_of}
use Rattle.sources.specs.Lines.{line_of}
use Rattle.sources.specs.declared.read.Source.{Source}
use Rattle.statement.specs.Statement.{class_name}
use Rattle.known_words.specs.declared.words.Range.{Range}
use Rattle.text_rows.specs.Columns.{in_columns}
use Rattle.text_rows.specs.Rows.{AreRows, IsShownRow, address_row, named_row}
use Rattle.text_rows.specs.WordLines.{Numbered}
use Rattle.justify_reports.specs.declared.returns.Going.{Going}
use Rattle.justify_reports.specs.declared.returns.Going.TheVariants.{AfterCall, Back, BackInside, Elsewhere}
use Rattle.justify_reports.specs.declared.returns.Going.TheVariants.{Out, Unseen}
use Rattle.justify_reports.specs.declared.rows.Entry.{Entry}
use Rattle.justify_reports.specs.declared.rows.Entry.TheVariants.{Access, Base, Endless, Loop, Return}
use Rattle.justify_reports.specs.declared.rows.Reach.{Reach}
use Rattle.justify_reports.specs.declared.rows.Reach.TheVariants.{Of, Outside}
use Rattle.justify_reports.specs.declared.rows.Row.{Row}
use Rattle.justify_reports.specs.declared.rows.Verdict.{Verdict}
use Rattle.justify_reports.specs.declared.rows.Verdict.TheVariants.{False, Follows, OnTrust}

-- the kind of an entry
abbrev pub kind_text : Entry → List ℕ
kind_text (Access reach) = codes "  access"
kind_text (Base reach) = codes "  base  "
kind_text (Return going) = codes "  return"
kind_text (Loop bound) = codes "  loop  "
kind_text Endless = codes "  loop  "

-- the address in R14 at the entry, less so many bytes
abbrev pub link_text : (bytes : ℕ) → List ℕ
link_text bytes = codes "R14 at entry" ++ (if bytes == 0 then [] else codes " - " ++ decimal bytes)

abbrev pub going_text : Going → List ℕ
going_text (Back bytes) = link_text bytes
going_text (BackInside bytes) = link_text bytes
going_text AfterCall = codes "after its call"
going_text (Out a) = codes "to " ++ hex8 a
going_text Unseen = codes "unknown"
going_text (Elsewhere a) = codes "to " ++ hex8 a

-- the addresses from the lowest to the highest
abbrev pub range_text : Range → List ℕ
range_text range =
    if range.low == range.high then codes "to " ++ hex8 range.low
    else hex8 range.low ++ (codes "-" ++ hex8 range.high)

abbrev pub reach_text : Reach → List ℕ
reach_text (Of class) = class_name class
reach_text (Outside range) = range_text range

-- what is stated, a class or the most back edges of a stay; or where a word goes outside of its class, or
-- where a return goes, or that no run leaves a loop
abbrev pub stated_text : Entry → List ℕ
stated_text (Access reach) = reach_text reach
stated_text (Base reach) = reach_text reach
stated_text (Return going) = going_text going
stated_text (Loop bound) = codes "at most " ++ decimal bound
stated_text Endless = codes "not left"

abbrev pub verdict_text : Verdict → List ℕ
verdict_text Follows = codes "  follows "
verdict_text OnTrust = codes "  ON TRUST"
verdict_text False = codes "  FALSE   "

-- the columns of a row before its word
abbrev pub front_text : Row → List ℕ
front_text row = kind_text row.entry ++ (in_columns 17 (stated_text row.entry) ++ verdict_text row.verdict)

-- the word at the address, and its line; or the address alone, where no word is
abbrev pub IsWordEnd : (used at : ℕ) → Option ℕ → List ℕ → Type 0
IsWordEnd used at None end = end ≡ address_row at
IsWordEnd used at (Some word) end = IsShownRow used (at, word) end

-- the number and the text of its line in a source that is a text
abbrev pub IsEnd : Words → (used at : ℕ) → Option Numbered → List ℕ → Type 0
IsEnd words used at None end = IsWordEnd used at (word_of words at) end
IsEnd words used at (Some line) end = end ≡ named_row used at line.number line.text

pub record IsRowText (read : Source) (words : Words) (row : Row) (text : List ℕ) : Type 0 where
  pub end : List ℕ
  pub end_is : IsEnd words (length (front_text row)) row.at (line_of read row.at) end
  pub text_is : text ≡ front_text row ++ end

-- all rows
abbrev pub AreRowTexts : Source → Words → List Row → List ℕ → Type 0
AreRowTexts read words = AreRows (IsRowText read words)
