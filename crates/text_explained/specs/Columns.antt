-- The columns of the table of a bound, and what stands in them.
use Rattle.std.specs.Prelude.{ℕ, ◌*◌, ◌/◌, ◌%◌, max, Bool, if◌then◌else◌, List, [], ◌∷◌, ◌++◌}
use Rattle.std.specs.Prelude.{codes, decimal}
use Rattle.text_rows.specs.Columns.{in_columns}
use Rattle.text_explained.specs.declared.cost_columns.Column.{Column}
use Rattle.text_explained.specs.declared.cost_columns.Column.TheVariants.{Passes, Each, Ticks, Share, First}
use Rattle.text_explained.specs.declared.cost_columns.Column.TheVariants.{Latest, PricedAs, Address, Line}
use Rattle.text_explained.specs.declared.cost_columns.Widths.{Widths}

-- ## Columns

abbrev pub name_of : Column → List ℕ
name_of Passes = codes "passes"
name_of Each = codes "each"
name_of Ticks = codes "ticks"
name_of Share = codes "share"
name_of First = codes "first"
name_of Latest = codes "latest"
name_of PricedAs = codes "priced as"
name_of Address = codes "address"
name_of Line = codes "line"

-- what parts it from the column in front of it
abbrev pub gap_text : Column → List ℕ
gap_text Passes = []
gap_text c = codes " "

-- those of what is taken, in their order
abbrev pub taken_columns : List Column
taken_columns = Passes ∷ Each ∷ Ticks ∷ Share ∷ []

-- a column, if it is asked for
abbrev pub if_asked : Bool → Column → List Column
if_asked asked c = if asked then c ∷ [] else []

-- the others: with first starts, if they are asked for, and of a source with the numbers of its lines
abbrev pub other_columns : (has_first has_lines : Bool) → List Column
other_columns has_first has_lines =
    if_asked has_first First ++ (Latest ∷ PricedAs ∷ Address ∷ if_asked has_lines Line)

-- ## Widths

abbrev pub width_of : Widths → Column → ℕ
width_of w Passes = w.passes
width_of w Each = w.each
width_of w Ticks = w.ticks
width_of w Share = w.share
width_of w First = w.first
width_of w Latest = w.latest
width_of w PricedAs = w.priced_as
width_of w Address = w.address
width_of w Line = w.line

-- a text that ends where its column does
abbrev pub in_column : Widths → Column → List ℕ → List ℕ
in_column w c text = gap_text c ++ in_columns (width_of w c) text

-- ## Texts

-- a part in thousandths, rounded down
abbrev pub thousandths : (ticks bound : ℕ) → ℕ
thousandths ticks bound = ticks * 1000 / max bound 1

-- in per cent, with one decimal
abbrev pub share_text : (ticks bound : ℕ) → List ℕ
share_text ticks bound =
    decimal (thousandths ticks bound / 10)
    ++ (codes "." ++ (decimal (thousandths ticks bound % 10) ++ codes "%"))

-- three digits
abbrev pub three_digits : ℕ → List ℕ
three_digits n = decimal (n / 100) ++ (decimal (n / 10 % 10) ++ decimal (n % 10))

-- eight ticks are a microsecond
abbrev pub microseconds_text : ℕ → List ℕ
microseconds_text ticks = decimal (ticks / 8) ++ (codes "." ++ three_digits (ticks % 8 * 125))

-- a time, up to the end of the line
abbrev pub time_text : ℕ → List ℕ
time_text ticks =
    decimal ticks ++ (codes " ticks, " ++ (microseconds_text ticks ++ codes " microseconds at 8 MHz\n"))

abbrev pub bound_line : ℕ → List ℕ
bound_line bound = codes "bound " ++ time_text bound
