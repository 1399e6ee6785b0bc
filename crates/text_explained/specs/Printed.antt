-- The table of a bound as it is printed.
use Rattle.std.specs.Prelude.{◌≡◌, ℕ, ◌-◌, max, Bool, ◌==◌, true, false, if◌then◌else◌, List, [], ◌∷◌, ◌++◌}
use Rattle.std.specs.Prelude.{length, codes, decimal, flat_map, fold, map, option_and_then}
use Rattle.std.specs.Prelude.{Option, Some, None, is_some}
use Rattle.std.specs.Option.{option_or}
use Rattle.asm_text.specs.Appended.{Appends}
use Rattle.asm_text.specs.Hex.{hex}
use Rattle.assembler.specs.ShownLines.{IsShown}
use Rattle.control_flow.specs.Flow.{Flow}
use Rattle.control_flow.specs.declared.edges.Edge.{Edge}
use Rattle.image.specs.Image.{Words}
use Rattle.sources.specs.declared.read.Source.{Source}
use Rattle.sources.specs.declared.read.SourceText.{SourceText}
use Rattle.sources.specs.declared.read.SourceText.TheVariants as text
use Rattle.statement.specs.Stated.{Stated}
use Rattle.text_rows.specs.Columns.{in_columns}
use Rattle.text_rows.specs.Rows.{AreRows}
use Rattle.text_explained.specs.Columns.{bound_line, in_column, name_of, other_columns, share_text}
use Rattle.text_explained.specs.Columns.{taken_columns}
use Rattle.text_explained.specs.Dearest.{AreChosen, is_unfolded}
use Rattle.text_explained.specs.Folding.{AreShown}
use Rattle.text_explained.specs.Pricing.{ArePriced, pricing_text}
use Rattle.text_explained.specs.ShownTexts.{cut_text, squeezed}
use Rattle.text_explained.specs.Table.{WalkFigures, WordStarts, all_ticks, row_of, source_rows, walk_figures}
use Rattle.text_explained.specs.declared.cost_columns.Column.{Column}
use Rattle.text_explained.specs.declared.cost_columns.Column.TheVariants.{Passes, Each, Ticks, Share, First}
use Rattle.text_explained.specs.declared.cost_columns.Column.TheVariants.{Latest, PricedAs, Address, Line}
use Rattle.text_explained.specs.declared.cost_columns.Widths.{Widths}
use Rattle.text_explained.specs.declared.folding.Fold.{Fold}
use Rattle.text_explained.specs.declared.folding.TableLine.{TableLine}
use Rattle.text_explained.specs.declared.folding.TableLine.TheVariants as table_line
use Rattle.text_explained.specs.declared.folding.Total.{Total}
use Rattle.text_explained.specs.declared.pricing.Pricing.{Pricing}
use Rattle.text_explained.specs.declared.printed_rows.Layout.{Layout}
use Rattle.text_explained.specs.declared.table.RowForm.{RowForm}
use Rattle.text_explained.specs.declared.table_rows.RowLine.{RowLine}
use Rattle.text_explained.specs.declared.table_rows.RowLine.TheVariants as row_line
use Rattle.text_explained.specs.declared.table_rows.TableRow.{TableRow}
use Rattle.text_explained.specs.declared.walk_tally.Costs.{Costs}
use Rattle.text_explained.specs.declared.walk_tally.Taken.{Taken}

-- ## What stands in the columns

-- one number, or from the least to the greatest
abbrev pub costs_text : Option Costs → List ℕ
costs_text None = codes "-"
costs_text (Some c) =
    if c.least == c.greatest then decimal c.least else decimal c.least ++ (codes "-" ++ decimal c.greatest)

-- the ticks of a pass; where the walk never passes, those that one may have
abbrev pub each_text : Taken → List ℕ
each_text t = costs_text (option_or t.costs t.prices)

-- how often, the ticks each time, and those of all times with what part of the bound they are
abbrev pub taken_cell : (bound : ℕ) → Taken → Column → List ℕ
taken_cell bound t Passes = decimal t.passes
taken_cell bound t Each = each_text t
taken_cell bound t Ticks = decimal t.ticks
taken_cell bound t Share = share_text t.ticks bound
taken_cell bound t c = []

-- nothing where no place is
abbrev pub place_cell : (bound : ℕ) → Option Taken → Column → List ℕ
place_cell bound None c = []
place_cell bound (Some t) c = taken_cell bound t c

-- the tick by which it begins; nothing where no place is
abbrev pub start_text : Option ℕ → List ℕ
start_text None = []
start_text (Some ticks) = decimal ticks

-- of two ticks that differ the first one
abbrev pub unless_same : (first latest : ℕ) → Option ℕ
unless_same first latest = if first == latest then None else Some first

-- that by which it begins for the first time, where the latest one is another
abbrev pub first_shown : (first latest : Option ℕ) → Option ℕ
first_shown first None = first
first_shown first (Some latest) = option_and_then (λ ticks. unless_same ticks latest) first

abbrev pub number_text : RowLine → List ℕ
number_text (row_line.Text l) = decimal l.number
number_text (row_line.Word w) = []

-- when it begins for the first time and at the latest, what its price takes for granted, the address of the
-- word of which the row tells, and the number of the line; and what is taken
abbrev pub row_cell : TableRow → Column → List ℕ
row_cell row First = start_text (first_shown row.figures.first row.figures.latest)
row_cell row Latest = start_text row.figures.latest
row_cell row PricedAs = pricing_text row.figures.pricing
row_cell row Address = hex row.at
row_cell row Line = number_text row.line
row_cell row c = place_cell row.figures.bound row.figures.taken c

abbrev pub total_cell : Total → Column → List ℕ
total_cell t Ticks = decimal t.ticks
total_cell t Share = share_text t.ticks t.bound
total_cell t c = []

-- of the line of the names, of a row, of rows that are folded, and of the ticks of all rows
abbrev pub cell_text : TableLine → Column → List ℕ
cell_text table_line.Names c = name_of c
cell_text (table_line.Row row) c = row_cell row c
cell_text (table_line.Fold f) c = []
cell_text (table_line.Total t) c = total_cell t c

-- ## Widths

-- a column is as wide as the widest of its texts in the lines of the table
abbrev pub widest : List TableLine → Column → ℕ
widest lines c = fold (λ w line. max w (length (cell_text line c))) 0 lines

abbrev pub widths_of : List TableLine → Widths
widths_of lines =
    record {
      passes = widest lines Passes;
      each = widest lines Each;
      ticks = widest lines Ticks;
      share = widest lines Share;
      first = widest lines First;
      latest = widest lines Latest;
      priced_as = widest lines PricedAs;
      address = widest lines Address;
      line = widest lines Line;
    }

-- ## Lines

abbrev pub cells : Widths → TableLine → List Column → List ℕ
cells w line columns = flat_map (λ c. in_column w c (cell_text line c)) columns

-- a text that ends where these columns of a line do, in place of what stands in them
abbrev pub over_cells : Widths → TableLine → List Column → List ℕ → List ℕ
over_cells w line columns text = in_columns (length (cells w line columns)) text

-- what is taken, or that no walk ever comes there
abbrev pub taken_text : Widths → TableRow → List ℕ
taken_text w row =
    if is_some row.figures.taken then cells w (table_line.Row row) taken_columns
    else over_cells w (table_line.Row row) taken_columns (codes "never reached")

-- a row up to the text of its line
abbrev pub row_columns : Layout → TableRow → List ℕ
row_columns layout row =
    taken_text layout.widths row
    ++ (cells layout.widths (table_line.Row row) layout.columns.now ++ codes "  ")

-- the text of a source's line, or the line that the word at an address is shown as
abbrev pub IsTextOf : (at : ℕ) → RowLine → List ℕ → Type 0
IsTextOf at (row_line.Text l) shown = shown ≡ squeezed l.text.now
IsTextOf at (row_line.Word w) shown = IsShown w at shown

-- as much of it as there is room for
abbrev pub IsRowEnd : (room : ℕ) → TableRow → List ℕ → Type 0
IsRowEnd room row part = (shown : List ℕ) × IsTextOf row.at row.line shown × (part ≡ cut_text room shown)

abbrev pub names_text : Layout → List ℕ
names_text layout =
    cells layout.widths table_line.Names taken_columns
    ++ (cells layout.widths table_line.Names layout.columns.now ++ codes "  text\n")

abbrev pub total_text : Widths → Total → List ℕ
total_text w t =
    over_cells w (table_line.Total t) (Passes ∷ Each ∷ []) (codes "total")
    ++ (cells w (table_line.Total t) (Ticks ∷ Share ∷ []) ++ codes "\n")

abbrev pub things : RowLine → List ℕ
things (row_line.Text l) = codes " lines "
things (row_line.Word w) = codes " words "

abbrev pub why_folded : Option Taken → List ℕ
why_folded None = codes "never reached, "
why_folded (Some t) = codes "off the path, "

-- the number of a line, or the address of a word
abbrev pub line_name : (at : ℕ) → RowLine → List ℕ
line_name at (row_line.Text l) = decimal l.number
line_name at (row_line.Word w) = hex at

abbrev pub row_name : TableRow → List ℕ
row_name row = line_name row.at row.line

-- how many they are, why they are folded, and from which to which
abbrev pub fold_text : Fold → List ℕ
fold_text f =
    decimal f.count
    ++ (things f.first.line ++ (why_folded f.first.figures.taken
    ++ (row_name f.first ++ (codes " to " ++ (row_name f.last ++ codes "\n")))))

abbrev pub IsLineText : Layout → TableLine → List ℕ → Type 0
IsLineText layout table_line.Names text = text ≡ names_text layout
IsLineText layout (table_line.Row row) text =
    Appends (IsRowEnd (layout.width - length (row_columns layout row)) row) (row_columns layout row) text
IsLineText layout (table_line.Fold f) text = text ≡ fold_text f
IsLineText layout (table_line.Total t) text = text ≡ total_text layout.widths t

-- ## Tables

-- the names of the columns, what is shown of the rows, and the ticks of all rows
abbrev pub AreLines : (all : Bool) → List TableRow → Total → List TableLine → Type 0
AreLines all rows total lines =
    (shown : List TableLine) × AreShown all rows shown
    × (lines ≡ table_line.Names ∷ (shown ++ table_line.Total total ∷ []))

abbrev pub has_lines : SourceText → Bool
has_lines (text.Lines bytes placed) = true
has_lines text.Image = false

-- the columns are as wide as what stands in them, and rows end where it is said
pub record IsLayout (walk : WalkFigures) (form : RowForm) (source : SourceText) (lines : List TableLine)
    (layout : Layout) : Type 0 where
  pub widths : layout.widths ≡ widths_of lines
  pub columns : layout.columns.now ≡ other_columns (is_some walk.starts.first) (has_lines source)
  pub width : layout.width ≡ form.width

-- the rows of a source's lines, or of an image's words, or the dearest of them; the sum of the ticks of all
-- of them, and the bound
pub record IsTableOf (walk : WalkFigures) (form : RowForm) (source : Source) (text : List ℕ) : Type 0 where
  pub all : List TableRow
  pub all_are : map row_of all ≡ source_rows walk source.image source.text
  pub rows : List TableRow
  pub rows_are : AreChosen form.top all rows
  pub lines : List TableLine
  pub lines_are : AreLines (is_unfolded form) rows
      (record { ticks = all_ticks walk.taken source.image source.text; bound = walk.bound }) lines
  pub layout : Layout
  pub layout_is : IsLayout walk form source.text lines layout
  pub table : List ℕ
  pub table_is : AreRows (IsLineText layout) lines table
  pub text_is : text ≡ table ++ bound_line walk.bound

-- by the source, an image, the statement, the flow graph, a walk that costs so much, when its words begin,
-- and how it is printed
abbrev pub IsTable : Source → Words → Stated → Flow → List Edge → WordStarts → ℕ → RowForm → List ℕ → Type 0
IsTable source image st flow walk starts bound form text =
    (priced : ℕ → Option Pricing) × ArePriced image st flow priced
    × IsTableOf (walk_figures flow walk starts bound priced) form source text
