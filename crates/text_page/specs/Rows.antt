-- The rows of a page: a line of a source, or a word of an image, each with what a greatest walk takes there.
use Rattle.std.specs.Prelude.{◌≡◌, ℕ, ◌==◌, ◌&&◌, Bool, false, if◌then◌else◌, List, [], ◌∷◌, ◌++◌}
use Rattle.std.specs.Prelude.{codes, decimal, Option, Some, None}
use Rattle.std.specs.List.{flat_map}
use Rattle.std.specs.Option.{option_or}
use Rattle.asm_text.specs.Hex.{hex}
use Rattle.assembler.specs.ShownLines.{IsShown}
use Rattle.statement.specs.Stated.{Target}
use Rattle.statement.specs.declared.stated.TargetKind.{TargetKind}
use Rattle.statement.specs.declared.stated.TargetKind.TheVariants.{Jump, Call, Return, Leave}
use Rattle.text_rows.specs.Rows.{section}
use Rattle.text_explained.specs.Columns.{share_text, thousandths}
use Rattle.text_explained.specs.Pricing.{pricing_text}
use Rattle.text_explained.specs.Printed.{each_text}
use Rattle.text_explained.specs.declared.pricing.Pricing.{Pricing}
use Rattle.text_explained.specs.declared.table_rows.RowLine.{RowLine}
use Rattle.text_explained.specs.declared.table_rows.RowLine.TheVariants.{Text, Word}
use Rattle.text_explained.specs.declared.table_rows.TableRow.{TableRow}
use Rattle.text_explained.specs.declared.walk_tally.Costs.{Costs}
use Rattle.text_explained.specs.declared.walk_tally.Taken.{Taken}
use Rattle.text_graph.specs.Fills.{fill}
use Rattle.text_page.specs.Html.{escaped}
use Rattle.text_page.specs.Noted.{IsLink, Noted}
use Rattle.text_page.specs.declared.folds.Fold.{Fold}
use Rattle.text_page.specs.declared.folds.Part.{Part}
use Rattle.text_page.specs.declared.folds.Part.TheVariants as part
use Rattle.text_page.specs.declared.page_lines.PageLine.{PageLine}
use Rattle.text_page.specs.declared.page_lines.PageLine.TheVariants.{Begun, Row, Ended}

-- ## What is said of a row under the pointer

abbrev pub line_text : RowLine → List ℕ
line_text (Text l) = codes "line " ++ (decimal l.number ++ codes ": ")
line_text (Word w) = []

-- a pass takes one tick
abbrev pub is_one_tick : Option Costs → Bool
is_one_tick None = false
is_one_tick (Some c) = c.least == 1 && c.greatest == 1

-- the ticks of a pass; where the walk never passes, those that one may have
abbrev pub each_ticks : Taken → List ℕ
each_ticks t =
    each_text t ++ (if is_one_tick (option_or t.costs t.prices) then codes " tick" else codes " ticks")

-- before these, how often the walk passes
abbrev pub passes_text : (passes : ℕ) → List ℕ
passes_text n =
    if n == 0 then codes "off the path, each time "
    else if n == 1 then codes "once, " else decimal n ++ codes " passes, each "

abbrev pub taken_text : Option Taken → List ℕ
taken_text None = codes "never reached"
taken_text (Some t) = passes_text t.passes ++ each_ticks t

-- what the price takes for granted, if it does anything
abbrev pub priced_text : Option Pricing → List ℕ
priced_text p = section (codes ", priced as ") (escaped (pricing_text p))

abbrev pub begins_at : ℕ → List ℕ
begins_at ticks = codes ", begins by tick " ++ decimal ticks

abbrev pub begins_text : Option ℕ → List ℕ
begins_text None = []
begins_text (Some ticks) = begins_at ticks

-- the bound of a loop, at its header
abbrev pub loop_bound : ℕ → List ℕ
loop_bound bound = codes ", loop bound " ++ decimal bound

abbrev pub bound_text : Option ℕ → List ℕ
bound_text None = []
bound_text (Some bound) = loop_bound bound

abbrev pub kind_text : TargetKind → List ℕ
kind_text Jump = codes ", jumps to"
kind_text Call = codes ", calls"
kind_text Return = codes ", returns"
kind_text Leave = codes ", leaves"

abbrev pub destination : ℕ → List ℕ
destination a = codes " " ++ hex a

-- what is stated that the word does, with the destinations
abbrev pub target_text : Option Target → List ℕ
target_text None = []
target_text (Some t) = kind_text t.kind ++ flat_map destination t.to

-- what is stated of the word at an address
abbrev pub stated_text : Noted → (at : ℕ) → List ℕ
stated_text notes at = bound_text (notes.bound at) ++ target_text (notes.target at)

abbrev pub hover_text : Noted → TableRow → List ℕ
hover_text notes row =
    line_text row.line
    ++ (taken_text row.figures.taken
    ++ (priced_text row.figures.pricing
    ++ (begins_text row.figures.latest ++ stated_text notes row.at)))

-- ## Cells

abbrev pub cell : List ℕ → List ℕ
cell text = codes "<span>" ++ (text ++ codes "</span>")

-- as wide as the ticks' share of the bound, and filled by it as a drawing's nodes are
abbrev pub bar : (ticks bound : ℕ) → List ℕ
bar ticks bound =
    codes "<span class=\"bar\"><i style=\"width:"
    ++ (share_text ticks bound
    ++ (codes ";background:" ++ (fill (thousandths ticks bound) ++ codes "\"></i></span>")))

-- how often, the ticks of all times, and their share in digits and as a bar
abbrev pub taken_cells : (bound : ℕ) → Taken → List ℕ
taken_cells bound t =
    cell (decimal t.passes)
    ++ (cell (decimal t.ticks) ++ (cell (share_text t.ticks bound) ++ bar t.ticks bound))

-- empty where no walk ever comes
abbrev pub cells : (bound : ℕ) → Option Taken → List ℕ
cells bound None = codes "<span></span><span></span><span></span><span></span>"
cells bound (Some t) = taken_cells bound t

-- ## Rows

-- grey where the walk does not pass, and where no walk ever comes
abbrev pub row_class : Option Taken → List ℕ
row_class None = codes "row never"
row_class (Some t) = if t.passes == 0 then codes "row off" else codes "row"

-- the name of a row, by which links lead to it
abbrev pub anchor : (at : ℕ) → List ℕ
anchor at = codes "a" ++ hex at

-- the beginning of a link to a row
abbrev pub row_link : (at : ℕ) → List ℕ
row_link at = codes "<a href=\"#" ++ (anchor at ++ codes "\">")

-- an address as a link to its row
abbrev pub address_link : (at : ℕ) → List ℕ
address_link at = row_link at ++ (hex at ++ codes "</a>")

abbrev pub row_tag : Noted → TableRow → List ℕ
row_tag notes row =
    codes "<div class=\""
    ++ (row_class row.figures.taken
    ++ (codes "\" id=\""
    ++ (anchor row.at ++ (codes "\" title=\"" ++ (hover_text notes row ++ codes "\">")))))

-- a row up to the text of its line
abbrev pub row_front : Noted → TableRow → List ℕ
row_front notes row =
    row_tag notes row
    ++ (address_link row.at ++ (cells row.figures.bound row.figures.taken ++ codes "<code>"))

-- the text of a source's line, or the line that the word at an address is shown as
abbrev pub IsLineOf : (at : ℕ) → RowLine → List ℕ → Type 0
IsLineOf at (Text l) shown = shown ≡ l.text.now
IsLineOf at (Word w) shown = IsShown w at shown

-- that, escaped
abbrev pub IsShownPart : TableRow → List ℕ → Type 0
IsShownPart row part = (shown : List ℕ) × IsLineOf row.at row.line shown × (part ≡ escaped shown)

-- before and after a text that leads to a row
abbrev pub link_begin : Option ℕ → List ℕ
link_begin None = []
link_begin (Some at) = row_link at

abbrev pub link_end : Option ℕ → List ℕ
link_end None = []
link_end (Some at) = codes "</a>"

-- the line of a row, a link where its word leads to a row
pub record IsLinePart (notes : Noted) (row : TableRow) (part : List ℕ) : Type 0 where
  pub text : List ℕ
  pub is_text : IsShownPart row text
  pub link : Option ℕ
  pub is_link : IsLink notes row.at link
  pub is : part ≡ link_begin link ++ (text ++ link_end link)

abbrev pub IsRow : Noted → TableRow → List ℕ → Type 0
IsRow notes row part =
    (line : List ℕ) × IsLinePart notes row line
    × (part ≡ row_front notes row ++ (line ++ codes "</code></div>\n"))

-- ## Lines

-- a label, and the address where there is none
abbrev pub name_text : (label : List ℕ) → (at : ℕ) → List ℕ
name_text [] at = hex at
name_text (byte ∷ label) at = escaped (byte ∷ label)

abbrev pub part_text : Part → List ℕ
part_text part.Routine = codes "routine "
part_text (part.Loop bound) = codes "loop "

-- the bound of a loop
abbrev pub turns_text : Part → List ℕ
turns_text part.Routine = []
turns_text (part.Loop bound) = codes ", bound " ++ decimal bound

abbrev pub ticks_text : ℕ → List ℕ
ticks_text n = decimal n ++ (if n == 1 then codes " tick, " else codes " ticks, ")

-- what stands for a stretch that is folded: what it is, its name, the bound of a loop, and the ticks of the
-- rows that it hides, with their share of the bound
abbrev pub summary : Noted → (bound : ℕ) → Fold → (ticks : ℕ) → List ℕ
summary notes bound f ticks =
    part_text f.part
    ++ (name_text (notes.label f.name) f.name
    ++ (turns_text f.part ++ (codes ": " ++ (ticks_text ticks ++ share_text ticks bound))))

-- a stretch is folded and unfolded by a click
abbrev pub begin_text : Noted → (bound : ℕ) → Fold → (ticks : ℕ) → List ℕ
begin_text notes bound f ticks =
    codes "<details open><summary>" ++ (summary notes bound f ticks ++ codes "</summary>\n")

abbrev pub IsLine : Noted → (bound : ℕ) → PageLine → List ℕ → Type 0
IsLine notes bound (Begun f ticks) text = text ≡ begin_text notes bound f ticks
IsLine notes bound (Row row) text = IsRow notes row text
IsLine notes bound Ended text = text ≡ codes "</details>\n"
