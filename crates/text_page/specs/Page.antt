-- A page of HTML that shows where the ticks of a greatest walk go.
use Rattle.std.specs.Prelude.{◌≡◌, ℕ, Bool, List, [], ◌∷◌, ◌++◌, codes}
use Rattle.std.specs.List.{filter}
use Rattle.control_flow.specs.Flow.{Flow}
use Rattle.control_flow.specs.declared.edges.Edge.{Edge}
use Rattle.image.specs.Image.{Words}
use Rattle.sources.specs.Lines.{line_of}
use Rattle.sources.specs.declared.read.Source.{Source}
use Rattle.statement.specs.Stated.{Stated}
use Rattle.text_rows.specs.Rows.{AreRows}
use Rattle.text_explained.specs.Columns.{time_text}
use Rattle.text_explained.specs.Table.{WordStarts, passes_of}
use Rattle.text_explained.specs.WalkRows.{AreWalkRows}
use Rattle.text_explained.specs.declared.table_rows.TableRow.{TableRow}
use Rattle.text_graph.specs.Scene.{is_drawn}
use Rattle.text_graph.specs.declared.extent.Extent.{Extent}
use Rattle.text_page.specs.Html.{escaped}
use Rattle.text_page.specs.Noted.{label_of, noted}
use Rattle.text_page.specs.Rows.{IsLine, address_link}
use Rattle.text_page.specs.Folds.{lines_from, parts_of}

-- ## The head

-- how the page looks: a row is a grid of columns, and what the walk does not take is grey
abbrev pub body_style : List ℕ
body_style =
    codes "<style>\nbody{font:14px monospace;margin:1em}h1{font-size:1.3em;margin:0}a{color:inherit}\n"

abbrev pub row_style : List ℕ
row_style = codes ".row{display:grid;grid-template-columns:8ch 7ch 9ch 7ch 32ch auto;column-gap:1ch}\n"

abbrev pub cells_style : List ℕ
cells_style = codes ".row>*{text-align:right;white-space:pre}.row>code,.row>.bar{text-align:left}\n"

abbrev pub greys_style : List ℕ
greys_style =
    codes ".names{font-weight:bold;border-bottom:1px solid}.off{color:#777}.never{color:#999}\n"

abbrev pub bars_style : List ℕ
bars_style =
    codes ".row>.bar{background:#f4f4f4}.bar i{display:block;height:1em;outline:1px solid #b05000}\n"

-- the row that a link led to, or that is under the pointer
abbrev pub marked_style : List ℕ
marked_style = codes ".off i{outline:0}.row:hover,.row:target{background:#e8f0ff}\n</style>\n"

abbrev pub style : List ℕ
style = body_style ++ (row_style ++ (cells_style ++ (greys_style ++ (bars_style ++ marked_style))))

-- after an address
abbrev pub label_text : List ℕ → List ℕ
label_text [] = []
label_text (byte ∷ label) = codes ", " ++ escaped (byte ∷ label)

-- the bound is the title and the first line; the address and the label of the handler's entry stand below
abbrev pub heading : (bound entry : ℕ) → (label : List ℕ) → List ℕ
heading bound entry label =
    codes "<!DOCTYPE html>\n<html lang=\"en\">\n<head>\n<meta charset=\"utf-8\">\n<title>"
    ++ (time_text bound
    ++ (codes "</title>\n"
    ++ (style
    ++ (codes "</head>\n<body>\n<h1>"
    ++ (time_text bound
    ++ (codes "</h1>\n<p>at most, from the entry at "
    ++ (address_link entry ++ (label_text label ++ codes "</p>\n"))))))))

abbrev pub names : List ℕ
names =
    codes "<div class=\"row names\"><span>address</span><span>passes</span><span>ticks</span>"
    ++ codes "<span>share</span><span class=\"bar\">of the bound</span><code>line</code></div>\n"

abbrev pub ending : List ℕ
ending = codes "</body>\n</html>\n"

-- ## The page

-- the rows that are shown: all, or those that the walk passes
abbrev pub is_shown : Extent → TableRow → Bool
is_shown extent row = is_drawn extent (passes_of row.figures.taken)

-- By the source, an image, the statement, the flow graph, a walk that costs so much, when its words begin,
-- and how much is shown: the heading, a row for each line of the source or each word of the image that is
-- shown, in their order, the stretches of loops and routines folded, and the ending.
pub record IsPage (source : Source) (image : Words) (st : Stated) (flow : Flow) (walk : List Edge)
    (starts : WordStarts) (bound : ℕ) (extent : Extent) (text : List ℕ) : Type 0 where
  pub rows : List TableRow
  pub rows_are : AreWalkRows source image st flow walk starts bound rows
  pub listing : List ℕ
  pub listing_is : AreRows (IsLine (noted source image st (filter (is_shown extent) rows)) bound)
      (lines_from (parts_of st flow) [] (filter (is_shown extent) rows)) listing
  pub text_is : text
      ≡ heading bound st.entry (label_of (line_of source st.entry)) ++ (names ++ (listing ++ ending))
