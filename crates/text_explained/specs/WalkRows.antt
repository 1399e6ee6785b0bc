-- The rows of a bound's table, as they are.
use Rattle.std.specs.Prelude.{◌≡◌, ℕ, List, map, Option}
use Rattle.control_flow.specs.Flow.{Flow}
use Rattle.control_flow.specs.declared.edges.Edge.{Edge}
use Rattle.image.specs.Image.{Words}
use Rattle.sources.specs.declared.read.Source.{Source}
use Rattle.statement.specs.Stated.{Stated}
use Rattle.text_explained.specs.Pricing.{ArePriced}
use Rattle.text_explained.specs.Table.{WordStarts, row_of, source_rows, walk_figures}
use Rattle.text_explained.specs.declared.pricing.Pricing.{Pricing}
use Rattle.text_explained.specs.declared.table_rows.TableRow.{TableRow}

-- of a source, by an image, the statement, the flow graph, a walk that costs so much, and when its words
-- begin: those of the source's lines, or of its words, with the figures of the walk
abbrev pub AreWalkRows : Source → Words → Stated → Flow → List Edge → WordStarts → ℕ → List TableRow → Type 0
AreWalkRows source image st flow walk starts bound rows =
    (priced : ℕ → Option Pricing) × ArePriced image st flow priced
    × (map row_of rows ≡ source_rows (walk_figures flow walk starts bound priced) source.image source.text)
