-- What the table of a bound is about: the lines of a source or the words of an image, and what is said of
-- each.
use Rattle.std.specs.Prelude.{ℕ, ◌+◌, Bool, ◌==◌, if◌then◌else◌, List, [], ◌∷◌, ◌++◌, find}
use Rattle.std.specs.Prelude.{flat_map, map}
use Rattle.std.specs.Prelude.{nat_lt, option_and_then, option_map, sum_by, unwrap_or, Option, Some, None}
use Rattle.std.specs.Prelude.{is_some}
use Rattle.std.specs.List.{list_any}
use Rattle.std.specs.Option.{option_or}
use Rattle.asm_text.specs.Source.{lines_of}
use Rattle.assembler.specs.Assembles.{addresses_from}
use Rattle.assembler.specs.declared.placed_line.PlacedLine.{PlacedLine}
use Rattle.control_flow.specs.Flow.{Flow}
use Rattle.control_flow.specs.declared.edges.Edge.{Edge}
use Rattle.control_flow.specs.declared.places.Place.{Place}
use Rattle.image.specs.Image.{Words}
use Rattle.sources.specs.declared.read.SourceText.{SourceText}
use Rattle.sources.specs.declared.read.SourceText.TheVariants as text
use Rattle.walk_counts.specs.Counts.{capped}
use Rattle.text_explained.specs.Starts.{latest_at}
use Rattle.text_explained.specs.Taken.{taken_at}
use Rattle.text_explained.specs.declared.cost_figures.RowFigures.{RowFigures}
use Rattle.text_explained.specs.declared.pricing.Pricing.{Pricing}
use Rattle.text_explained.specs.declared.table_rows.RowLine.{RowLine}
use Rattle.text_explained.specs.declared.table_rows.RowLine.TheVariants as row_line
use Rattle.text_explained.specs.declared.table_rows.TableRow.{TableRow}
use Rattle.text_explained.specs.declared.walk_tally.Costs.{Costs}
use Rattle.text_explained.specs.declared.walk_tally.Taken.{Taken}

-- ## Lines

abbrev pub words_of : PlacedLine → List ℕ
words_of line = addresses_from line.at line.words

abbrev pub passes_of : Option Taken → ℕ
passes_of None = 0
passes_of (Some t) = t.passes

abbrev pub done_of : Option Taken → ℕ
done_of None = 0
done_of (Some t) = t.done

abbrev pub costs_of : Option Taken → Option Costs
costs_of None = None
costs_of (Some t) = t.costs

abbrev pub prices_of : Option Taken → Option Costs
prices_of None = None
prices_of (Some t) = t.prices

abbrev pub ticks_of : Option Taken → ℕ
ticks_of None = 0
ticks_of (Some t) = t.ticks

-- what is taken at each address, None where no place is
module _ (taken : ℕ → Option Taken) where
  -- a place is at one of the words
  abbrev pub is_any_reached : (from count : ℕ) → Bool
  is_any_reached from count = list_any (λ a. is_some (taken a)) (addresses_from from count)

  -- the walk passes the address
  abbrev pub is_passed : ℕ → Bool
  is_passed a = nat_lt 0 (passes_of (taken a))

  -- the first of a line's words that the walk passes; if it passes none, the first at which a place is
  abbrev pub told_word : PlacedLine → Option ℕ
  told_word line =
      option_or (find is_passed (words_of line)) (find (λ a. is_some (taken a)) (words_of line))

  -- the word of which the row of a line tells: that one, and if no place is on the line, the first
  abbrev pub told_at : PlacedLine → ℕ
  told_at line = unwrap_or (told_word line) line.at

  -- the ticks at the words
  abbrev pub ticks_in : (from count : ℕ) → ℕ
  ticks_in from count = capped (sum_by (λ a. ticks_of (taken a)) (addresses_from from count))

  -- what is taken at an address, with the ticks of all words of a line
  abbrev pub taken_on : PlacedLine → ℕ → Option Taken
  taken_on line a = option_map (λ (t : Taken). record t { ticks = ticks_in line.at line.words }) (taken a)

  -- the passes of the word that is told of, how many do it, the ticks of each and of any, and the ticks of
  -- all words; None where no place is on the line
  abbrev pub line_taken : PlacedLine → Option Taken
  line_taken line =
      if is_any_reached line.at line.words
      then Some (record {
        passes = passes_of (taken (told_at line));
        done = done_of (taken (told_at line));
        ticks = ticks_in line.at line.words;
        costs = costs_of (taken (told_at line));
        prices = prices_of (taken (told_at line));
      }) else None

  -- the ticks of all lines
  abbrev pub source_ticks : List PlacedLine → ℕ
  source_ticks placed = capped (sum_by (λ line. ticks_in line.at line.words) placed)

  -- the ticks of all words
  abbrev pub image_ticks : Words → ℕ
  image_ticks words = capped (sum_by (λ e. ticks_of (taken e.0)) words)

-- ## Of a source

-- the words of its lines, or of its image, in their order
abbrev pub listed_words : Words → SourceText → List ℕ
listed_words words (text.Lines bytes placed) = flat_map words_of placed.items
listed_words words text.Image = map (λ e. e.0) words

-- the ticks of all rows, where so much is taken at each address
abbrev pub all_ticks : (ℕ → Option Taken) → Words → SourceText → ℕ
all_ticks taken words (text.Lines bytes placed) = source_ticks taken placed.items
all_ticks taken words text.Image = image_ticks taken words

-- ## Figures

-- when the word at each address begins, at the latest: for the first time, if that is asked for, and at all
pub record WordStarts : Type 0 where
  pub first : Option (ℕ → Option ℕ)
  pub latest : ℕ → Option ℕ

-- by the worst starts of the graph's places, and by first starts
abbrev pub starts_of : List Place → List ℕ → Option (ℕ → Option ℕ) → WordStarts
starts_of places starts first = record { first = first; latest = latest_at places starts }

-- what is taken at each address, when the word there begins, and what its price takes for granted, each None
-- where no place is; and the bound
pub record WalkFigures : Type 0 where
  pub taken : ℕ → Option Taken
  pub starts : WordStarts
  pub priced : ℕ → Option Pricing
  pub bound : ℕ

-- None where first starts are not asked for
abbrev pub first_at : Option (ℕ → Option ℕ) → ℕ → Option ℕ
first_at first a = option_and_then (λ starts. starts a) first

-- those of a row: what is taken there, with the starts and the price of the word at an address
abbrev pub row_figures : WalkFigures → Option Taken → (at : ℕ) → RowFigures
row_figures walk taken at =
    record {
      taken = taken;
      first = first_at walk.starts.first at;
      latest = walk.starts.latest at;
      pricing = walk.priced at;
      bound = walk.bound;
    }

-- of a line, and of the word that is told of
abbrev pub line_figures : WalkFigures → PlacedLine → RowFigures
line_figures walk p = row_figures walk (line_taken walk.taken p) (told_at walk.taken p)

abbrev pub word_figures : WalkFigures → ℕ → RowFigures
word_figures walk at = row_figures walk (walk.taken at) at

-- of a walk that costs so much, when its words begin, and their prices
abbrev pub walk_figures : Flow → List Edge → WordStarts → ℕ → (priced : ℕ → Option Pricing) → WalkFigures
walk_figures flow walk starts bound priced =
    record { taken = taken_at flow walk; starts = starts; priced = priced; bound = bound }

-- ## Rows

-- a row is of a line of a source, by its number and its text, or of a word of an image
pub data Subject : Type 0 where
  line : ℕ → List ℕ → Subject
  word : ℕ → Subject

-- with the address of the word of which it tells, and the figures
pub record Row : Type 0 where
  pub at : ℕ
  pub figures : RowFigures
  pub subject : Subject

module _ (walk : WalkFigures) where
  -- the row of a line, if it has words
  abbrev pub line_row : ℕ → List ℕ → PlacedLine → List Row
  line_row n text p =
      if p.words == 0 then []
      else record { at = told_at walk.taken p; figures = line_figures walk p; subject = line n text } ∷ []

  -- the rows of lines, each where it is placed, with numbers from one on
  abbrev pub line_rows : ℕ → List (List ℕ) → List PlacedLine → List Row
  line_rows n (text ∷ lines) (p ∷ placed) = line_row n text p ++ line_rows (n + 1) lines placed
  line_rows n _ _ = []

  -- the row of a word at its address
  abbrev pub word_row : ℕ × ℕ → Row
  word_row e = record { at = e.0; figures = word_figures walk e.0; subject = word e.1 }

  -- those of a source's lines, or of an image's words
  abbrev pub source_rows : Words → SourceText → List Row
  source_rows words (text.Lines bytes placed) = line_rows 1 (lines_of bytes.now) placed.items
  source_rows words text.Image = map word_row words

-- what a row of the program is
abbrev pub subject_of : RowLine → Subject
subject_of (row_line.Text l) = line l.number l.text.now
subject_of (row_line.Word w) = word w

abbrev pub row_of : TableRow → Row
row_of r = record { at = r.at; figures = r.figures; subject = subject_of r.line }
