-- What a walk takes in all in a stated loop, and in a routine that is called.
use Rattle.std.specs.Prelude.{◌≡◌, ℕ, ◌==◌, ◌&&◌, ◌||◌, Bool, false, if◌then◌else◌, nat_lt, List, []}
use Rattle.std.specs.Prelude.{◌++◌, length}
use Rattle.std.specs.Prelude.{codes, decimal}
use Rattle.std.specs.BTreeMap.{BTreeMap}
use Rattle.std.specs.List.{list_any}
use Rattle.control_flow.specs.Flow.{Flow}
use Rattle.control_flow.specs.declared.edges.Edge.{Edge}
use Rattle.control_flow.specs.declared.places.Place.{Place}
use Rattle.control_flow.specs.declared.places.Place.TheVariants.{At, Exit}
use Rattle.image.specs.Image.{Words}
use Rattle.loop_bounds.specs.Instance.{is_back_edge_of}
use Rattle.sources.specs.Lines.{AreLines}
use Rattle.sources.specs.declared.read.Source.{Source}
use Rattle.statement.specs.Stated.{StatedLoops, lies_within}
use Rattle.statement.specs.declared.apart.ApartStretch.{ApartStretch}
use Rattle.statement.specs.declared.stated.Loop.{Loop}
use Rattle.text_rows.specs.Addresses.{name_text}
use Rattle.text_rows.specs.Columns.{in_columns}
use Rattle.text_rows.specs.Rows.{AreRows, section}
use Rattle.text_rows.specs.WordLines.{label_at}
use Rattle.text_rows.specs.declared.line_labels.SourceLine.{SourceLine}
use Rattle.walk_counts.specs.Counts.{capped}
use Rattle.text_explained.specs.Columns.{share_text}
use Rattle.text_explained.specs.Taken.{in_all, is_at}
use Rattle.text_explained.specs.declared.part_sums.PartSum.{PartSum}

-- ## Edges that count

abbrev pub once_if : (Edge → Bool) → Edge → ℕ
once_if counts e = if counts e then 1 else 0

abbrev pub cost_if : (Edge → Bool) → Edge → ℕ
cost_if counts e = if counts e then e.cost else 0

-- of the first edges of the graph: how often the walk takes one by which the part is begun, and the ticks of
-- those inside of it, each as often as the walk takes it
abbrev pub sum_to : (edges walk : List Edge) → (count : ℕ) → (begins inside : Edge → Bool) → PartSum
sum_to edges walk count begins inside =
    record {
      times = capped (in_all edges walk count (once_if begins));
      ticks = capped (in_all edges walk count (cost_if inside));
    }

abbrev pub sum_of : Flow → List Edge → (begins inside : Edge → Bool) → PartSum
sum_of flow walk = sum_to flow.edges walk (length flow.edges)

-- ## Loops

-- a word at the place, or one of the calls inside of which it is, lies in the loop
abbrev pub is_in_loop : List ApartStretch → Loop → Place → Bool
is_in_loop apart l (At calls a) =
    list_any (λ call. lies_within apart l.first call l.last) calls || lies_within apart l.first a l.last
is_in_loop apart l Exit = false

-- its turns, and the ticks of what it takes with what it calls
abbrev pub loop_sum : List ApartStretch → Flow → List Edge → Loop → PartSum
loop_sum apart flow walk l = sum_of flow walk (is_back_edge_of apart l) (λ e. is_in_loop apart l e.from)

-- ## Routines

abbrev pub calls_of : Place → List ℕ
calls_of (At calls a) = calls
calls_of Exit = []

-- the edge leads deeper, to the address
abbrev pub is_call_to : ℕ → Edge → Bool
is_call_to a e = nat_lt (length (calls_of e.from)) (length (calls_of e.to)) && is_at a e.to

-- the edge leads so from the other address
abbrev pub calls_from : (a site : ℕ) → Edge → Bool
calls_from a site e = is_call_to a e && is_at site e.from

-- one of the edges calls the address
abbrev pub is_called : List Edge → ℕ → Bool
is_called edges a = list_any (is_call_to a) edges

-- the word at the site does
abbrev pub is_site : List Edge → (a site : ℕ) → Bool
is_site edges a site = list_any (calls_from a site) edges

-- one of the calls inside of which the place is may call the address
abbrev pub is_in_routine : List Edge → ℕ → Place → Bool
is_in_routine edges a p = list_any (is_site edges a) (calls_of p)

-- its calls, and the ticks of what they take with what they call
abbrev pub routine_sum : Flow → List Edge → ℕ → PartSum
routine_sum flow walk a = sum_of flow walk (is_call_to a) (λ e. is_in_routine flow.edges a e.from)

-- ## Rows

-- the label or the number of an address, which ends a row
abbrev pub row_name : BTreeMap ℕ SourceLine → ℕ → List ℕ
row_name lines a = codes "  " ++ (name_text (label_at lines a) a ++ codes "\n")

-- how often, the ticks, what part of the bound those are, and the label or the number of an address
abbrev pub sum_row : BTreeMap ℕ SourceLine → (bound : ℕ) → ℕ → PartSum → List ℕ
sum_row lines bound a s =
    in_columns 8 (decimal s.times)
    ++ (in_columns 10 (decimal s.ticks) ++ (in_columns 8 (share_text s.ticks bound) ++ row_name lines a))

abbrev pub loops_heading : List ℕ
loops_heading = codes "\nLoops, with what they call:\n   turns     ticks   share  header\n"

-- a row for each stated loop, named by its header
abbrev pub AreLoopSums : Source → StatedLoops → Flow → List Edge → (bound : ℕ) → List ℕ → Type 0
AreLoopSums source loops flow walk bound text =
    (lines : BTreeMap ℕ SourceLine) × (rows : List ℕ) × AreLines source lines
    × AreRows (λ l row. row ≡ sum_row lines bound l.header (loop_sum loops.apart flow walk l)) loops.list rows
    × (text ≡ section loops_heading rows)

abbrev pub routines_heading : List ℕ
routines_heading = codes "\nRoutines, with what they call:\n   calls     ticks   share  routine\n"

-- a row if the walk begins the part
abbrev pub begun_row : BTreeMap ℕ SourceLine → (bound : ℕ) → ℕ → PartSum → List ℕ
begun_row lines bound a s = if s.times == 0 then [] else sum_row lines bound a s

-- a word of the image has a row if it is called, and the walk does so
abbrev pub routine_row : BTreeMap ℕ SourceLine → Flow → List Edge → (bound at : ℕ) → List ℕ
routine_row lines flow walk bound at =
    if is_called flow.edges at then begun_row lines bound at (routine_sum flow walk at) else []

-- those of all words, in the order of their addresses
abbrev pub AreRoutineSums : Source → Words → Flow → List Edge → (bound : ℕ) → List ℕ → Type 0
AreRoutineSums source words flow walk bound text =
    (lines : BTreeMap ℕ SourceLine) × (rows : List ℕ) × AreLines source lines
    × AreRows (λ e row. row ≡ routine_row lines flow walk bound e.0) words rows
    × (text ≡ section routines_heading rows)
