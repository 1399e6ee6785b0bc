-- What can be folded on a page, and which lines the page then has.
use Rattle.std.specs.Prelude.{ℕ, zero, suc, ◌-◌, ◌==◌, ◌&&◌, nat_le, not, Bool, true, false}
use Rattle.std.specs.Prelude.{if◌then◌else◌, List, []}
use Rattle.std.specs.Prelude.{◌∷◌, ◌++◌, ◌||◌, length, map, nat_eq, take, replicate, sum_by}
use Rattle.std.specs.Prelude.{Option, Some, None, option_map}
use Rattle.std.specs.List.{list_all, prefix_len}
use Rattle.std.specs.Map.{update_all}
use Rattle.statement.specs.Stated.{Stated}
use Rattle.statement.specs.declared.stated.Loop.{Loop}
use Rattle.control_flow.specs.Flow.{Flow}
use Rattle.walk_counts.specs.Counts.{capped}
use Rattle.text_explained.specs.Sums.{is_called}
use Rattle.text_explained.specs.Table.{ticks_of}
use Rattle.text_explained.specs.declared.table_rows.TableRow.{TableRow}
use Rattle.text_page.specs.declared.folds.Fold.{Fold}
use Rattle.text_page.specs.declared.folds.Part.{Part}
use Rattle.text_page.specs.declared.folds.Part.TheVariants as part
use Rattle.text_page.specs.declared.page_lines.PageLine.{PageLine}
use Rattle.text_page.specs.declared.page_lines.PageLine.TheVariants.{Begun, Row, Ended}

-- the entry, whether a word is called, and the loop that begins at an address
pub record Parts : Type 0 where
  pub entry : ℕ
  pub called : ℕ → Bool
  pub loop_from : ℕ → Option Loop

-- the last stated loop whose first word is at the address
abbrev pub loop_from : List Loop → ℕ → Option Loop
loop_from loops = update_all nat_eq (λ at. None) (map (λ l. (l.first, l)) loops)

abbrev pub parts_of : Stated → Flow → Parts
parts_of st flow =
    record { entry = st.entry; called = is_called flow.edges; loop_from = loop_from st.loops.list }

-- ## Stretches

abbrev pub loop_fold : Loop → Fold
loop_fold l =
    record { part = part.Loop l.bound; first = l.first; last = l.last; name = l.header }

-- it has no last word of its own
abbrev pub routine_fold : (at : ℕ) → Fold
routine_fold at = record { part = part.Routine; first = at; last = 4294967295; name = at }

abbrev pub is_routine : Part → Bool
is_routine part.Routine = true
is_routine (part.Loop bound) = false

-- a stretch is folded where each that is open, the outermost first, reaches as far
abbrev pub fits : Fold → List Fold → Bool
fits f nest = list_all (λ g. nat_le f.last g.last) nest

-- those that are open then
abbrev pub opened : List Fold → Option Fold → List Fold
opened nest None = nest
opened nest (Some f) = if fits f nest then nest ++ f ∷ [] else nest

abbrev pub row_ticks : TableRow → ℕ
row_ticks row = ticks_of row.figures.taken

abbrev pub rows_ticks : List TableRow → ℕ
rows_ticks rows = capped (sum_by row_ticks rows)

module _ (parts : Parts) where
  -- the handler or a routine begins at an address
  abbrev pub is_begin : ℕ → Bool
  is_begin at = at == parts.entry || parts.called at

  -- a routine ends where the handler or another routine begins
  abbrev pub ends_at : ℕ → Fold → Bool
  ends_at at f = is_routine f.part && (is_begin at && not (at == f.first))

  -- the stretch holds the address
  abbrev pub holds : ℕ → Fold → Bool
  holds at f = (nat_le f.first at && nat_le at f.last) && not (ends_at at f)

  -- the routine and the loop that begin at an address
  abbrev pub routine_at : ℕ → Option Fold
  routine_at at = if parts.called at then Some (routine_fold at) else None

  abbrev pub loop_at : ℕ → Option Fold
  loop_at at = option_map loop_fold (parts.loop_from at)

  -- ## Lines

  -- of the stretches that are open, those up to the first that does not hold an address
  abbrev pub kept_count : ℕ → List Fold → ℕ
  kept_count at nest = prefix_len (holds at) nest

  abbrev pub kept : ℕ → List Fold → List Fold
  kept at nest = take (kept_count at nest) nest

  -- the rows that the innermost of the open stretches hides where it begins at the first row: that row, and
  -- the rows behind it up to one that it, or one around it, does not hold
  abbrev pub folded : (nest : List Fold) → List TableRow → List TableRow
  folded nest [] = []
  folded nest (r ∷ rows) = r ∷ take (prefix_len (λ later. list_all (holds later.at) nest) rows) rows

  -- their ticks, of a stretch that begins inside of those that are open
  abbrev pub fold_ticks : (nest : List Fold) → Fold → List TableRow → ℕ
  fold_ticks nest f rows = rows_ticks (folded (nest ++ f ∷ []) rows)

  -- where a stretch begins before these rows
  abbrev pub begun : List Fold → Option Fold → List TableRow → List PageLine
  begun nest None rows = []
  begun nest (Some f) rows = if fits f nest then Begun f (fold_ticks nest f rows) ∷ [] else []

  -- those that are open at an address, first with its routine alone
  abbrev pub in_routine : ℕ → List Fold → List Fold
  in_routine at nest = opened (kept at nest) (routine_at at)

  abbrev pub in_loop : ℕ → List Fold → List Fold
  in_loop at nest = opened (in_routine at nest) (loop_at at)

  -- the ends and the beginnings before the first of some rows, at an address
  abbrev pub borders : ℕ → List Fold → List TableRow → List PageLine
  borders at nest rows =
      replicate (length nest - kept_count at nest) Ended
      ++ (begun (kept at nest) (routine_at at) rows ++ begun (in_routine at nest) (loop_at at) rows)

  -- the lines of rows
  abbrev pub lines_from : List Fold → List TableRow → List PageLine
  lines_from nest [] = replicate (length nest) Ended
  lines_from nest (r ∷ rows) =
      borders r.at nest (r ∷ rows) ++ (Row r ∷ lines_from (in_loop r.at nest) rows)

-- ## What lines show

-- The rows between the beginning of a stretch and its end, by the lines behind the beginning, while so many
-- stretches more are open.
abbrev pub rows_inside : (more : ℕ) → List PageLine → List TableRow
rows_inside more [] = []
rows_inside more (Begun f ticks ∷ lines) = rows_inside (suc more) lines
rows_inside more (Row r ∷ lines) = r ∷ rows_inside more lines
rows_inside zero (Ended ∷ lines) = []
rows_inside (suc more) (Ended ∷ lines) = rows_inside more lines
