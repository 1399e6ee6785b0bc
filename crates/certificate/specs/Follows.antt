-- Which line may follow which.
use Rattle.std.specs.Prelude.{ℕ, zero, suc, List, Bool, true, Option, Some, None, if◌then◌else◌}
use Rattle.std.specs.Ordering.{is_lt}
use Rattle.control_flow.specs.declared.places.Place.{Place}
use Rattle.control_flow.specs.Places.{place_cmp}
use Rattle.longest_walk.specs.Rows.{place_of_row, header_of_row}
use Rattle.certificate.specs.declared.line.Version.TheVariants.{One, Two}
use Rattle.certificate.specs.declared.line.Line.{Line}
use Rattle.certificate.specs.declared.line.Line.TheVariants as l
use Rattle.certificate.specs.declared.draft.Stage.{Stage}
use Rattle.certificate.specs.declared.draft.Stage.TheVariants as s
use Rattle.certificate.specs.Walk.{Nest, follow_all, nest_after, outside}

-- what comes next, and how the walk nests so far
pub record Reached : Type 0 where
  pub stage : Stage
  pub nest : Nest

abbrev pub start : Reached
start = record { stage = s.Title; nest = outside }

-- rows ascend strictly
abbrev pub comes_after : Option Place → Place → Bool
comes_after None p = true
comes_after (Some last) p = is_lt (place_cmp last p)

-- on at another stage
abbrev pub at_stage : Nest → Stage → Option Reached
at_stage n stage = Some (record { stage = stage; nest = n })

abbrev pub in_walk : Option Nest → Option Reached
in_walk None = None
in_walk (Some n) = at_stage n s.Walk

-- nothing is left open
abbrev pub close_walk : Nest → ℕ → Option Reached
close_walk n zero = at_stage n (s.Places None)
close_walk n (suc depth) = None

abbrev pub next_stage : Stage → Nest → Line → Option Reached
next_stage s.Title n (l.Title One) = at_stage n s.Bound
next_stage s.Title n (l.Title Two) = at_stage n s.Numbers
next_stage s.Numbers n (l.Profile numbers) = at_stage n s.Bound
next_stage s.Bound n (l.Bound bound) = at_stage n s.Walk
next_stage s.Walk n (l.Walk w) = in_walk (nest_after n w)
next_stage s.Walk n l.Close = close_walk n n.opened
next_stage (s.Places last) n (l.Place r) =
    if comes_after last (place_of_row r) then at_stage n (s.Places (Some (place_of_row r))) else None
next_stage (s.Places last) n (l.Instance r) = at_stage n (s.Instances (Some (header_of_row r)))
next_stage (s.Places last) n l.Stop = at_stage n s.Done
next_stage (s.Instances last) n (l.Instance r) =
    if comes_after last (header_of_row r) then at_stage n (s.Instances (Some (header_of_row r))) else None
next_stage (s.Instances last) n l.Stop = at_stage n s.Done
next_stage _ n line = None

abbrev pub follows : Reached → Line → Option Reached
follows r line = next_stage r.stage r.nest line

-- the lines follow one another from the start
abbrev pub reached_by : List Line → Option Reached
reached_by lines = follow_all follows start lines
