-- The position in a frame, one sixth of a tick after the other. A tick is one cycle of the 8 MHz processor;
-- its sixth is the longest time of which a pixel takes a whole number at each of the four pixel rates.
use Rattle.std.specs.Prelude.{ℕ, zero, suc, ◌+◌, ◌==◌, if◌then◌else◌}

-- one sixth on, in a frame of so many sixths: after the last comes the first
abbrev pub next : (frame position : ℕ) → ℕ
next frame position = if position + 1 == frame then 0 else position + 1

-- the position so many sixths after another
abbrev pub position_after : (sixths frame from : ℕ) → ℕ
position_after zero frame from = from
position_after (suc n) frame from = next frame (position_after n frame from)

-- how often the position reaches a mark, while so many sixths pass
abbrev pub arrivals : (sixths frame mark from : ℕ) → ℕ
arrivals zero frame mark from = 0
arrivals (suc n) frame mark from =
    arrivals n frame mark from + (if position_after (suc n) frame from == mark then 1 else 0)
