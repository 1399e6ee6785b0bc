-- A statement with a better entry.
use Rattle.std.specs.Prelude.{ℕ, ◌∷◌}
use Rattle.bus_ticks.specs.declared.profile.Class.{Class}
use Rattle.statement.specs.Stated.{Stated}

-- with a class for what the word at an address transfers, before what is stated of it
abbrev pub with_access : Stated → ℕ → Class → Stated
with_access st a class = record st { accesses = (a, class) ∷ st.accesses }

-- with another class of the addresses to which the handler leaves
abbrev pub with_leave : Stated → Class → Stated
with_leave st class = record st { leave = class }

-- with the most cycles of the multiply at an address, before what is stated of it
abbrev pub with_cycles : Stated → ℕ → ℕ → Stated
with_cycles st a cycles = record st { multiplies = (a, cycles) ∷ st.multiplies }
