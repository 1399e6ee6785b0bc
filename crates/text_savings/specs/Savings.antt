-- What each better entry of a statement would save by a walk, in ticks. Another walk may then cost more, so a
-- bound would be less by that at most.
use Rattle.std.specs.Prelude.{◌≡◌, ℕ, ◌*◌, ◌==◌, if◌then◌else◌, List, [], ◌∷◌, ◌++◌, Option, Some, None}
use Rattle.std.specs.Prelude.{sum_by}
use Rattle.std.specs.List.Sorted.{IsPermutation, IsSortedByKey, IsStableByKey}
use Rattle.std.specs.Ordering.{nat_cmp}
use Rattle.std.specs.declared.cmp.Ordering.{Ordering}
use Rattle.arm2_decode.specs.Table.{Means}
use Rattle.arm2_decode.specs.declared.instr.Instr.{Instr}
use Rattle.bus_ticks.specs.declared.profile.Profile.{Profile}
use Rattle.control_flow.specs.Flow.{Flow}
use Rattle.control_flow.specs.declared.edges.Edge.{Edge}
use Rattle.image.specs.Image.{Words}
use Rattle.statement.specs.Stated.{Stated}
use Rattle.walk_counts.specs.Counts.{capped}
use Rattle.text_savings.specs.Carried.{times_done}
use Rattle.text_savings.specs.Gains.{leave_gain, operation_gain}
use Rattle.text_rows.specs.Rows.{AreRows}
use Rattle.text_savings.specs.declared.gains.Gain.{Gain}
use Rattle.text_savings.specs.declared.saving.Saving.{Saving}
use Rattle.text_savings.specs.declared.saving.Subject.{Subject}
use Rattle.text_savings.specs.declared.saving.Subject.TheVariants.{Leave, Word}

-- what is gained so many times; nothing where that is 0
abbrev pub saved : Subject → (times : ℕ) → Option Gain → List Saving
saved subject times None = []
saved subject times (Some g) =
    if capped (times * g.ticks) == 0 then []
    else record { subject = subject; refinement = g.refinement; ticks = capped (times * g.ticks) } ∷ []

-- what is gained each time that the word at an address is carried out
pub record IsWordGain (st : Stated) (profile : Profile) (at word : ℕ) (gain : Option Gain) : Type 0 where
  pub of_instr : (i : Instr) → Means word i → gain ≡ operation_gain st profile at i.operation
  pub of_none : ((i : Instr) → Means word i → ⊥) → gain ≡ None

-- what is saved at a word, by how often each is carried out
abbrev pub IsWordSaved : Stated → Profile → (times : ℕ → ℕ) → ℕ × ℕ → List Saving → Type 0
IsWordSaved st profile times e found =
    (gain : Option Gain) × IsWordGain st profile e.0 e.1 gain
    × (found ≡ saved (Word e.0 e.1) (times e.0) gain)

-- on the way out, which a complete walk takes once
abbrev pub leave_saved : Stated → Profile → List Saving
leave_saved st profile = saved Leave 1 (leave_gain profile st.leave)

-- at each word, and then on the way out
pub record AreFound (words : Words) (st : Stated) (flow : Flow) (walk : List Edge)
    (found : List Saving) : Type 0 where
  pub at_words : List Saving
  pub each : AreRows (IsWordSaved st flow.profile (times_done flow.edges walk)) words at_words
  pub all : found ≡ at_words ++ leave_saved st flow.profile

abbrev pub ticks_saved : Saving → ℕ
ticks_saved s = s.ticks

-- the greater number first
abbrev pub falling : ℕ → ℕ → Ordering
falling m n = nat_cmp n m

-- all of them, those that save most first; of equals the lowest address first, and the way out last
pub record AreSavings (words : Words) (st : Stated) (flow : Flow) (walk : List Edge)
    (list : List Saving) : Type 0 where
  pub found : List Saving
  pub are_found : AreFound words st flow walk found
  pub same : IsPermutation found list
  pub ordered : IsSortedByKey ticks_saved falling list
  pub stable : IsStableByKey ticks_saved falling found list

-- what the walk costs less by all of them
abbrev pub together : List Saving → ℕ
together list = capped (sum_by ticks_saved list)
