-- How often a walk carries out the word at an address, and does not pass it over.
use Rattle.std.specs.Prelude.{◌≡◌, ℕ, ◌+◌, ◌&&◌, Bool, cond, if◌then◌else◌, List, length, unwrap_or}
use Rattle.std.specs.BTreeMap.{BTreeMap, get}
use Rattle.std.specs.Ordering.{nat_cmp}
use Rattle.text_explained.specs.Leaving.{is_done}
use Rattle.text_explained.specs.Taken.{in_all, is_at}
use Rattle.control_flow.specs.declared.edges.Edge.{Edge}
use Rattle.walk_counts.specs.Counts.{capped}

-- the edge leaves the address, and carries out its word
abbrev pub carries_out : ℕ → Edge → Bool
carries_out a e = is_done e.label && is_at a e.from

-- 1 for such an edge
abbrev pub done_at : ℕ → Edge → ℕ
done_at a e = cond (carries_out a e) 1 0

-- how often the walk takes such edges among the first
abbrev pub times_by : (edges walk : List Edge) → (count a : ℕ) → ℕ
times_by edges walk count a = capped (in_all edges walk count (done_at a))

-- and among all
abbrev pub times_done : (edges walk : List Edge) → ℕ → ℕ
times_done edges walk a = times_by edges walk (length edges) a

-- ## By address

-- no number is kept where it is 0
abbrev pub times_in : BTreeMap ℕ ℕ → ℕ → ℕ
times_in times a = unwrap_or (get nat_cmp times a) 0

-- an edge is added, taken so many times
abbrev pub Adds : Edge → ℕ → (old new : BTreeMap ℕ ℕ) → Type 0
Adds e count old new =
    (a : ℕ) → times_in new a
    ≡ (if carries_out a e then capped (times_in old a + count) else times_in old a)

-- the first edges are added
abbrev pub HasAdded : (edges walk : List Edge) → ℕ → BTreeMap ℕ ℕ → Type 0
HasAdded edges walk count times = (a : ℕ) → times_in times a ≡ times_by edges walk count a

abbrev pub AreTimes : (edges walk : List Edge) → BTreeMap ℕ ℕ → Type 0
AreTimes edges walk times = (a : ℕ) → times_in times a ≡ times_done edges walk a
