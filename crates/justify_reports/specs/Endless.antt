-- Which stated loops are said not to be left, in all their instances.
use Rattle.std.specs.Prelude.{◌≡◌, ◌<◌, ◌&&◌, ℕ, Bool, true, false, List, Option, Some, None, length}
use Rattle.std.specs.Prelude.{slice_index_or}
use Rattle.loop_bounds.specs.Instance.{Instance}
use Rattle.loop_bounds.specs.Tree.{Tree}
use Rattle.known_places.specs.Endless.{endless_at}

-- the instance of the number is of the loop whose header is at the address
abbrev pub IsLoopAt : Tree → (address number : ℕ) → Type 0
IsLoopAt tree a number = (i : Instance) → (slice_index_or tree.instances number i).header ≡ a

-- there is such a number below the end, and of each such instance it is said that no run leaves it
pub record AreAllEndless (IsThere : ℕ → Type 0) (endless : List Bool) (end : ℕ) : Type 0 where
  pub one : ℕ
  pub inside : one < end
  pub there : IsThere one
  pub each : (k : ℕ) → k < end → IsThere k → endless_at endless k ≡ true

-- the loop whose header is at the address has an instance, and of each of them it is said
abbrev pub IsEndlessAt : Tree → List Bool → (a : ℕ) → Type 0
IsEndlessAt tree endless a = AreAllEndless (IsLoopAt tree a) endless (length tree.instances)

-- ## Finding them, for clauses of private functions

-- with one instance more
abbrev pub with_instance : Option Bool → Bool → Bool
with_instance None said = said
with_instance (Some old) said = old && said

-- by the instances below the end: there is none, of one of them it is not said, or of each it is
abbrev pub IsFoundEndless : (IsThere : ℕ → Type 0) → List Bool → (end : ℕ) → Option Bool → Type 0
IsFoundEndless IsThere endless end None = (k : ℕ) → k < end → IsThere k → ⊥
IsFoundEndless IsThere endless end (Some false) =
    (k : ℕ) × (k < end) × IsThere k × (endless_at endless k ≡ false)
IsFoundEndless IsThere endless end (Some true) = AreAllEndless IsThere endless end

-- of all addresses
abbrev pub AreFoundEndless : Tree → List Bool → (end : ℕ) → (ℕ → Option Bool) → Type 0
AreFoundEndless tree endless end found =
    (a : ℕ) → IsFoundEndless (IsLoopAt tree a) endless end (found a)
