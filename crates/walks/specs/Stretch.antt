-- Stretches of a walk, by two tests of an edge: whether it lies inside a loop's instance, and whether it
-- turns back to the header.
use Rattle.std.specs.Prelude.{◌≡◌, ℕ, ◌≤◌, Bool, List, ◌++◌, count_by}
use Rattle.std.specs.List.{AllPass}

-- each unbroken stretch of edges that lie inside has at most `bound` edges that turn back; the edge that
-- enters the stretch lies outside, so it is not counted
abbrev pub Keeps : {E : Type 0} → (E → Bool) → (E → Bool) → ℕ → List E → Type 0
Keeps {E} inside turns bound walk =
    (before stretch after : List E) → walk ≡ (before ++ stretch) ++ after → AllPass inside stretch
    → count_by turns stretch ≤ bound
