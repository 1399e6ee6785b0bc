-- What a run does at each place of its flow graph.
use Rattle.std.specs.Prelude.{◌≡◌, ℕ, ◌+◌, ◌<◌, ◌==◌, ◌&&◌, Bool, cond, List, [], ◌∷◌, length}
use Rattle.std.specs.Prelude.{All, count_by, sum_by, slice_index_or, slice_set}
use Rattle.arm2_exec.specs.State.{State}
use Rattle.arm2_exec.specs.Step.{Step}
use Rattle.arm2_exec.specs.declared.machine.Input.{Input}
use Rattle.arm2_exec.specs.declared.machine.Stepped.{Stepped}
use Rattle.control_flow.specs.declared.edges.Edge.{Edge}
use Rattle.control_flow.specs.declared.edges.Label.TheVariants.{Do}
use Rattle.control_flow.specs.Flow.{Flow}
use Rattle.control_flow.specs.Places.{place_at}
use Rattle.walk_counts.specs.Counts.{is_same_label}
use Rattle.kept_runs.specs.declared.tally.Passed.{Passed}

-- ## The steps

-- a step of a run: which of the graph's places it begins at, whether it does its instruction, as the
-- condition holds, and its ticks
pub record Pass : Type 0 where
  pub place : ℕ
  pub done : Bool
  pub ticks : ℕ

-- the step along the edge begins where the edge does, does its instruction where the edge's label is Do, and
-- takes these ticks
pub record IsPass (flow : Flow) (e : Edge) (stepped : Stepped) (pass : Pass) : Type 0 where
  pub known : pass.place < length flow.places
  pub begins : place_at flow.places pass.place ≡ e.from
  pub done_is : pass.done ≡ is_same_label e.label Do
  pub ticks_are : pass.ticks ≡ stepped.ticks

-- the steps of a run by the inputs along the walk, in their order
abbrev pub ArePasses : Flow → State → List Input → List Edge → List Pass → Type 0
ArePasses flow s [] [] passes = passes ≡ []
ArePasses flow s [] (e ∷ walk) passes = ⊥
ArePasses flow s (i ∷ inputs) [] passes = ⊥
ArePasses flow s (i ∷ inputs) (e ∷ walk) passes =
    (stepped : Stepped) × (next : State) × Step s i stepped next
    × ((pass : Pass) × (rest : List Pass) × IsPass flow e stepped pass
    × ArePasses flow next inputs walk rest × (passes ≡ pass ∷ rest))

-- ## By places

abbrev pub nothing : Passed
nothing = record { passes = 0; done = 0; ticks = 0 }

-- how many of the steps begin at the place, how many of these do their instruction, and their ticks
abbrev pub passed_at : List Pass → ℕ → Passed
passed_at passes place =
    record {
      passes = count_by (λ p. p.place == place) passes;
      done = count_by (λ p. (p.place == place) && p.done) passes;
      ticks = sum_by (λ p. cond (p.place == place) p.ticks 0) passes;
    }

-- of each place of the graph, where all the steps begin
pub record IsTally (flow : Flow) (passes : List Pass) (by_place : List Passed) : Type 0 where
  pub inside : All (λ p. p.place < length flow.places) passes
  pub whole : length by_place ≡ length flow.places
  pub each : (place : ℕ) → place < length flow.places
      → slice_index_or by_place place nothing ≡ passed_at passes place

-- ## A step more

abbrev pub with_step : Passed → Bool → ℕ → Passed
with_step p done ticks =
    record { passes = p.passes + 1; done = p.done + cond done 1 0; ticks = p.ticks + ticks }

-- one that begins at the place
abbrev pub counted : List Passed → (place : ℕ) → Bool → (ticks : ℕ) → List Passed
counted by_place place done ticks =
    slice_set by_place place (with_step (slice_index_or by_place place nothing) done ticks)
