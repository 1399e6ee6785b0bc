-- A run that is followed until it leaves the handler, or strays.
use Rattle.std.specs.Prelude.{◌≡◌, ◌+◌, ◌*◌, ◌≤◌, List, length}
use Rattle.image.specs.Image.{Words}
use Rattle.statement.specs.Stated.{Stated}
use Rattle.arm2_exec.specs.State.{State}
use Rattle.arm2_exec.specs.declared.machine.Input.{Input}
use Rattle.control_flow.specs.Flow.{Flow}
use Rattle.loop_bounds.specs.Tree.{Tree}
use Rattle.kept_runs.specs.declared.following.Follower.{Follower}
use Rattle.kept_runs.specs.declared.following.Straying.{Straying}
use Rattle.kept_runs.specs.Judging.{IsMachineFor}
use Rattle.kept_runs.specs.Keeping.{IsKeptRun, IsStrayedRun}

module _ (words : Words) (st : Stated) (flow : Flow) (tree : Tree) (s : State)
    (inputs : List Input) (after : State) where
  -- the run keeps the statement, and the machine is fit for another
  pub record Leaves (x : Follower) : Type 0 where
    pub run : IsKeptRun words st flow tree s inputs x.steps x.ticks x.by_place.items after
    pub machine : IsMachineFor flow after
    pub room : length x.turns.items ≡ length flow.places + 1
    pub few : x.ticks ≤ x.steps * 65536

  abbrev pub IsStraying : Straying → Type 0
  IsStraying x = IsStrayedRun words st flow tree s inputs x.steps x.at x.why after
