-- A machine whose one step takes an edge at exactly its price. That there is one for each free edge makes
-- the prices of these edges real: none of them is more than some step costs.
use Rattle.std.specs.Prelude.{◌≡◌, false}
use Rattle.bus_ticks.specs.declared.profile.Profile.{Profile}
use Rattle.image.specs.Image.{Words}
use Rattle.arm2_effect.specs.Modes.{r15_in, is_user}
use Rattle.arm2_effect.specs.ProgramCounter.{mode_of}
use Rattle.arm2_exec.specs.State.{State}
use Rattle.arm2_exec.specs.declared.machine.Input.{Input}
use Rattle.arm2_exec.specs.declared.machine.Stepped.{Stepped}
use Rattle.flow_graph.specs.StepLaw.{IsEdgeOf}
use Rattle.control_flow.specs.declared.edges.Edge.{Edge}
use Rattle.statement.specs.Stated.{Stated}

-- In a privileged mode, the one step executes the image's word at the edge's place as it is stated, has the
-- edge's label, leads to its target, and costs what the edge does.
pub record IsTight (words : Words) (st : Stated) (profile : Profile) (e : Edge) (s : State)
    (i : Input) : Type 0 where
  pub privileged : is_user (mode_of (r15_in s.regs)) ≡ false
  pub stepped : Stepped
  pub after : State
  pub takes : IsEdgeOf words st profile s i stepped after e
  pub exact : stepped.ticks ≡ e.cost
