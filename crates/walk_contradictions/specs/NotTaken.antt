-- No run takes a walk on which conditions come out as no flags have it, unless another handler visits it.
use Rattle.std.specs.Prelude.{ℕ, List, ◌∷◌}
use Rattle.bus_ticks.specs.declared.profile.Profile.{Profile}
use Rattle.arm2_exec.specs.State.{State}
use Rattle.arm2_exec.specs.declared.machine.Input.{Input}
use Rattle.control_flow.specs.declared.edges.Edge.{Edge}
use Rattle.flow_graph.specs.StepLaw.{Follows}
use Rattle.image.specs.Image.{Words}
use Rattle.statement.specs.Stated.{Stated}
use Rattle.walk_contradictions.specs.Contradictions.{AreContradicted, Contradicts}

-- from no state and by no inputs are the steps of a run the edges of the walk, one each and in order
abbrev pub IsNotTaken : Words → (walk : List Edge) → Type 0
IsNotTaken words walk =
    (st : Stated) (profile : Profile) (s : State) (inputs : List Input)
    → Follows words st profile s inputs walk → ⊥

-- where two words of the walk contradict one another
abbrev pub ContradictionLaw : Type 0
ContradictionLaw =
    (words : Words) (walk : List Edge) (first second : Edge) → Contradicts words walk first second
    → IsNotTaken words walk

-- where a word is named
abbrev pub NamedLaw : Type 0
NamedLaw =
    (words : Words) (walk : List Edge) (a : ℕ) (named : List ℕ) → AreContradicted words walk (a ∷ named)
    → IsNotTaken words walk
