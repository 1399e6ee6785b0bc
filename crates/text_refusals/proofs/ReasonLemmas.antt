-- What is found shows why, and a cycle that no loop bounds begins at an address.
use Rattle.std.proofs.Common.{◌≡◌, ◌∷◌, List, Option, Some, subst}
use Rattle.std.specs.Prelude.{Contains, IfSome}
use Rattle.control_flow.specs.Flow.{Flow, IsWellFormed}
use Rattle.control_flow.specs.declared.edges.Edge.{Edge}
use Rattle.control_flow.specs.declared.places.Place.{Place}
use Rattle.control_flow.specs.declared.places.Place.TheVariants.{Exit}
use Rattle.statement.specs.Stated.{StatedLoops}
use Rattle.text_refusals.specs.Cycles.{IsCycleOf}
use Rattle.text_refusals.specs.Extents.{HasNoStart}

pub has_start : (flow : Flow) (loops : StatedLoops) (edges : List Edge) → IsWellFormed flow → IsCycleOf flow loops edges → HasNoStart edges → ⊥
has_start flow loops edges formed is none =
    let first = (is.cycle).first in
    let begins : HasNoStart (first ∷ (is.cycle).rest) = subst HasNoStart is.edges_are none in
    formed.no_exit (subst (Contains flow.places) begins (formed.starts first (is.cycle).returns.0.has))

-- what holds of what was found, if anything was, holds of it
pub found : {A : Type 0} (P : A → Type 0) (o : Option A) (x : A) → o ≡ Some x → IfSome o P → P x
found P o x is h = subst (λ y. IfSome y P) is h
