use Rattle.std.proofs.Common.{◌∷◌, [], ◌++◌, length, take}
use Rattle.control_flow.specs.Search.{AreInTurn}
use Rattle.control_flow.proofs.building.edges_in_turn.Given as goal

abbrev pub invariant-loop-place : goal.invariant-loop-place
invariant-loop-place l = AreInTurn l.inputs.image.now l.inputs.statement.now l.inputs.profile.now (take l.place-index l.places) l.edges.items (l.firsts.items ++ length l.edges.items ∷ [])
