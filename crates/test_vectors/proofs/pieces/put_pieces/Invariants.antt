use Rattle.std.proofs.Common.{take}
use Rattle.std.specs.List.{flat_map}
use Rattle.outputs.specs.OnTheWay.{Adds}
use Rattle.test_vectors.proofs.pieces.put_pieces.Given as goal

abbrev pub invariant-loop-piece : goal.invariant-loop-piece
invariant-loop-piece g l =
    Adds g.O.Output.taken g.O.Output.failures l.fn.out l.fn.page l.out l.page
    (flat_map (λ piece. piece.now) (take l.piece-index l.pieces))
