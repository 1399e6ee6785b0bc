use Rattle.std.proofs.Common.{◌≡◌, [], ap, ◌∙◌}
use Rattle.arm2_decode.specs.Transfers.{registers_in}
use Rattle.arm2_transfer.proofs.Lowest.{none_listed}
use Rattle.arm2_transfer.proofs.run.load_along.Goals as goal

pub returns : goal.returns
returns c =
    let none : registers_in c.loop-left.left ≡ [] = ap registers_in c.loop-left-test.false ∙ none_listed in
    λ port. rw none at (c.loop-left.invariant.rest port)
