use Rattle.std.proofs.Common.{◌≡◌, false}
use Rattle.std.specs.Prelude.{All}
use Rattle.text_draft.specs.Begun.{has_loop}
use Rattle.text_draft.proofs.loops.LoopSearch.all_loops.Given as goal

abbrev pub invariant-loop-found : goal.invariant-loop-found
invariant-loop-found l = All (λ x. has_loop l.begun x ≡ false) l.loops.items
