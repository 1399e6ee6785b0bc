use Rattle.std.proofs.Common.{◌≡◌, ◌++◌, drop}
use Rattle.std.specs.Prelude.{map}
use Rattle.text_draft.specs.Grounds.{with_ground}
use Rattle.text_draft.proofs.grounds.all_with_ground.Given as goal

abbrev pub invariant-loop-rule : goal.invariant-loop-rule
invariant-loop-rule l = l.found.items ++ map (with_ground l.accesses) (drop l.rule-index l.rules) ≡ map (with_ground l.accesses) l.rules
