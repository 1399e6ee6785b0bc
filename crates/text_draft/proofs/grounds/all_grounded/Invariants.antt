use Rattle.std.proofs.Common.{◌≡◌, ◌++◌, drop}
use Rattle.std.specs.Prelude.{All, map}
use Rattle.text_draft.specs.Grounds.{IsGround, plain}
use Rattle.text_draft.proofs.grounds.all_grounded.Given as goal

abbrev pub invariant-loop-access : goal.invariant-loop-access
invariant-loop-access l = record {
  same : map plain l.found.items ++ map plain (drop l.access-index l.accesses) ≡ map plain l.accesses;
  grounds : All (IsGround l.image l.claims) l.found.items;
}
