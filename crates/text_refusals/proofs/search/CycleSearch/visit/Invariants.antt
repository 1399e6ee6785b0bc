use Rattle.std.proofs.Common.{◌≡◌, ◌+◌, cond}
use Rattle.std.specs.Prelude.{MatchBool}
use Rattle.text_refusals.specs.Cycles.{IsEnded, IsSearching, steps_left}
use Rattle.text_refusals.proofs.search.CycleSearch.visit.Given as goal

abbrev pub invariant-loop-goes_on : goal.invariant-loop-goes_on
invariant-loop-goes_on l = record {
  state : MatchBool l.goes_on (IsSearching l.graph l.loops l.self) (IsEnded l.graph l.loops l.self);
  start : l.self.start ≡ l.root;
}

abbrev pub decreases-loop-goes_on : goal.decreases-loop-goes_on
decreases-loop-goes_on l = steps_left l.self + cond l.goes_on 2 0
