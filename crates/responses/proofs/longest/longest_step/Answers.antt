use Rattle.std.proofs.Common.{subst, sym}
use Rattle.responses.specs.Longest.{IsLongestStep}
use Rattle.responses.proofs.LongestLemmas.{none_above}
use Rattle.responses.proofs.LongestReached.{reached}
use Rattle.responses.proofs.longest.longest_step.Goals as goal

pub returns-clause-greatest : goal.returns-clause-greatest
returns-clause-greatest c =
    subst (IsLongestStep c.args.profile.now) (sym c.longest_step_number.ensures.number)
    (record { none_above = none_above c.args.profile.now; reached = reached c.args.profile.now })
