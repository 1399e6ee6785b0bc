use Rattle.std.proofs.Common.{length}
use Rattle.loop_bounds.proofs.numbering.+compare_keys.Given as goal

abbrev pub decreases-compare_keys : goal.decreases-compare_keys
decreases-compare_keys l = length l.calls.now
