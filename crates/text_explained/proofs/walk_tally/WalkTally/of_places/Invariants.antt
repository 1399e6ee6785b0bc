use Rattle.std.proofs.Common.{take}
use Rattle.text_explained.specs.Taken.{Starts}
use Rattle.text_explained.proofs.walk_tally.WalkTally.of_places.Given as goal

abbrev pub invariant-loop-place : goal.invariant-loop-place
invariant-loop-place l = Starts (take l.place-index l.places) l.tally
