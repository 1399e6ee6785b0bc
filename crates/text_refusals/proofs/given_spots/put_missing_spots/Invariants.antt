use Rattle.std.proofs.Common.{◌≡◌, ◌++◌, drop, map}
use Rattle.text_refusals.specs.FileRows.{spot_of}
use Rattle.text_refusals.specs.GivenSpots.{missing_spots}
use Rattle.text_refusals.specs.declared.asked_file.FileSpot.TheVariants.{Given}
use Rattle.text_refusals.proofs.given_spots.put_missing_spots.Given as goal

abbrev pub invariant-loop-key : goal.invariant-loop-key
invariant-loop-key l =
    map spot_of l.spots.items ++ map Given (missing_spots l.index (map (λ k. k.now) (drop l.key-index l.keys)))
    ≡ map spot_of l.fn.spots.items ++ map Given (missing_spots l.index (map (λ k. k.now) l.keys))
