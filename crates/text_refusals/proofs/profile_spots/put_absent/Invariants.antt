use Rattle.std.proofs.Common.{◌≡◌, ◌++◌, drop, map}
use Rattle.text_refusals.specs.FileRows.{spot_of}
use Rattle.text_refusals.specs.ProfileSpots.{absent_spots}
use Rattle.text_refusals.specs.declared.asked_file.FileSpot.TheVariants.{Profile}
use Rattle.text_refusals.proofs.profile_spots.put_absent.Given as goal

abbrev pub invariant-loop-key : goal.invariant-loop-key
invariant-loop-key l =
    map spot_of l.spots.items ++ map Profile (absent_spots (map (λ k. k.now) (drop l.key-index l.keys)))
    ≡ map spot_of l.fn.spots.items ++ map Profile (absent_spots (map (λ k. k.now) l.keys))
