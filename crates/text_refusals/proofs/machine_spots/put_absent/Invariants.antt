use Rattle.std.proofs.Common.{◌≡◌, ◌++◌, drop, map}
use Rattle.text_refusals.specs.FileRows.{spot_of}
use Rattle.text_refusals.specs.MachineSpots.{absent_spots}
use Rattle.text_refusals.specs.declared.asked_file.FileSpot.TheVariants.{Machine}
use Rattle.text_refusals.proofs.machine_spots.put_absent.Given as goal

abbrev pub invariant-loop-key : goal.invariant-loop-key
invariant-loop-key l =
    map spot_of l.spots.items ++ map Machine (absent_spots (map (λ k. k.now) (drop l.key-index l.keys)))
    ≡ map spot_of l.fn.spots.items ++ map Machine (absent_spots (map (λ k. k.now) l.keys))
