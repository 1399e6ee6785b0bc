use Rattle.std.proofs.Common.{◌≡◌, [], drop, map}
use Rattle.image.specs.Labels.{address_of}
use Rattle.assembler.specs.Sweeps.{filled}
use Rattle.assembler.specs.Views.{item_of}
use Rattle.assembler.proofs.assembly.fill.Given as goal

abbrev pub invariant-loop-item : goal.invariant-loop-item
invariant-loop-item l = filled (address_of l.labels) l.image (map item_of (drop l.item-index l.items)) ≡ filled (address_of l.labels) [] (map item_of l.items)
