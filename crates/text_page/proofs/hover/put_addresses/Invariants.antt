use Rattle.std.proofs.Common.{◌≡◌, ◌++◌, drop, flat_map}
use Rattle.text_page.specs.Rows.{destination}
use Rattle.text_page.proofs.hover.put_addresses.Given as goal

abbrev pub invariant-loop-at : goal.invariant-loop-at
invariant-loop-at l = l.out.items ++ flat_map destination (drop l.at-index l.addresses) ≡ l.initial.out.items ++ flat_map destination l.addresses
