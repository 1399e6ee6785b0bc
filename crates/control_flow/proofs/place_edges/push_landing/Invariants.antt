use Rattle.std.proofs.Common.{◌≡◌, ◌++◌, map, take}
use Rattle.control_flow.specs.Edges.{do_edge, places_at}
use Rattle.control_flow.proofs.place_edges.push_landing.Given as goal

abbrev pub invariant-loop-address : goal.invariant-loop-address
invariant-loop-address l = l.out.items ≡ l.fn.out.items ++ map (do_edge l.site.inputs.statement.now l.site.inputs.profile.now l.site.calls l.site.address l.site.action) (places_at l.landing.calls (take l.address-index l.landing.to.now))
