use Rattle.std.proofs.Common.{arith, length}
use Rattle.known_places.specs.Destinations.{PlaceGoesTo}
use Rattle.known_places.specs.declared.destination.Destination.TheVariants.{Unknown}
use Rattle.known_places.proofs.TableLemmas.{one_more}
use Rattle.known_places.proofs.destination.destinations_in.Goals as goal

pub loop-number-preserved : goal.loop-number-preserved
loop-number-preserved c =
    let h = c.args.handler.now in
    let put = c.in_ok-put_destination.ensures in
    one_more Unknown (PlaceGoesTo h.image.now h.graph h.tree c.args.table.now) c.loop-number.found.items
    c.put_destination.new.found.items c.loop-number.number put.0 c.loop-number.invariant.0 c.loop-number.invariant.1 put.1
    put.2

pub returns-clause-each : goal.returns-clause-each
returns-clause-each c = λ number low. c.loop-number.invariant.1 number (omega (arith, low, c.loop-number-test.false))
