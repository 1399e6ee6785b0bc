use Rattle.std.proofs.Common.{None, arith, length}
use Rattle.std.specs.Prelude.{IfSome}
use Rattle.known_places.specs.Outside.{PlaceGoesOutside}
use Rattle.known_places.proofs.TableLemmas.{one_more}
use Rattle.known_places.proofs.outside.all_outside.Goals as goal

pub loop-number-preserved : goal.loop-number-preserved
loop-number-preserved c =
    let h = c.args.handler.now in
    let table = c.args.table.now in
    let put = c.in_ok-put_outside.ensures in
    one_more None
    (λ k outside. IfSome outside (PlaceGoesOutside h.image.now h.statement h.graph h.tree table.around.now table.known.now k))
    c.loop-number.found.items c.put_outside.new.found.items c.loop-number.number put.0 c.loop-number.invariant.0
    c.loop-number.invariant.1 put.1 put.2

pub returns : goal.returns
returns c = λ number low. c.loop-number.invariant.1 number (omega (arith, low, c.loop-number-test.false))
