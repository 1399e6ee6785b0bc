use Rattle.std.proofs.Common.{arith, false, ap, length}
use Rattle.std.specs.Prelude.{IsTrue}
use Rattle.numbered_walks.specs.Index.{span_at}
use Rattle.known_places.specs.Endless.{IsClosed}
use Rattle.known_places.proofs.TableLemmas.{one_more}
use Rattle.known_places.proofs.endless.all_closed.Goals as goal

pub loop-number-preserved : goal.loop-number-preserved
loop-number-preserved c =
    let h = c.args.handler.now in
    let table = c.args.table.now in
    let put = c.in_ok-put_closed.ensures in
    one_more false
    (λ k closed. IsTrue closed → IsClosed h.image.now h.graph h.tree table.around.now table.known.now (span_at h.tree.spans k))
    c.loop-number.found.items c.put_closed.new.found.items c.loop-number.number put.0 c.loop-number.invariant.0
    c.loop-number.invariant.1 put.1 put.2

pub returns : goal.returns
returns c = λ number low.
    c.loop-number.invariant.1 number
    (omega (arith, low, c.loop-number-test.false, ap length c.spans-number-end.ensures))
