use Rattle.std.proofs.Common.{◌+◌, ◌<◌, arith, get_or, length, set, subst, sym}
use Rattle.statement.proofs.ApartLemmas.{IsCarried, all_carried, at_any, carried_more, none_carried}
use Rattle.statement.proofs.apart.carry_on.Goals as goal

pub loop-reach-init : goal.loop-reach-init
loop-reach-init c = none_carried c.args.reaches.now c.requires

pub loop-reach-preserved : goal.loop-reach-preserved
loop-reach-preserved c =
    let now = c.loop-reach.reaches in
    let i = c.loop-reach.reach-index in
    let x = get_or now i (0, 0) in
    let low : i < length now = omega arith in
    subst (λ n. IsCarried c.args.reaches.now (set now i (x.0, n)) (i + 1) n) (sym c.max-farthest.ensures)
    (carried_more c.args.reaches.now now i c.loop-reach.farthest x low (λ d. at_any now i d (0, 0) low) c.loop-reach.invariant)

pub returns : goal.returns
returns c =
    all_carried c.args.reaches.now c.loop-reach.reaches c.loop-reach.reach-index c.loop-reach.farthest (omega arith) c.loop-reach.invariant
