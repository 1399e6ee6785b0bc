use Rattle.std.proofs.Common.{ℕ, Option, length, subst}
use Rattle.loop_bounds.specs.Layout.{IsHeaderOf}
use Rattle.loop_bounds.proofs.PlainLemmas.{back_some}
use Rattle.loop_bounds.proofs.ranks.is_back.Goals as goal

pub returns-in-Some : goal.returns-in-Some
returns-in-Some c =
    let at = subst (λ (o : Option ℕ). IsHeaderOf c.args.extents.now (length c.args.extents.now) c.args.edge.now.to o) c.in-Some.is (c.requires.headers.each c.args.edge.now.to c.requires.inside) in
    back_some c.args.extents.now c.in-Some.k c.args.edge.now c.holds.result c.requires.apart at.0 at.1 c.holds.ensures
