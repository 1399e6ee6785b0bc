use Rattle.std.proofs.Common.{ℕ, ◌+◌, sym, subst}
use Rattle.text_masked.specs.Held.{IsGreatestOfAll}
use Rattle.text_masked.proofs.TurnLemmas.{one_more_of_all}
use Rattle.text_masked.proofs.stretches.greatest_of_all.Goals as goal

pub loop-number-preserved : goal.loop-number-preserved
loop-number-preserved c =
    let g = c.args.graph in
    subst (λ (n : ℕ). IsGreatestOfAll g.edges.now g.spans.now (c.loop-number.number + 1) n) (sym c.max-greatest.ensures)
    (one_more_of_all g.edges.now g.spans.now c.loop-number.number c.loop-number.greatest c.greatest_cost_to.result c.loop-number.invariant c.greatest_cost_to.ensures)
