use Rattle.std.proofs.Common.{◌≤◌, List, length, subst, arith}
use Rattle.control_flow.specs.declared.places.Place.{Place}
use Rattle.text_refusals.proofs.SearchLemmas.{idle_begun, none_cycles}
use Rattle.text_refusals.proofs.cycles.unbounded_cycle.Goals as goal

pub visit-requires-clause-idle : goal.visit-requires-clause-idle
visit-requires-clause-idle c = idle_begun c.args.graph.now c.args.loops.now c.entry.ensures.well_formed c.in_ok-search.search c.in_ok-search.ensures.marks c.in_ok-search.ensures.path

pub returns-clause-none : goal.returns-clause-none
returns-clause-none c =
    let flow = c.args.graph.now in
    let most = subst (λ (ps : List Place). length ps ≤ c.loop-root.root-index) c.places-root-items.ensures.value c.loop-root-test.false in
    none_cycles flow c.args.loops.now c.places-root-items.ensures.well_formed (λ p has. c.loop-root.invariant.cleared has.0 p (omega (arith, has.1, most)) has.2)
