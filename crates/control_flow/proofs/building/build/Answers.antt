use Rattle.std.proofs.Common.{rules, ◌≤◌, ◌∙◌, length, sym, subst}
use Rattle.std.proofs.lemmas.Result.{err_from_is_err_and}
use Rattle.std.specs.List.Sorted.{IsStrictlySortedBy}
use Rattle.control_flow.specs.Places.{place_cmp}
use Rattle.control_flow.specs.Search.{places_in}
use Rattle.control_flow.specs.declared.places.Place.{Place}
use Rattle.std.specs.Prelude.{List}
use Rattle.control_flow.proofs.BuildLemmas.{flow_from, none_refused, turn_refused}
use Rattle.control_flow.proofs.FlowLemmas.{well_formed}
use Rattle.control_flow.proofs.building.build.Goals as goal

pub returns-in_err-edges-clause-fault : goal.returns-in_err-edges-clause-fault
returns-in_err-edges-clause-fault c =
    let p = err_from_is_err_and c.from_residual-in_err-edges.result c.from_residual-in_err-edges.ensures.1 in
    rw (p.1, p.2)
    (turn_refused c.args.image.now c.args.statement.now c.args.profile.now (places_in c.in_ok-seen.seen) c.deref.result.now _ (c.deref.ensures.value ∙ c.in_ok-places.ensures.places) c.in_ok-seen.ensures.places c.in_err-edges.ensures.fault)

pub invariant_of-result : goal.invariant_of-result
invariant_of-result c =
    well_formed c.args.image.now c.args.statement.now c.args.profile.now _
    (flow_from c.args.image.now c.args.statement.now c.args.profile.now (places_in c.in_ok-seen.seen) c.in_ok-places.places.items c.deref.result.now c.start_of.result c.in_ok-edges.edges.items c.in_ok-edges.firsts.items c.in_ok-places.ensures.places c.deref.ensures.value c.in_ok-seen.ensures.places c.in_ok-places.ensures.ordered c.in_ok-edges.ensures.turn c.start_of.ensures.value)
    (subst (λ (ps : List Place). length ps ≤ 16384) (sym c.in_ok-places.ensures.places) c.in_ok-seen.ensures.allowed.few)
    c.statements_are_stated.ensures

pub returns-clause-graph : goal.returns-clause-graph
returns-clause-graph c =
    flow_from c.args.image.now c.args.statement.now c.args.profile.now (places_in c.in_ok-seen.seen) c.in_ok-places.places.items c.deref.result.now c.start_of.result c.in_ok-edges.edges.items c.in_ok-edges.firsts.items c.in_ok-places.ensures.places c.deref.ensures.value c.in_ok-seen.ensures.places c.in_ok-places.ensures.ordered c.in_ok-edges.ensures.turn c.start_of.ensures.value

pub returns-clause-allowed : goal.returns-clause-allowed
returns-clause-allowed c =
    none_refused c.args.image.now c.args.statement.now c.args.profile.now (places_in c.in_ok-seen.seen) (subst (IsStrictlySortedBy place_cmp) c.in_ok-places.ensures.places c.in_ok-places.ensures.ordered) c.in_ok-seen.ensures.places c.in_ok-seen.ensures.allowed (c.stray_target.ensures.none (search rules))
