use Rattle.std.proofs.Common.{◌∙◌, ◌<◌, ◌^◌, Some, ap, arith, length, subst, sym}
use Rattle.control_flow.specs.declared.places.Place.{Place}
use Rattle.cert_check.specs.declared.failing.FailingRow.TheVariants as f
use Rattle.cert_check.specs.Failing.{IsFirstFailing}
use Rattle.cert_check.specs.Verdict.{walk_objections}
use Rattle.cert_check.proofs.StrayLemmas.{broken_walk, cost_walk, open_walk, over_walk, walk_passes}
use Rattle.cert_check.proofs.failing_walk.failing_line.Goals as goal

pub returns-in-Some : goal.returns-in-Some
returns-in-Some c = broken_walk c.args.indexed.graph.now c.args.indexed.tree.now c.args.indexed.index.now c.places-exit.ensures.well_formed c.requires.indexed.tree c.requires.indexed.index c.args.walker.now c.requires.fresh c.args.cert.now c.in-Some.item c.in-Some.ensures

pub returns-then-walker-exit : goal.returns-then-walker-exit
returns-then-walker-exit c =
    subst (λ (p : Place). IsFirstFailing c.args.indexed.graph.now c.args.indexed.tree.now c.args.cert.now walk_objections (Some (f.OpenWalk p))) (sym c.place_in-place.ensures)
    (open_walk c.args.indexed.graph.now c.args.indexed.tree.now c.args.indexed.index.now c.places-exit.ensures.well_formed c.requires.indexed.tree c.requires.indexed.index c.args.walker.now c.requires.fresh c.args.cert.now c.first_broken.new.walker c.in_default.ensures (λ is. c.if-walker-exit.true (is ∙ sym (ap length c.places-exit.ensures.value))))

pub returns-in-Some-over : goal.returns-in-Some-over
returns-in-Some-over c =
    let done = c.if-walker-exit.false ∙ ap length c.places-exit.ensures.value in
    subst (λ (p : Place). IsFirstFailing c.args.indexed.graph.now c.args.indexed.tree.now c.args.cert.now walk_objections (Some (f.WalkOverBound p c.in-Some-over.span.bound))) (sym c.place_in-header.ensures)
    (over_walk c.args.indexed.graph.now c.args.indexed.tree.now c.args.indexed.index.now c.places-exit.ensures.well_formed c.requires.indexed.tree c.requires.indexed.index c.args.walker.now c.requires.fresh c.args.cert.now c.first_broken.new.walker c.in_default.ensures done c.in-Some-over.span c.in-Some-over.is)

pub returns-then-walker-from : goal.returns-then-walker-from
returns-then-walker-from c =
    let done = c.if-walker-exit.false ∙ ap length c.places-exit.ensures.value in
    let fits : c.args.cert.now.bound < 2 ^ 64 = omega arith in
    cost_walk c.args.indexed.graph.now c.args.indexed.tree.now c.args.indexed.index.now c.places-exit.ensures.well_formed c.requires.indexed.tree c.requires.indexed.index c.args.walker.now c.requires.fresh c.args.cert.now c.first_broken.new.walker c.in_default.ensures done c.in_default-over.is fits (λ is. c.if-walker-from.true (is ∙ sym c.from.ensures))

pub returns : goal.returns
returns c =
    let done = c.if-walker-exit.false ∙ ap length c.places-exit.ensures.value in
    let fits : c.args.cert.now.bound < 2 ^ 64 = omega arith in
    walk_passes c.args.indexed.graph.now c.args.indexed.tree.now c.args.indexed.index.now c.places-exit.ensures.well_formed c.requires.indexed.tree c.requires.indexed.index c.args.walker.now c.requires.fresh c.args.cert.now c.first_broken.new.walker c.in_default.ensures done c.in_default-over.is fits (c.if-walker-from.false ∙ c.from.ensures)
