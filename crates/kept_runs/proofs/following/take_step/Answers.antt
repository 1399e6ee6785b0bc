use Rattle.std.proofs.Common.{◌+◌, ◌^◌, ◌∙◌, ◌<◌, ℕ, Bool, List, ap, arith, get_or, length, refl, subst, sym}
use Rattle.std.proofs.lemmas.List.{get_or_default}
use Rattle.control_flow.proofs.Firsts.{no_edge}
use Rattle.control_flow.specs.Places.{place_at}
use Rattle.control_flow.specs.declared.edges.Edge.{Edge}
use Rattle.control_flow.specs.declared.edges.Label.TheVariants.{Do}
use Rattle.walk_counts.specs.Counts.{is_same_label}
use Rattle.numbered_walks.specs.Index.{edge_at}
use Rattle.numbered_walks.specs.declared.span.NumberedEdge.{NumberedEdge}
use Rattle.kept_runs.specs.Judging.{IsAtPlace, Strays, Takes}
use Rattle.kept_runs.specs.Passing.{counted, nothing}
use Rattle.kept_runs.specs.Stays.{IsOver, Turns}
use Rattle.kept_runs.proofs.StepTaken.{goes, index_in, room, is_there, strays, to_in, turns_back}
use Rattle.kept_runs.proofs.following.take_step.Goals as goal

pub bounds-order-follower : goal.bounds-order-follower
bounds-order-follower c =
    let whole = c.requires.handler.tree_is.whole in
    let known = c.requires.can.known in
    omega (arith, ap length c.order.ensures, whole, known)

pub judge-requires-clause-graph : goal.judge-requires-clause-graph
judge-requires-clause-graph c = c.requires.handler.graph_is

pub judge-requires-clause-known : goal.judge-requires-clause-known
judge-requires-clause-known c =
    subst (λ (xs : List ℕ). get_or xs c.args.follower.now.number 0 < length c.args.handler.now.graph.places) (sym c.order.ensures)
    (index_in c.args.handler.now.image.now c.args.handler.now.statement c.args.handler.now.graph c.args.handler.now.tree c.requires.well_formed c.requires.handler.tree_is c.args.follower.now c.args.machine.now c.requires.can)

pub judge-requires-clause-is_there : goal.judge-requires-clause-is_there
judge-requires-clause-is_there c =
    subst (λ (xs : List ℕ). IsAtPlace c.args.handler.now.graph (place_at c.args.handler.now.graph.places (get_or xs c.args.follower.now.number 0)) c.args.machine.now) (sym c.order.ensures)
    (is_there c.args.handler.now.image.now c.args.handler.now.statement c.args.handler.now.graph c.args.handler.now.tree c.requires.well_formed c.requires.handler.tree_is c.args.follower.now c.args.machine.now c.requires.can)

pub returns-in-Err : goal.returns-in-Err
returns-in-Err c = record {
  halts =
      strays c.args.handler.now.image.now c.args.handler.now.statement c.args.handler.now.graph c.args.handler.now.tree c.requires.well_formed c.requires.handler.tree_is c.args.follower.now c.args.machine.now c.requires.can c.args.input
      c.judge.new.machine c.in-Err.step.stray
      (subst (λ (xs : List ℕ). Strays c.args.handler.now.image.now c.args.handler.now.statement c.args.handler.now.graph (place_at c.args.handler.now.graph.places (get_or xs c.args.follower.now.number 0)) c.args.machine.now c.args.input c.judge.new.machine c.in-Err.step.stray) c.order.ensures c.in-Err.ensures.strays);
  step = c.in-Err.ensures.step;
  stays = refl;
}

pub bounds-edges-taken : goal.bounds-edges-taken
bounds-edges-taken c =
    let same = c.requires.handler.tree_is.numbered.same in
    let known = c.in-Ok.ensures.known in
    omega (arith, ap length c.edges.ensures, same, known)

pub turn-requires-clause-known : goal.turn-requires-clause-known
turn-requires-clause-known c =
    let whole = c.requires.headers.whole in
    let most = to_in c.args.handler.now.image.now c.args.handler.now.statement c.args.handler.now.graph c.args.handler.now.tree c.requires.well_formed c.requires.handler.tree_is c.args.follower.now c.args.machine.now c.requires.can c.args.input
    c.args.headers.now c.requires.headers c.judge.new.machine c.in-Ok.taken
    (subst (λ (xs : List ℕ). Takes c.args.handler.now.image.now c.args.handler.now.statement c.args.handler.now.graph (place_at c.args.handler.now.graph.places (get_or xs c.args.follower.now.number 0)) c.args.machine.now c.args.input c.judge.new.machine c.in-Ok.taken) c.order.ensures c.in-Ok.ensures) in
    subst (λ (es : List NumberedEdge). (edge_at es c.in-Ok.taken.edge).to < length c.args.headers.now) (sym c.edges.ensures) (omega (arith, whole, most))

pub turn-requires-clause-room : goal.turn-requires-clause-room
turn-requires-clause-room c =
    subst (λ (es : List NumberedEdge). (edge_at es c.in-Ok.taken.edge).to < length c.args.follower.now.turns.items) (sym c.edges.ensures)
    (room c.args.handler.now.image.now c.args.handler.now.statement c.args.handler.now.graph c.args.handler.now.tree c.requires.well_formed c.requires.handler.tree_is c.args.follower.now c.args.machine.now c.requires.can c.args.input
    c.args.headers.now c.requires.headers c.judge.new.machine c.in-Ok.taken
    (subst (λ (xs : List ℕ). Takes c.args.handler.now.image.now c.args.handler.now.statement c.args.handler.now.graph (place_at c.args.handler.now.graph.places (get_or xs c.args.follower.now.number 0)) c.args.machine.now c.args.input c.judge.new.machine c.in-Ok.taken) c.order.ensures c.in-Ok.ensures))

pub returns-in-Some : goal.returns-in-Some
returns-in-Some c = record {
  halts = turns_back c.args.handler.now.image.now c.args.handler.now.statement c.args.handler.now.graph c.args.handler.now.tree c.requires.well_formed c.requires.handler.tree_is c.args.follower.now c.args.machine.now c.requires.can c.args.input
      c.args.headers.now c.requires.headers c.judge.new.machine c.in-Ok.taken
      (subst (λ (xs : List ℕ). Takes c.args.handler.now.image.now c.args.handler.now.statement c.args.handler.now.graph (place_at c.args.handler.now.graph.places (get_or xs c.args.follower.now.number 0)) c.args.machine.now c.args.input c.judge.new.machine c.in-Ok.taken) c.order.ensures c.in-Ok.ensures)
      c.in-Some.span
      (subst (λ (es : List NumberedEdge). IsOver c.args.headers.now (edge_at es c.in-Ok.taken.edge) c.args.follower.now.turns.items c.in-Some.span) c.edges.ensures c.in-Some.ensures);
  step = (c.in-Ok.ensures.is_edge_of.executes.step, c.in-Ok.ensures.small);
  stays = tt;
}

pub count-requires-clause-known : goal.count-requires-clause-known
count-requires-clause-known c =
    let whole = c.requires.can.tally.whole in
    let inside = index_in c.args.handler.now.image.now c.args.handler.now.statement c.args.handler.now.graph c.args.handler.now.tree c.requires.well_formed c.requires.handler.tree_is c.args.follower.now c.args.machine.now c.requires.can in
    subst (λ (xs : List ℕ). get_or xs c.args.follower.now.number 0 < length c.args.follower.now.by_place.items) (sym c.order.ensures) (omega (arith, whole, inside))

pub count-requires-clause-few : goal.count-requires-clause-few
count-requires-clause-few c =
    let inside = index_in c.args.handler.now.image.now c.args.handler.now.statement c.args.handler.now.graph c.args.handler.now.tree c.requires.well_formed c.requires.handler.tree_is c.args.follower.now c.args.machine.now c.requires.can in
    let most = c.requires.can.tally.passes (get_or c.args.handler.now.tree.order c.args.follower.now.number 0) inside in
    let few = c.requires.few in
    let more = c.requires.can.tally.done (get_or c.args.handler.now.tree.order c.args.follower.now.number 0) inside in (
      subst (λ (xs : List ℕ). (get_or c.args.follower.now.by_place.items (get_or xs c.args.follower.now.number 0) nothing).passes + 1 < 2 ^ 64) (sym c.order.ensures) (omega (arith, most, few)),
      subst (λ (xs : List ℕ). (get_or c.args.follower.now.by_place.items (get_or xs c.args.follower.now.number 0) nothing).done + 1 < 2 ^ 64) (sym c.order.ensures) (omega (arith, more, few)),
    )

pub count-requires-clause-small : goal.count-requires-clause-small
count-requires-clause-small c =
    let inside = index_in c.args.handler.now.image.now c.args.handler.now.statement c.args.handler.now.graph c.args.handler.now.tree c.requires.well_formed c.requires.handler.tree_is c.args.follower.now c.args.machine.now c.requires.can in
    let most = c.requires.can.tally.ticks (get_or c.args.handler.now.tree.order c.args.follower.now.number 0) inside in
    let spent = c.requires.small in
    let small = c.in-Ok.ensures.small in
    subst (λ (xs : List ℕ). (get_or c.args.follower.now.by_place.items (get_or xs c.args.follower.now.number 0) nothing).ticks + c.in-Ok.taken.stepped.ticks < 2 ^ 128) (sym c.order.ensures) (omega (arith, most, spent, small))

pub returns : goal.returns
returns c =
    let k = c.in-Ok.taken.edge in
    goes c.args.handler.now.image.now c.args.handler.now.statement c.args.handler.now.graph c.args.handler.now.tree c.requires.well_formed c.requires.handler.tree_is c.args.follower.now c.args.machine.now c.requires.can c.args.input
    c.args.headers.now c.requires.headers c.judge.new.machine c.in-Ok.taken
    (subst (λ (xs : List ℕ). Takes c.args.handler.now.image.now c.args.handler.now.statement c.args.handler.now.graph (place_at c.args.handler.now.graph.places (get_or xs c.args.follower.now.number 0)) c.args.machine.now c.args.input c.judge.new.machine c.in-Ok.taken) c.order.ensures c.in-Ok.ensures)
    _
    (subst (λ (es : List NumberedEdge). Turns c.args.headers.now (edge_at es c.in-Ok.taken.edge) c.args.follower.now.turns.items c.turn.new.turns.items) c.edges.ensures c.in_default.ensures)
    (ap (λ (es : List NumberedEdge). (edge_at es c.in-Ok.taken.edge).to) c.edges.ensures)
    refl
    (ap (λ (n : ℕ). c.args.follower.now.ticks + n) c.from.ensures)
    (c.count.ensures
    ∙ ap (λ (xs : List ℕ). counted c.args.follower.now.by_place.items (get_or xs c.args.follower.now.number 0) c.is_same_label-done.result c.in-Ok.taken.stepped.ticks) c.order.ensures
    ∙ ap (λ (b : Bool). counted c.args.follower.now.by_place.items (get_or c.args.handler.now.tree.order c.args.follower.now.number 0) b c.in-Ok.taken.stepped.ticks) c.is_same_label-done.ensures
    ∙ ap (λ (e : Edge). counted c.args.follower.now.by_place.items (get_or c.args.handler.now.tree.order c.args.follower.now.number 0) (is_same_label e.label Do) c.in-Ok.taken.stepped.ticks)
    (ap (λ (es : List Edge). get_or es k c.index-edges-taken.result) c.edges-2.ensures.value ∙ get_or_default c.args.handler.now.graph.edges k c.index-edges-taken.result no_edge c.in-Ok.ensures.known))
