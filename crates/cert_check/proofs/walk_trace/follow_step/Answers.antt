use Rattle.std.proofs.Common.{◌∙◌, ◌+◌, List, Option, ap, get_or, subst, sym}
use Rattle.numbered_walks.specs.declared.span.NumberedEdge.{NumberedEdge}
use Rattle.numbered_walks.specs.declared.span.Span.{Span}
use Rattle.numbered_walks.specs.Index.{edge_at}
use Rattle.numbered_walks.specs.Ordered.{is_in}
use Rattle.walk_counts.specs.Spans.{header_at}
use Rattle.cert_check.specs.Walking.{Arrives, capped_cost, turns_after}
use Rattle.cert_check.proofs.WalkSteps.{step_outside, step_taken}
use Rattle.cert_check.proofs.walk_trace.follow_step.Goals as goal

pub returns-then-not-is_in : goal.returns-then-not-is_in
returns-then-not-is_in c levels =
    let within = c.args.within.now in
    let k = c.in-Some.number in
    step_outside c.args.indexed.graph.now c.args.indexed.tree.now c.args.indexed.index.now c.requires.well_formed within levels c.args.walker.now c.requires c.args.line.now k c.in-Some.ensures.inside c.in-Some.ensures.found
    (ap (λ (es : List NumberedEdge). is_in within (edge_at es k).to) (sym c.edges.ensures) ∙ sym c.is_in.ensures ∙ c.if-not-is_in.true)

pub returns : goal.returns
returns c levels =
    let within = c.args.within.now in
    let k = c.in-Some.number in
    let x = c.args.walker.now in
    let y = c.take.new.self in
    step_taken c.args.indexed.graph.now c.args.indexed.tree.now c.args.indexed.index.now c.requires.well_formed within levels x c.requires c.args.line.now k c.in-Some.ensures.inside c.in-Some.ensures.found y
    (ap (λ (es : List NumberedEdge). is_in within (edge_at es k).to) (sym c.edges.ensures) ∙ sym c.is_in.ensures ∙ c.if-not-is_in.false)
    (subst (λ (es : List NumberedEdge). Arrives c.args.indexed.index.now.headers.items (edge_at es k).to (capped_cost (x.cost + (edge_at es k).cost)) (turns_after (header_at c.args.indexed.index.now.headers.items (edge_at es k).to) (edge_at es k).from (get_or x.turns.items (edge_at es k).to 0)) x y) c.edges.ensures
    (subst (λ (hs : List (Option Span)). Arrives hs (edge_at c.edges.result.now k).to (capped_cost (x.cost + (edge_at c.edges.result.now k).cost)) (turns_after (header_at hs (edge_at c.edges.result.now k).to) (edge_at c.edges.result.now k).from (get_or x.turns.items (edge_at c.edges.result.now k).to 0)) x y) c.deref.ensures.value
    c.take.ensures))
