use Rattle.std.proofs.Common.{All, subst, inl, inr}
use Rattle.std.proofs.lemmas.List.{take_all}
use Rattle.std.proofs.lemmas.List.Elements.{All-more, Contains-get_or}
use Rattle.numbered_walks.specs.declared.span.NumberedEdge.{NumberedEdge}
use Rattle.numbered_walks.proofs.Members.{no_numbered_edge}
use Rattle.loop_bounds.specs.Extents.{EntersRight}
use Rattle.loop_bounds.proofs.nesting.all_enter_right.Goals as goal

pub returns-then-not-enters_right : goal.returns-then-not-enters_right
returns-then-not-enters_right c = inl c.if-not-enters_right.ensures

pub loop-edge-preserved : goal.loop-edge-preserved
loop-edge-preserved c = All-more (λ (e : NumberedEdge). EntersRight c.args.extents.now e.from e.to) c.args.edges.now c.loop-edge.edge-index no_numbered_edge c.loop-edge-test.true c.loop-edge.invariant c.if-not-enters_right-2.ensures

pub returns-then-not-enters_right-2 : goal.returns-then-not-enters_right-2
returns-then-not-enters_right-2 c = inr (_, Contains-get_or c.args.edges.now c.loop-edge.edge-index no_numbered_edge c.loop-edge-test.true, c.if-not-enters_right-2.ensures)

pub returns : goal.returns
returns c = record { at_entry = c.if-not-enters_right.ensures; along = subst (All (λ (e : NumberedEdge). EntersRight c.args.extents.now e.from e.to)) (take_all c.loop-edge.edge-index c.args.edges.now c.loop-edge-test.false) c.loop-edge.invariant }
