-- The tables of what is drawn.
use Rattle.std.proofs.Common.{◌≡◌, ◌∙◌, ℕ, ◌+◌, ◌≤◌, List, length, ap, subst}
use Rattle.std.specs.Prelude.{slice_index}
use Rattle.loop_bounds.specs.Tree.{IsTree}
use Rattle.numbered_walks.specs.Index.{AreHolders, IsIndex}
use Rattle.numbered_walks.specs.declared.span.NumberedEdge.{NumberedEdge}
use Rattle.numbered_walks.specs.declared.span.Span.{Span}
use Rattle.text_graph.specs.Stretches.{AreCallers, CanDraw, arrivals}
use Rattle.text_graph.specs.declared.tables.Drawn.{Drawn}

pub can_draw : (d : Drawn) (exit : ℕ) (edges : List NumberedEdge) (spans : List Span) (counts counted : List ℕ) → IsTree d.graph.now d.tree.now
    → exit ≡ length d.graph.now.places → spans ≡ d.tree.now.spans → IsIndex exit edges spans d.index.now → d.arrivals.now ≡ counted
    → (length counted ≡ length d.graph.now.places + 1) × ((n : ℕ) → n ≤ length d.graph.now.places → slice_index counted n ≡ arrivals d.graph.now d.tree.now n)
    → d.counts.now ≡ counts → length counts ≡ length d.graph.now.edges → AreCallers d.graph.now d.tree.now d.callers.now → CanDraw d
can_draw d exit edges spans counts counted tree exit_is spans_are index counted_is are counts_are whole callers = record {
  tree = tree;
  tables = record {
    holders = subst (λ (ss : List Span). AreHolders ss d.index.now.holders.items) spans_are index.holders;
    all_held = index.all_held ∙ ap (λ n. n + 1) exit_is;
    all_counted = ap length counted_is ∙ are.0;
    are_counted = λ n le. ap (λ ns. slice_index ns n) counted_is ∙ are.1 n le;
  };
  counted = ap length counts_are ∙ whole;
  callers = callers;
}
