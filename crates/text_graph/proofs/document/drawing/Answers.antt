use Rattle.std.proofs.Common.{◌≡◌, ◌∙◌, ℕ, List, Option, Vec, ap, length, refl, subst, sym}
use Rattle.std.specs.Global.{Global}
use Rattle.std.proofs.lemmas.Result.{IfOk-weaker}
use Rattle.longest_walk.specs.Folded.{unfolded}
use Rattle.sources.specs.Lines.{line_of}
use Rattle.walk_counts.specs.Counts.{AreCounts}
use Rattle.text_rows.specs.WordLines.{Numbered, numbered_at}
use Rattle.text_graph.specs.Labels.{AreLabels}
use Rattle.text_graph.specs.Scene.{Scene}
use Rattle.text_graph.specs.Text.{IsDrawing, drawing_text}
use Rattle.text_graph.proofs.TableLaws.{can_draw}
use Rattle.text_graph.proofs.document.drawing.Goals as goal

pub returns : goal.returns
returns c =
    let source = c.args.source.now in
    let flow = c.args.handler.now.graph in
    let tree = c.args.handler.now.tree in
    let longest = c.args.longest.now in
    let counts = c.deref.result.now in
    let labels = c.deref-2.result.now in
    let shown : (ℕ → Option Numbered) → Scene = λ (line : ℕ → Option Numbered). record {
      flow = flow;
      tree = tree;
      counts = counts;
      labels = labels;
      line = line;
      bound = longest.bound;
      extent = c.args.extent;
    } in
    let lines_are : numbered_at c.in_ok-lines.lines ≡ line_of source = λ i a. c.in_ok-lines.ensures.each a i in
    IfOk-weaker c.drawn_text.result (λ text. text.items ≡ drawing_text (shown (numbered_at c.in_ok-lines.lines)))
    (λ text. IsDrawing source flow tree longest c.args.extent text.items)
    (λ text is. record {
      counts = counts;
      are_counts = subst (λ (ns : List ℕ). AreCounts flow.edges (unfolded longest.walk) ns) (sym c.deref.ensures.value) c.in_ok-counts.ensures.counts;
      labels = labels;
      labels_are = subst (λ (ls : List (Vec ℕ Global)). AreLabels source flow.places ls) (sym c.deref-2.ensures.value) c.in_ok-labels.ensures;
      scene = shown (line_of source);
      scene_is = refl;
      text_is = is ∙ (λ i. drawing_text (shown (lines_are i)));
    })
    c.drawn_text.ensures

pub begins-requires : goal.begins-requires
begins-requires c = record {
  drawn =
      can_draw _ (length c.places.result.now) c.edges.result.now c.spans.result.now c.in_ok-counts.counts.items c.in_ok-arrivals.arrivals.items c.requires
      (ap length c.places.ensures.value) c.spans.ensures c.in_ok-index.ensures c.deref-3.ensures.value c.in_ok-arrivals.ensures c.deref.ensures.value c.in_ok-counts.ensures.counts.whole c.in_ok-callers.ensures;
}

pub drawn_text-requires-clause-drawn : goal.drawn_text-requires-clause-drawn
drawn_text-requires-clause-drawn c =
    can_draw _ (length c.places.result.now) c.edges.result.now c.spans.result.now c.in_ok-counts.counts.items c.in_ok-arrivals.arrivals.items c.requires
    (ap length c.places.ensures.value) c.spans.ensures c.in_ok-index.ensures c.deref-3.ensures.value c.in_ok-arrivals.ensures c.deref.ensures.value c.in_ok-counts.ensures.counts.whole c.in_ok-callers.ensures
