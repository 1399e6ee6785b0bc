-- Edges with what they show, one after another.
use Rattle.std.proofs.Common.{◌≡◌, ◌∙◌, ℕ, ◌+◌, ◌<◌, ◌≤◌, List, [], ◌∷◌, ◌++◌, length, map, take, ⊎_elim, refl, sym, ap, subst, arith}
use Rattle.std.proofs.lemmas.Bool.{cases_lt}
use Rattle.std.proofs.lemmas.List.{get_or_append_left, get_or_push, length_push, take_all, take_more}
use Rattle.control_flow.specs.declared.edges.Edge.{Edge}
use Rattle.control_flow.specs.Flow.{Flow}
use Rattle.image.specs.Image.{Words}
use Rattle.loop_bounds.specs.Tree.{Tree}
use Rattle.longest_walk.specs.Built.{step_at}
use Rattle.numbered_walks.specs.declared.span.NumberedEdge.{NumberedEdge}
use Rattle.numbered_walks.specs.Index.{edge_at}
use Rattle.numbered_walks.proofs.Members.{no_numbered_edge}
use Rattle.text_masked.specs.declared.marked.MarkedEdge.{MarkedEdge}
use Rattle.text_masked.specs.declared.shown.Mask.{Mask}
use Rattle.text_masked.specs.Held.{marked_at}
use Rattle.text_masked.specs.Masked.{AreMarked}
use Rattle.text_masked.specs.Shown.{IsShownOn}
use Rattle.text_masked.proofs.HeldLemmas.{no_marked}
use Rattle.text_masked.proofs.StretchLemmas.{mapped-append}

module _ (words : Words) (mask : Mask) (steps : List Edge) (edges : List NumberedEdge) where
  -- the first edges
  pub record AreFirst (marked : List MarkedEdge) (n : ℕ) : Type 0 where
    pub whole : length marked ≡ n
    pub same : map (λ (m : MarkedEdge). m.edge) marked ≡ take n edges
    pub shown : (k : ℕ) → k < n → IsShownOn words mask (step_at steps k) (marked_at marked k).shown

  pub none_first : (marked : List MarkedEdge) → marked ≡ [] → AreFirst marked 0
  none_first marked none = subst (λ (v : List MarkedEdge). AreFirst v 0) (sym none) (record { whole = refl; same = refl; shown = λ k lt. absurd (omega arith) })

  pub one_marked : (marked : List MarkedEdge) (n : ℕ) (m : MarkedEdge) → AreFirst marked n → n < length edges → m.edge ≡ edge_at edges n → IsShownOn words mask (step_at steps n) m.shown → AreFirst (marked ++ m ∷ []) (n + 1)
  one_marked marked n m first lt edge_is shows = record {
    whole = length_push marked m ∙ ap (λ (k : ℕ). k + 1) first.whole;
    same = mapped-append (λ (x : MarkedEdge). x.edge) marked (m ∷ []) ∙ (λ i. first.same i ++ edge_is i ∷ []) ∙ sym (take_more edges n no_numbered_edge lt);
    shown = λ k less. ⊎_elim
        (λ (low : k < n).
        let at : marked_at (marked ++ m ∷ []) k ≡ marked_at marked k = get_or_append_left marked (m ∷ []) no_marked k (omega (arith, low, first.whole)) in
        subst (λ (x : MarkedEdge). IsShownOn words mask (step_at steps k) x.shown) (sym at) (first.shown k low))
        (λ (high : n ≤ k).
        let is : k ≡ n = omega arith in
        let at : marked_at (marked ++ m ∷ []) k ≡ m = get_or_push marked m no_marked k (first.whole ∙ sym is) in
        subst (λ (x : MarkedEdge). IsShownOn words mask (step_at steps k) x.shown) (sym at) (subst (λ (j : ℕ). IsShownOn words mask (step_at steps j) m.shown) (sym is) shows))
        (cases_lt k n);
  }

  pub all_marked : (flow : Flow) (tree : Tree) (marked : List MarkedEdge) (n : ℕ) → steps ≡ flow.edges → edges ≡ tree.edges → length edges ≤ n → AreFirst marked n → AreMarked words mask flow tree marked
  all_marked flow tree marked n steps_are edges_are all first = record {
    edges = first.same ∙ take_all n edges all ∙ edges_are;
    shown = λ k lt. subst (λ (es : List Edge). IsShownOn words mask (step_at es k) (marked_at marked k).shown) steps_are (first.shown k (omega (arith, lt, first.whole)));
  }
