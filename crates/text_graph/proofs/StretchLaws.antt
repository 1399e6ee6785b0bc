-- One cluster more, one stretch more.
use Rattle.std.proofs.Common.{◌≡◌, ◌∙◌, ℕ, ◌+◌, ◌-◌, ◌<◌, ◌≤◌, List, ◌++◌, All, append_assoc, length, drop, get_or, sym, ap, subst, arith}
use Rattle.std.specs.Prelude.{max, reverse}
use Rattle.std.proofs.Math.ListN.{drop_of_length-le}
use Rattle.std.proofs.lemmas.List.{drop_more, get_or-reverse, length-reverse}
use Rattle.std.proofs.lemmas.List.Elements.{All-filter, Contains-get_or}
use Rattle.control_flow.specs.Flow.{Flow}
use Rattle.loop_bounds.specs.Tree.{IsTree, Tree}
use Rattle.numbered_walks.specs.Ordered.{is_in}
use Rattle.numbered_walks.specs.declared.span.Span.{Span}
use Rattle.text_graph.specs.Clusters.{call_texts, clusters, depth_in, loop_text}
use Rattle.text_graph.specs.Scene.{Scene}
use Rattle.text_graph.specs.Stretches.{AreInside, loops_of}

module _ (scene : Scene) (first : ℕ) (calls : List ℕ) where
  pub cluster_more : (loops : List Span) (i : ℕ) (d : Span) (inside depth deeper : ℕ) (old opened new all : List ℕ) → old ++ clusters scene first calls inside (drop i loops) ≡ all → i < length loops
      → depth ≡ depth_in scene calls (get_or loops i d) → opened ≡ old ++ call_texts scene first calls inside depth → new ≡ opened ++ loop_text scene first (get_or loops i d) → deeper ≡ max inside depth
      → new ++ clusters scene first calls deeper (drop (i + 1) loops) ≡ all
  cluster_more loops i d inside depth deeper old opened new all h lt depth_is routines_are loop_is deeper_is =
      let s = get_or loops i d in
      let rest = drop (i + 1) loops in
      let r = call_texts scene first calls inside (depth_in scene calls s) in
      let l = loop_text scene first s in
      let m = clusters scene first calls (max inside (depth_in scene calls s)) rest in
      ap (λ n. new ++ clusters scene first calls n rest) (deeper_is ∙ ap (max inside) depth_is)
      ∙ ap (λ xs. xs ++ m) (loop_is ∙ ap (λ xs. xs ++ l) (routines_are ∙ ap (λ n. old ++ call_texts scene first calls inside n) depth_is))
      ∙ append_assoc (old ++ r) l m ∙ append_assoc old r (l ++ m)
      ∙ ap (λ ss. old ++ clusters scene first calls inside ss) (sym (drop_more loops i d lt)) ∙ h

  pub clusters_end : (loops : List Span) (i inside : ℕ) (old new all : List ℕ) → old ++ clusters scene first calls inside (drop i loops) ≡ all → length loops ≤ i
      → new ≡ old ++ call_texts scene first calls inside (length calls) → new ≡ all
  clusters_end loops i inside old new all h le last =
      last ∙ ap (λ ss. old ++ clusters scene first calls inside ss) (sym (drop_of_length-le loops le)) ∙ h

-- ## Loops

all_reversed : {X : Type 0} (P : X → Type 0) (xs : List X) → All P xs → All P (reverse xs)
all_reversed P xs all = λ k d lt.
    let few : k < length xs = omega (arith, lt, ap (λ n. n) (length-reverse xs)) in
    subst P (sym (get_or-reverse xs k d few)) (all (length xs - 1 - k) d (omega arith))

-- the loops that hold a number, the outermost first
pub loops_inside : (flow : Flow) (tree : Tree) (n : ℕ) (loops : List Span) → IsTree flow tree → loops ≡ reverse (loops_of flow tree n) → AreInside flow loops
loops_inside flow tree n loops is same =
    let P : Span → Type 0 = λ s. s.last < length flow.places in
    let all : All P tree.spans = λ k d lt. (is.ordered.shape (get_or tree.spans k d) (Contains-get_or tree.spans k d lt)).1 in
    subst (λ ss. All P ss) (sym same) (all_reversed P (loops_of flow tree n) (All-filter (λ s. is_in s n) P tree.spans all))
