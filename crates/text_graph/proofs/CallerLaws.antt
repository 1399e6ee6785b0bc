-- From where routines are called.
use Rattle.std.proofs.Common.{◌≡◌, ◌∙◌, ℕ, ◌+◌, ◌<◌, ◌≤◌, Bool, true, false, cond, eqb, List, [], ◌∷◌, ◌++◌, Option, Some, None, append-nil, flat_map, get_or, length, take, sym, ap, subst}
use Rattle.std.specs.Map.{update, update_all}
use Rattle.std.specs.Prelude.{Contains}
use Rattle.std.proofs.lemmas.Grind.{flat_map-append}
use Rattle.std.proofs.lemmas.List.{take_all, take_more}
use Rattle.std.proofs.lemmas.List.Sums.{fold-append}
use Rattle.control_flow.specs.Flow.{Flow}
use Rattle.control_flow.proofs.SortedLemmas.{here, there}
use Rattle.loop_bounds.specs.Tree.{IsTree, Tree}
use Rattle.numbered_walks.specs.declared.span.NumberedEdge.{NumberedEdge}
use Rattle.text_graph.specs.Stretches.{caller_of, calls_by, is_call}

-- pairs over a function, and over another with the same value
pair_same : (g h : ℕ → Option ℕ) (p : ℕ × ℕ) (b : Bool) (q : ℕ) → g q ≡ h q → update_all eqb g (cond b (p ∷ []) []) q ≡ update_all eqb h (cond b (p ∷ []) []) q
pair_same g h p true q is = ap (λ v. cond (eqb p.0 q) (Some p.1) v) is
pair_same g h p false q is = is

module _ (flow : Flow) (tree : Tree) where
  abbrev pub made : List NumberedEdge → ℕ → Option ℕ
  made edges = update_all eqb (λ n. None) (flat_map (calls_by flow tree) edges)

  -- an edge more
  pub callers_more : (edges : List NumberedEdge) (i : ℕ) (d : NumberedEdge) (old new : ℕ → Option ℕ) → i < length edges → ((q : ℕ) → old q ≡ made (take i edges) q)
      → ((q : ℕ) → new q ≡ update_all eqb old (calls_by flow tree (get_or edges i d)) q) → (q : ℕ) → new q ≡ made (take (i + 1) edges) q
  callers_more edges i d old new lt before is q =
      let e = get_or edges i d in
      let seen = flat_map (calls_by flow tree) (take i edges) in
      let parts : flat_map (calls_by flow tree) (take (i + 1) edges) ≡ seen ++ calls_by flow tree e =
      ap (flat_map (calls_by flow tree)) (take_more edges i d lt) ∙ flat_map-append (calls_by flow tree) (take i edges) (e ∷ [])
      ∙ ap (λ (ps : List (ℕ × ℕ)). seen ++ ps) (append-nil (calls_by flow tree e)) in
      is q ∙ pair_same old (made (take i edges)) (e.to, e.from) (is_call flow tree e) q (before q)
      ∙ ap (λ (f : ℕ → Option ℕ). f q) (sym (fold-append (λ (g : ℕ → Option ℕ) (p : ℕ × ℕ). update eqb g p.0 (Some p.1)) (λ n. None) seen (calls_by flow tree e)))
      ∙ ap (λ (ps : List (ℕ × ℕ)). update_all eqb (λ n. None) ps q) (sym parts)

  pub callers_all : (edges : List NumberedEdge) (i : ℕ) (now : ℕ → Option ℕ) → edges ≡ tree.edges → length edges ≤ i → ((q : ℕ) → now q ≡ made (take i edges) q) → (q : ℕ) → now q ≡ caller_of flow tree q
  callers_all edges i now same le is q = is q ∙ ap (λ (es : List NumberedEdge). made es q) (take_all i edges le ∙ same)

  -- what calls is a place
  abbrev Inside : (ℕ → Option ℕ) → Type 0
  Inside f = (q m : ℕ) → f q ≡ Some m → m < length flow.places

  one_inside : (f : ℕ → Option ℕ) (p : ℕ × ℕ) → p.1 < length flow.places → Inside f → Inside (update eqb f p.0 (Some p.1))
  one_inside f p lt all q m is = by (eqb p.0 q) is
    where
      by : (b : Bool) → cond b (Some p.1) (f q) ≡ Some m → m < length flow.places
      by true same = let e : p.1 ≡ m = cc in subst (λ k. k < length flow.places) e lt
      by false same = all q m same

  pairs_inside : (f : ℕ → Option ℕ) (p : ℕ × ℕ) (b : Bool) (rest : List (ℕ × ℕ)) → p.1 < length flow.places → Inside f
      → ((g : ℕ → Option ℕ) → Inside g → Inside (update_all eqb g rest)) → Inside (update_all eqb f (cond b (p ∷ []) [] ++ rest))
  pairs_inside f p true rest lt all more = more (update eqb f p.0 (Some p.1)) (one_inside f p lt all)
  pairs_inside f p false rest lt all more = more f all

  made_inside : (edges : List NumberedEdge) → ((e : NumberedEdge) → Contains edges e → e.from < length flow.places) → (f : ℕ → Option ℕ) → Inside f → Inside (update_all eqb f (flat_map (calls_by flow tree) edges))
  made_inside [] places f all = all
  made_inside (e ∷ edges) places f all =
      pairs_inside f (e.to, e.from) (is_call flow tree e) (flat_map (calls_by flow tree) edges) (places e (here e edges)) all
      (made_inside edges (λ x h. places x (there e edges x h)))

  pub caller_inside : IsTree flow tree → (n m : ℕ) → caller_of flow tree n ≡ Some m → m < length flow.places
  caller_inside t = made_inside tree.edges (λ e h. (t.ordered.places e h).0) (λ n. None) (λ q m is. absurd (cc))
