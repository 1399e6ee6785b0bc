-- Stays in instances, with an edge more.
use Rattle.std.proofs.Common.{◌≡◌, ◌≢◌, ◌∙◌, ℕ, ◌+◌, max, Bool, true, false, cond, ◌&&◌, List, [], ◌∷◌, ◌++◌, length, get_or, All, Contains, Option, Some, ⊎_elim, refl, sym, ap, subst, arith}
use Rattle.std.proofs.lemmas.Bool.{and_from, cases_Bool, eq-eqb, ne_eqb}
use Rattle.std.proofs.lemmas.List.Elements.{Contains-get_or}
use Rattle.std.proofs.lemmas.List.Sums.{sum_by-cons}
use Rattle.walks.specs.Segments.{count, most, tail}
use Rattle.walks.proofs.Joins as J
use Rattle.walks.proofs.Segments.{tail-le-most, tail_outside}
use Rattle.numbered_walks.specs.declared.span.NumberedEdge.{NumberedEdge}
use Rattle.numbered_walks.specs.declared.span.Span.{Span}
use Rattle.numbered_walks.specs.Index.{AreHeaders}
use Rattle.numbered_walks.specs.Ordered.{IsOrdered, ends_at_header, is_in, is_inside}
use Rattle.numbered_walks.specs.Reach.{most_in}
use Rattle.numbered_walks.proofs.Members.{header_in}
use Rattle.numbered_walks.proofs.Nesting.{same_header}
use Rattle.control_flow.specs.Flow.{Flow}
use Rattle.loop_bounds.specs.Tree.{IsTree, Tree}
use Rattle.walk_counts.specs.Spans.{EndsBefore, header_at, turns_at_end}

-- ## Stretches

module _ {E : Type 0} (inside turns : E → Bool) (w : List E) (e : E) where
  edge_out : inside e ≡ false → (most inside turns (w ++ e ∷ []) ≡ most inside turns w) × (tail inside turns (w ++ e ∷ []) ≡ 0)
  edge_out out =
      let none : cond (inside e) (cond (turns e) 1 0 + 0) 0 ≡ 0 = rw out refl in
      let joins : most inside turns (w ++ e ∷ []) ≡ max (max (most inside turns w) (max (cond (inside e) (cond (turns e) 1 0 + 0) 0) 0)) (tail inside turns w + cond (inside e) (cond (turns e) 1 0 + 0) 0) = J.most-append inside turns w (e ∷ []) in
      (omega (arith, joins, none, tail-le-most inside turns w), tail_outside inside turns w e out)

  one : count inside turns (e ∷ []) ≡ cond (turns e) 1 0 + 0
  one = sum_by-cons (λ x. cond (turns x) 1 0) e []

  tail_in : inside e ≡ true → tail inside turns (w ++ e ∷ []) ≡ tail inside turns w + cond (turns e) 1 0
  tail_in inner =
      let joins : tail inside turns (w ++ e ∷ []) ≡ cond (inside e && true) (tail inside turns w + count inside turns (e ∷ [])) (tail inside turns (e ∷ [])) = J.tail-append inside turns w (e ∷ []) in
      let long : tail inside turns (w ++ e ∷ []) ≡ tail inside turns w + count inside turns (e ∷ []) = joins ∙ ap (λ (b : Bool). cond (b && true) (tail inside turns w + count inside turns (e ∷ [])) (tail inside turns (e ∷ []))) inner in
      omega (arith, long, one)

  most_in_it : inside e ≡ true → most inside turns (w ++ e ∷ []) ≡ max (most inside turns w) (tail inside turns w + cond (turns e) 1 0)
  most_in_it inner =
      let here : cond (inside e) (cond (turns e) 1 0 + 0) 0 ≡ cond (turns e) 1 0 = rw inner (omega arith) in
      let joins : most inside turns (w ++ e ∷ []) ≡ max (max (most inside turns w) (max (cond (inside e) (cond (turns e) 1 0 + 0) 0) 0)) (tail inside turns w + cond (inside e) (cond (turns e) 1 0 + 0) 0) = J.most-append inside turns w (e ∷ []) in
      omega (arith, joins, here, tail-le-most inside turns w)

  edge_turn : inside e ≡ true → turns e ≡ true → (most inside turns (w ++ e ∷ []) ≡ max (most inside turns w) (tail inside turns w + 1)) × (tail inside turns (w ++ e ∷ []) ≡ tail inside turns w + 1)
  edge_turn inner turn =
      let c : cond {A = ℕ} (turns e) 1 0 ≡ 1 = rw turn refl in
      (omega (arith, most_in_it inner, c), omega (arith, tail_in inner, c))

  edge_plain : inside e ≡ true → turns e ≡ false → (most inside turns (w ++ e ∷ []) ≡ most inside turns w) × (tail inside turns (w ++ e ∷ []) ≡ tail inside turns w)
  edge_plain inner plain =
      let c : cond {A = ℕ} (turns e) 1 0 ≡ 0 = rw plain refl in
      (omega (arith, most_in_it inner, c, tail-le-most inside turns w), omega (arith, tail_in inner, c))

-- ## Instances

module _ (exit : ℕ) (edges : List NumberedEdge) (spans : List Span) (order : IsOrdered exit edges spans) where
  -- the span that begins at a number is the one that is known there
  pub span_there : (headers : List (Option Span)) → AreHeaders spans headers → (m : ℕ) (s : Span) → Contains spans s → s.header ≡ m → header_at headers m ≡ Some s
  span_there headers all m s has is =
      let found = all.all s has in
      let known = all.known s.header found.0 found.1 in
      let same : found.0 ≡ s = same_header spans order.headers_differ found.0 s known.0 has known.1 in
      ap (header_at headers) (sym is) ∙ found.1 ∙ ap (λ (x : Span). Some x) same

  module _ (e : NumberedEdge) (in_graph : Contains edges e) (w : List NumberedEdge) (s : Span) (has : Contains spans s) where
    outside : is_in s e.from ≡ false → is_inside s e ≡ false
    outside out = ap (λ (b : Bool). b && is_in s e.to) out

    -- a back edge of the instance
    pub edge_back : s.header ≡ e.to → is_in s e.from ≡ true → (most_in s (w ++ e ∷ []) ≡ max (most_in s w) (turns_at_end s w + 1)) × (turns_at_end s (w ++ e ∷ []) ≡ turns_at_end s w + 1)
    edge_back is from_in =
        let holds : is_in s e.to ≡ true = subst (λ (n : ℕ). is_in s n ≡ true) is (header_in exit edges spans order s has) in
        edge_turn (is_inside s) (ends_at_header s) w e (and_from (is_in s e.from) (is_in s e.to) from_in holds) (eq-eqb e.to s.header (sym is))

    -- an edge that begins outside
    pub edge_from_outside : is_in s e.from ≡ false → (most_in s (w ++ e ∷ []) ≡ most_in s w) × (turns_at_end s (w ++ e ∷ []) ≡ 0)
    edge_from_outside out = edge_out (is_inside s) (ends_at_header s) w e (outside out)

    no_turn : s.header ≢ e.to → ends_at_header s e ≡ false
    no_turn other = ne_eqb e.to s.header (λ is. other (sym is))

    -- an edge that ends elsewhere than at the header
    pub edge_elsewhere : s.header ≢ e.to → most_in s (w ++ e ∷ []) ≡ most_in s w
    edge_elsewhere other = ⊎_elim
        (λ (is : is_inside s e ≡ true). (edge_plain (is_inside s) (ends_at_header s) w e is (no_turn other)).0)
        (λ (out : is_inside s e ≡ false). (edge_out (is_inside s) (ends_at_header s) w e out).0)
        (cases_Bool (is_inside s e))

    -- and in the instance: it begins there too, and the stay goes on
    pub edge_in_stay : s.header ≢ e.to → is_in s e.to ≡ true → (is_in s e.from ≡ true) × (turns_at_end s (w ++ e ∷ []) ≡ turns_at_end s w)
    edge_in_stay other here =
        let from_in : is_in s e.from ≡ true = ⊎_elim
        (λ is. is)
        (λ out. absurd (other (sym (order.entered e in_graph s has out here))))
        (cases_Bool (is_in s e.from)) in
        (from_in, (edge_plain (is_inside s) (ends_at_header s) w e (and_from (is_in s e.from) (is_in s e.to) from_in here) (no_turn other)).1)

-- the spans of a tree end before Exit
pub spans_end : (flow : Flow) (tree : Tree) → IsTree flow tree → (spans : List Span) (exit : ℕ) → spans ≡ tree.spans → exit ≡ length flow.places → All (EndsBefore exit) spans
spans_end flow tree t spans exit are at = subst (λ (xs : List Span). All (EndsBefore exit) xs) (sym are) (λ k d lt.
    let shape = t.ordered.shape (get_or tree.spans k d) (Contains-get_or tree.spans k d lt) in
    (shape.0, omega (arith, shape.1, at)))
