-- No stretch along which a mask is set takes more than what is found over numbers.
use Rattle.std.proofs.Common.{◌≡◌, ◌∙◌, ℕ, ◌<◌, ◌≤◌, Bool, true, false, List, [], ◌∷◌, ◌++◌, length, get_or, map, All, Contains, ⊎_elim, refl, sym, ap, subst, arith}
use Rattle.std.proofs.lemmas.Bool.{both_ways}
use Rattle.std.proofs.lemmas.List.{length-map}
use Rattle.std.proofs.lemmas.List.Elements.{All-cons, All-head, All-nil, All-tail, Contains-get_or}
use Rattle.walks.specs.Walk.{cost_of}
use Rattle.control_flow.specs.declared.edges.Edge.{Edge}
use Rattle.control_flow.specs.Flow.{Flow, IsWellFormed, edge_shape}
use Rattle.control_flow.proofs.Firsts.{no_edge}
use Rattle.image.specs.Image.{Words}
use Rattle.statement.specs.Stated.{StatedLoops}
use Rattle.numbered_walks.specs.declared.span.NumberedEdge.{NumberedEdge}
use Rattle.numbered_walks.specs.Index.{edge_at, edges_of}
use Rattle.numbered_walks.specs.Ordered as O
use Rattle.loop_bounds.specs.Handler.{IsTreeOf}
use Rattle.loop_bounds.specs.Tree.{Tree}
use Rattle.longest_walk.specs.Built.{step_at, steps_of}
use Rattle.longest_walk.specs.Longest.{KeepsTree}
use Rattle.longest_walk.proofs.CarryWalks.{costs_same, keeps_down, walk_down}
use Rattle.text_masked.specs.declared.marked.MarkedEdge.{MarkedEdge}
use Rattle.text_masked.specs.declared.shown.Mask.{Mask}
use Rattle.text_masked.specs.declared.stretches.MaskedTime.{MaskedTime}
use Rattle.text_masked.specs.declared.stretches.MaskedTime.TheVariants.{AtMost, TooLong, GoesRound}
use Rattle.text_masked.specs.Held.{IsTimeBy, is_set, marked_at}
use Rattle.text_masked.specs.Masked.{AreMarked, IsBoundOf, IsMaskedTime}
use Rattle.text_masked.specs.Shown.{SetsMask}
use Rattle.text_masked.specs.Stretches.{StaysSet}
use Rattle.text_masked.proofs.CountLemmas.{NoneClears, bounded, plain}
use Rattle.text_masked.proofs.HeldLemmas.{edge_is, no_marked}

-- ## Lists

rest_of : {X : Type 0} → List X → List X
rest_of [] = []
rest_of (x ∷ xs) = xs

module _ {X : Type 0} (f : ℕ → X) (P : ℕ → Type 0) (d before : X) (after : List X) where
  -- the numbers of a list in which an element stands between others
  record Split (front : List X) (ks : List ℕ) : Type 0 where
    first : List ℕ
    here : ℕ
    last : List ℕ
    is : ks ≡ first ++ here ∷ last
    here_is : f here ≡ before
    last_is : map f last ≡ after
    here_holds : P here
    last_hold : All P last

  split : (front : List X) (ks : List ℕ) → All P ks → map f ks ≡ front ++ before ∷ after → Split front ks
  unfolding rest_of
  split [] [] all is = let none : 0 ≡ length (before ∷ after) = ap (λ (v : List X). length v) is in absurd (omega arith)
  split [] (k ∷ ks) all is = record {
    first = [];
    here = k;
    last = ks;
    is = refl;
    here_is = ap (λ (v : List X). get_or v 0 d) is;
    last_is = ap (λ (v : List X). rest_of v) is;
    here_holds = All-head P k ks all;
    last_hold = All-tail P k ks all;
  }
  split (x ∷ front) [] all is = let none : 0 ≡ length (x ∷ (front ++ before ∷ after)) = ap (λ (v : List X). length v) is in absurd (omega arith)
  split (x ∷ front) (k ∷ ks) all is =
      let s : Split front ks = split front ks (All-tail P k ks all) (ap (λ (v : List X). rest_of v) is) in
      record {
        first = k ∷ s.first;
        here = s.here;
        last = s.last;
        is = ap (λ (v : List ℕ). k ∷ v) s.is;
        here_is = s.here_is;
        last_is = s.last_is;
        here_holds = s.here_holds;
        last_hold = s.last_hold;
      }

pub mapped-append : {X Y : Type 0} (f : X → Y) (v w : List X) → map f (v ++ w) ≡ map f v ++ map f w
mapped-append f [] w = refl
mapped-append f (x ∷ v) w = ap (λ ys. f x ∷ ys) (mapped-append f v w)

-- ## Stretches

is_number : MaskedTime → Bool
is_number (AtMost n) = true
is_number TooLong = false
is_number GoesRound = false

not_most : (n : ℕ) → AtMost n ≡ GoesRound → ⊥
unfolding is_number
not_most n is = both_ways true (ap is_number is) refl

module _ (words : Words) (loops : StatedLoops) (flow : Flow) (mask : Mask) (tree : Tree) (t : IsTreeOf flow loops tree) (well : IsWellFormed flow) (marked : List MarkedEdge) (m : AreMarked words mask flow tree marked) where
  as_many : length marked ≡ length flow.edges
  as_many = sym (length-map marked (λ (x : MarkedEdge). x.edge)) ∙ ap (λ (es : List NumberedEdge). length es) m.edges ∙ t.tree_is.numbered.same

  abbrev IsNumber : ℕ → Type 0
  IsNumber k = k < length flow.edges

  abbrev marks : List ℕ → List MarkedEdge
  marks ks = map (marked_at marked) ks

  plain_is : (ks : List ℕ) → All (λ k. k < length flow.edges) ks → plain (marks ks) ≡ edges_of tree.edges ks
  plain_is [] all = refl
  plain_is (k ∷ ks) all =
      let lt : k < length flow.edges = All-head IsNumber k ks all in
      let here : (marked_at marked k).edge ≡ edge_at tree.edges k = sym (edge_is marked tree.edges m.edges k (omega (arith, lt, as_many))) in
      let rest : plain (marks ks) ≡ edges_of tree.edges ks = plain_is ks (All-tail IsNumber k ks all) in
      (λ i. here i ∷ rest i)

  all_marked : (ks : List ℕ) → All (λ k. k < length flow.edges) ks → All (Contains marked) (marks ks)
  all_marked [] all = All-nil (Contains marked)
  all_marked (k ∷ ks) all =
      let lt : k < length flow.edges = All-head IsNumber k ks all in
      All-cons (Contains marked) (marked_at marked k) (marks ks) (Contains-get_or marked k no_marked (omega (arith, lt, as_many))) (all_marked ks (All-tail IsNumber k ks all))

  none_clears : (ks : List ℕ) → All (λ k. k < length flow.edges) ks → StaysSet words mask (steps_of flow.edges ks) → NoneClears (marks ks)
  none_clears [] all stays = tt
  none_clears (k ∷ []) all stays = tt
  none_clears (k ∷ (next ∷ ks)) all stays =
      let lt : k < length flow.edges = All-head IsNumber k (next ∷ ks) all in
      (λ clears. stays.0 ((m.shown k (omega (arith, lt, as_many))).clears.1 clears), none_clears (next ∷ ks) (All-tail IsNumber k (next ∷ ks) all) stays.1)

  abbrev exit : ℕ
  exit = length flow.places

  bounds : (time : MaskedTime) → IsTimeBy (length flow.places) marked tree.spans time → IsBoundOf words loops flow mask time
  bounds TooLong found = tt
  bounds GoesRound found = tt
  bounds (AtMost n) found = λ stretch is.
      let walk : List Edge = is.front ++ is.before ∷ stretch in
      let d = walk_down flow tree well t.tree_is walk is.place is.leads in
      let kept : KeepsTree tree walk = λ i in_tree. is.kept i ((t.instances i).0 in_tree) in
      let keeps : O.KeepsBounds tree.spans (edges_of tree.edges d.numbers) = keeps_down flow tree well t.tree_is d.numbers d.inside (subst (λ (v : List Edge). KeepsTree tree v) (sym d.walk_is) kept) in
      let s : Split (step_at flow.edges) IsNumber no_edge is.before stretch is.front d.numbers = split (step_at flow.edges) IsNumber no_edge is.before stretch is.front d.numbers d.inside d.walk_is in
      let before : MarkedEdge = marked_at marked s.here in
      let lt : s.here < length flow.edges = s.here_holds in
      let low : s.here < length marked = omega (arith, lt, as_many) in
      let before_is : before.edge ≡ edge_at tree.edges s.here = sym (edge_is marked tree.edges m.edges s.here low) in
      let parts : edges_of tree.edges d.numbers ≡ edges_of tree.edges s.first ++ before.edge ∷ plain (marks s.last) =
      ap (edges_of tree.edges) s.is ∙ mapped-append (edge_at tree.edges) s.first (s.here ∷ s.last)
      ∙ (λ i. edges_of tree.edges s.first ++ sym before_is i ∷ sym (plain_is s.last s.last_hold) i) in
      let sets : is_set before.shown ≡ true = ap is_set ((m.shown s.here low).sets.0 (subst (λ (e : Edge). SetsMask words mask e) (sym s.here_is) is.sets)) in
      let stays : NoneClears (marks s.last) = none_clears s.last s.last_hold (subst (λ (v : List Edge). StaysSet words mask v) (sym s.last_is) is.stays) in
      let most : O.cost_of (plain (marks s.last)) ≤ n = ⊎_elim
      (λ round. absurd (not_most n round.0))
      (λ counted. bounded exit tree.edges tree.spans t.tree_is.ordered marked m.edges found.held found.are_held found.turned found.are_turned counted.0 before (marks s.last) (edges_of tree.edges s.first) d.last n
      (Contains-get_or marked s.here no_marked low) sets (all_marked s.last s.last_hold) stays
      (subst (λ (v : List NumberedEdge). O.Leads tree.edges 0 v d.last) parts d.leads) (subst (λ (v : List NumberedEdge). O.KeepsBounds tree.spans v) parts keeps) counted.1)
      found.found in
      let cost_is : cost_of edge_shape stretch ≡ O.cost_of (plain (marks s.last)) =
      ap (λ (v : List Edge). cost_of edge_shape v) (sym s.last_is) ∙ costs_same flow tree well t.tree_is s.last s.last_hold ∙ ap (λ (v : List NumberedEdge). O.cost_of v) (sym (plain_is s.last s.last_hold)) in
      omega (arith, cost_is, most)

  pub is_masked_time : (time : MaskedTime) → IsTimeBy (length flow.places) marked tree.spans time → IsMaskedTime words loops flow mask time
  is_masked_time time found = record { tree = tree; is_tree = t; marked = marked; are_marked = m; found = found; bounds = bounds time found }
