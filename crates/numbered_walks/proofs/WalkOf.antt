-- The walks that the steps of the reaching theory make, for a builder of the folded walk.
use Rattle.std.proofs.Common.{◌≡◌, ℕ, ◌*◌, true, false, List, [], ◌∷◌, ◌++◌, Option, Some, Contains, refl, ap, ◌∙◌}
use Rattle.std.specs.List.{repeat}
use Rattle.numbered_walks.specs.declared.span.NumberedEdge.{NumberedEdge}
use Rattle.numbered_walks.specs.declared.span.Span.{Span}
use Rattle.numbered_walks.specs.Ordered.{is_in}
use Rattle.numbered_walks.proofs.Reaching as R
use Rattle.numbered_walks.specs.Reach.{InTree, holds_in}

module _ (edges : List NumberedEdge) (tree : List Span) (taken : Span → ℕ) (dist : ℕ → ℕ) (arr rnd : Span → ℕ) where
  abbrev Reach : Option Span → ℕ → Type 0
  Reach c p = R.Reach edges tree taken dist arr rnd c p

  -- some walk of the theory is this one
  abbrev pub ReachBy : Option Span → ℕ → List NumberedEdge → Type 0
  ReachBy c p walk = (r : R.Reach edges tree taken dist arr rnd c p) × (r.walk ≡ walk)

  abbrev pub RoundBy : Span → List NumberedEdge → Type 0
  RoundBy i walk = (r : R.Round edges tree taken dist arr rnd i) × (r.walk ≡ walk)

  abbrev pub RoundsBy : Span → List NumberedEdge → Type 0
  RoundsBy i walk = (r : R.Rounds edges tree taken dist arr rnd i) × (r.walk ≡ walk)

  pub by_step : (st : R.Structure edges tree taken dist arr rnd) (c : Option Span) (here : InTree tree c) (e : NumberedEdge) (in_graph : Contains edges e) (no_header : (j : Span) → Contains tree j → e.to ≡ j.header → ⊥) (goes_in : holds_in c e.to ≡ true) (no_turn : R.turns_in edges tree taken dist arr rnd c e ≡ false) (attained : dist e.to ≡ R.needed edges tree taken dist arr rnd e) (starts_in : holds_in c e.from ≡ true) (walk : List NumberedEdge) → ReachBy c e.from walk → ReachBy c e.to (walk ++ e ∷ [])
  unfolding R.reach_step
  by_step st c here e in_graph no_header goes_in no_turn attained starts_in walk (r, is) =
      (R.reach_step edges tree taken dist arr rnd st c here e in_graph no_header goes_in no_turn attained starts_in r, ap (λ (w : List NumberedEdge). w ++ e ∷ []) is)

  pub by_header : (st : R.Structure edges tree taken dist arr rnd) (c : Option Span) (here : InTree tree c) (e : NumberedEdge) (i : Span) (in_graph : Contains edges e) (i_in : Contains tree i) (to_header : e.to ≡ i.header) (outside : is_in i e.from ≡ false) (is_below : R.below edges tree taken dist arr rnd c i ≡ true) (goes_in : holds_in c e.to ≡ true) (no_turn : R.turns_in edges tree taken dist arr rnd c e ≡ false) (zero_here : dist e.to ≡ 0) (attained : arr i ≡ R.needed edges tree taken dist arr rnd e) (starts_in : holds_in c e.from ≡ true) (rounds walk : List NumberedEdge) → RoundsBy i rounds → ReachBy c e.from walk → ReachBy c e.to ((walk ++ e ∷ []) ++ rounds)
  unfolding R.reach_header
  by_header st c here e i in_graph i_in to_header outside is_below goes_in no_turn zero_here attained starts_in rounds walk (s, s_is) (r, is) =
      (R.reach_header edges tree taken dist arr rnd st c here e i in_graph i_in to_header outside is_below goes_in no_turn zero_here attained starts_in s r, ap (λ (w : List NumberedEdge). (w ++ e ∷ []) ++ s.walk) is ∙ ap (λ (w : List NumberedEdge). (walk ++ e ∷ []) ++ w) s_is)

  pub by_back : (st : R.Structure edges tree taken dist arr rnd) (i : Span) (e : NumberedEdge) (i_in : Contains tree i) (in_graph : Contains edges e) (from_in : is_in i e.from ≡ true) (to_header : e.to ≡ i.header) (attained : rnd i ≡ R.needed edges tree taken dist arr rnd e) (walk : List NumberedEdge) → ReachBy (Some i) e.from walk → RoundBy i (walk ++ e ∷ [])
  unfolding R.round_of
  by_back st i e i_in in_graph from_in to_header attained walk (r, is) =
      (R.round_of edges tree taken dist arr rnd st i e i_in in_graph from_in to_header attained r, ap (λ (w : List NumberedEdge). w ++ e ∷ []) is)

  pub by_repeat : (st : R.Structure edges tree taken dist arr rnd) (i : Span) (i_in : Contains tree i) (walk : List NumberedEdge) → RoundBy i walk → RoundsBy i (repeat (taken i) walk)
  unfolding R.all_rounds
  by_repeat st i i_in walk (r, is) = (R.all_rounds edges tree taken dist arr rnd st i i_in r, ap (λ (w : List NumberedEdge). repeat (taken i) w) is)

  pub by_none : (i : Span) → taken i * rnd i ≡ 0 → RoundsBy i []
  unfolding R.no_rounds
  by_none i none = (R.no_rounds edges tree taken dist arr rnd i none, refl)
