-- The extent of a cycle, edge by edge.
use Rattle.std.proofs.Common.{◌≡◌, ℕ, ◌+◌, ◌<◌, ◌≤◌, List, [], ◌∷◌, length, get_or, sym, ap, ◌∙◌, subst, ⊎_elim, arith}
use Rattle.std.specs.Prelude.{Contains, Some}
use Rattle.std.specs.List.{slice_get}
use Rattle.std.proofs.lemmas.Bool.{cases_lt}
use Rattle.std.proofs.lemmas.List.{get_or_default}
use Rattle.control_flow.specs.declared.places.Place.TheVariants.{At}
use Rattle.control_flow.specs.declared.edges.Edge.{Edge}
use Rattle.text_refusals.specs.Extents.{IsExtentOf, IsLeft, WidensTo}
use Rattle.text_refusals.specs.declared.extents.CycleExtent.{CycleExtent}

none_some : {X : Type 0} (x : X) → slice_get [] 0 ≡ Some x → ⊥
none_some x is = cc

-- of the first edges so many lie within
pub record IsSoFar (edges : List Edge) (list : List ℕ) (header : ℕ) (count : ℕ) (extent : CycleExtent) : Type 0 where
  pub header_is : extent.header ≡ header
  pub least : IsLeft edges list extent.first
  pub greatest : IsLeft edges list extent.last
  pub within : (a k : ℕ) (e : Edge) → k < count → get_or edges k e ≡ e → e.from ≡ At list a → (extent.first ≤ a) × (a ≤ extent.last)

module _ (edges : List Edge) (list : List ℕ) (header : ℕ) where
  pub so_far_none : (extent : CycleExtent) → extent.header ≡ header → extent.first ≡ header → extent.last ≡ header → IsLeft edges list header → IsSoFar edges list header 0 extent
  so_far_none extent h f l left = record {
    header_is = h;
    least = subst (IsLeft edges list) (sym f) left;
    greatest = subst (IsLeft edges list) (sym l) left;
    within = λ a k e lt is at. absurd (omega (arith, lt));
  }

  pub so_far_one : (k : ℕ) (e : Edge) (old new : CycleExtent) → k < length edges → e ≡ get_or edges k e → IsSoFar edges list header k old → WidensTo (λ a. e.from ≡ At list a) old new → IsSoFar edges list header (k + 1) new
  so_far_one k e old new lt is g w =
      let has : Contains edges e = (k, lt, sym is) in
      record {
        header_is = w.header ∙ g.header_is;
        least = ⊎_elim
            (λ (same : new.first ≡ old.first). subst (IsLeft edges list) (sym same) g.least)
            (λ (here : e.from ≡ At list new.first). (e, has, here))
            w.first;
        greatest = ⊎_elim
            (λ (same : new.last ≡ old.last). subst (IsLeft edges list) (sym same) g.greatest)
            (λ (here : e.from ≡ At list new.last). (e, has, here))
            w.last;
        within = λ a j other less found at. ⊎_elim
            (λ (before : j < k).
            let r = g.within a j other before found at in
            (omega (arith, r.0, w.low), omega (arith, r.1, w.high)))
            (λ (from : k ≤ j).
            let j_is : j ≡ k = omega (arith, less) in
            let same : other ≡ e = sym found ∙ ap (λ (n : ℕ). get_or edges n other) j_is ∙ get_or_default edges k other e lt ∙ sym is in
            w.within a (ap (λ (x : Edge). x.from) (sym same) ∙ at))
            (cases_lt j k);
      }

  pub so_far_all : (count : ℕ) (start : Edge) (rest : List Edge) (extent : CycleExtent) → length edges ≤ count → edges ≡ start ∷ rest → start.from ≡ At list header → IsSoFar edges list header count extent → IsExtentOf edges extent
  so_far_all count start rest extent all begins at g = record {
    list = list;
    start = start;
    rest = rest;
    begins = begins;
    at = at ∙ ap (At list) (sym g.header_is);
    least = g.least;
    greatest = g.greatest;
    within = λ a left.
        let has = left.1 in
        g.within a has.0 left.0 (omega (arith, has.1, all)) has.2 left.2;
  }

-- a list that has a first element
pub first_is : {X : Type 0} (xs : List X) (x : X) → slice_get xs 0 ≡ Some x → (rest : List X) × (xs ≡ x ∷ rest)
first_is [] x is = absurd (none_some x is)
first_is (y ∷ xs) x is =
    let same : y ≡ x = cc in
    (xs, ap (λ z. z ∷ xs) same)
