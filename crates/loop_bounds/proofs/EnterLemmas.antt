-- Which edges enter extents elsewhere than at their headers, and the innermost extent that holds a position.
use Rattle.std.proofs.Common.{◌≡◌, ℕ, ◌-◌, ◌<◌, ◌≤◌, ◌⊎◌, true, false, List, Option, Some, None, IfSome, length, get_or, leb, sym, refl, ap, ◌∙◌, inl, inr, ⊎_elim, arith}
use Rattle.std.proofs.lemmas.Bool.{cases_order, cases_lt, leb-true, leb-false}
use Rattle.loop_bounds.specs.declared.extents.Extent.{Extent}
use Rattle.loop_bounds.specs.Extents.{AreExtents, AreParents, IsParent, IsOpen, IsWithin, IsInnermost, EntersRight, EntersWrong, IsLeft, extent_at, parent_at, height}
use Rattle.loop_bounds.proofs.ExtentLemmas.{first_of, lower, end_of, sorted_first, open_some}
use Rattle.std.proofs.lemmas.List.{get_or_default}
use Rattle.std.proofs.lemmas.List.Sorted.{IsPartitionedBy-leb}
use Rattle.std.specs.List.Sorted.{IsPartitionedBy, IsPartitionPoint}

pub left_at_first : (extents : List Extent) (to : ℕ) (o : Option ℕ) → IsInnermost extents to o → IsLeft extents to o
left_at_first extents to None h = λ j inside at. absurd (h j inside at)
left_at_first extents to (Some k) h = (h.0, h.1, λ j inside at. inr (h.2 j inside at))

strictly : (extents : List Extent) (to j k : ℕ) → to ≡ (extent_at extents k).header → (j ≤ k) × (end_of extents k ≤ end_of extents j) → (to ≡ (extent_at extents j).header) ⊎ (j < k)
strictly extents to j k is h = ⊎_elim
    (λ same. inl (is ∙ ap (λ (i : ℕ). (extent_at extents i).header) (sym same)))
    (λ differ. ⊎_elim (λ lt. inr lt) (λ gt. absurd (omega (arith, h.0))) differ)
    (cases_order j k)

step_from : (extents : List Extent) (to k : ℕ) (o : Option ℕ) → AreExtents extents → IsParent extents k o → IsLeft extents to (Some k) → to ≡ (extent_at extents k).header → IsLeft extents to o
step_from extents to k None all up left is = λ j inside at. ⊎_elim
    (λ done. done)
    (λ h. ⊎_elim
    (λ done. done)
    (λ lt.
    let g : end_of extents j ≤ first_of extents k = up.opened j lt in
    let a : first_of extents k ≤ to = left.1.0 in
    let b : to < end_of extents j = at.1 in
    absurd (omega arith))
    (strictly extents to j k is h))
    (left.2 j inside at)
step_from extents to k (Some d) all up left is =
    let d_lt : d < k = up.opened.0 in
    let k_lt : k < length extents = left.0 in
    let held : end_of extents k ≤ end_of extents d = up.holds in
    let a : first_of extents k ≤ to = left.1.0 in
    let b : to < end_of extents k = left.1.1 in
    let upto_parent : first_of extents d ≤ to = omega (arith, sorted_first extents d k all d_lt k_lt) in (
      omega arith,
      (upto_parent, omega arith),
      λ j inside at. ⊎_elim
          (λ done. inl done)
          (λ h. ⊎_elim
          (λ done. inl done)
          (λ lt. let e : to < end_of extents j = at.1 in inr (up.opened.1 j lt (omega arith)))
          (strictly extents to j k is h))
          (left.2 j inside at),
    )

pub left_step : (extents : List Extent) (parents : List (Option ℕ)) (to k : ℕ) → AreExtents extents → AreParents extents parents (length extents) → IsLeft extents to (Some k) → to ≡ (extent_at extents k).header → IsLeft extents to (parent_at parents k)
left_step extents parents to k all known left is = step_from extents to k (parent_at parents k) all (known k left.0) left is

pub left_lower : (extents : List Extent) (parents : List (Option ℕ)) (to k : ℕ) → AreParents extents parents (length extents) → IsLeft extents to (Some k) → height (parent_at parents k) < height (Some k)
left_lower extents parents to k known left = lower extents k (parent_at parents k) (known k left.0)

pub right_here : (extents : List Extent) (from to k : ℕ) → AreExtents extents → IsLeft extents to (Some k) → first_of extents k ≤ from → from < end_of extents k → EntersRight extents from to
right_here extents from to k all left after before j inside at out = ⊎_elim
    (λ is. is)
    (λ h.
    let e : end_of extents k ≤ end_of extents j = h.1 in
    let s : first_of extents j ≤ first_of extents k = ⊎_elim
    (λ same. let q : first_of extents j ≡ first_of extents k = ap (first_of extents) same in omega arith)
    (λ differ. ⊎_elim (λ lt. sorted_first extents j k all lt left.0) (λ gt. absurd (omega (arith, h.0))) differ)
    (cases_order j k) in
    absurd (out (omega arith, omega arith)))
    (left.2 j inside at)

pub right_at_end : (extents : List Extent) (from to : ℕ) → IsLeft extents to None → EntersRight extents from to
right_at_end extents from to left j inside at out = left j inside at

pub wrong_here : (extents : List Extent) (from to k : ℕ) → IsLeft extents to (Some k) → (IsWithin (extent_at extents k) from → ⊥) → ((extent_at extents k).header ≡ to → ⊥) → EntersWrong extents from to
wrong_here extents from to k left out differs = (k, left.0, left.1, out, λ is. differs (sym is))

-- ## The innermost extent

pub innermost_is : (extents : List Extent) (limit p : ℕ) (o : Option ℕ) → limit ≤ length extents → ((j : ℕ) → j < limit → first_of extents j ≤ p) → ((j : ℕ) → limit ≤ j → j < length extents → p < first_of extents j) → IsOpen extents limit p o → IfSome o (λ k. p < end_of extents k) → IsInnermost extents p o
innermost_is extents limit p None short begun later opened ends = λ j inside at. ⊎_elim
    (λ lt. let h = opened j lt in let e = at.1 in omega arith)
    (λ ge. let h = later j ge inside in let e = at.0 in omega arith)
    (cases_lt j limit)
innermost_is extents limit p (Some k) short begun later opened ends =
    let k_lt : k < limit = opened.0 in (
      omega arith,
      (begun k k_lt, ends),
      λ j inside at. ⊎_elim
          (λ lt. opened.1 j lt at.1)
          (λ ge. let h = later j ge inside in let e = at.0 in absurd (omega arith))
          (cases_lt j limit),
    )

rising : (extents : List Extent) → AreExtents extents → (i j : ℕ) (d : Extent) → i ≤ j → j < length extents → (get_or extents i d).first ≤ (get_or extents j d).first
rising extents all i j d upto inside =
    let at_i : get_or extents i d ≡ extent_at extents i = get_or_default extents i d _ (omega arith) in
    let at_j : get_or extents j d ≡ extent_at extents j = get_or_default extents j d _ inside in
    let up : first_of extents i ≤ first_of extents j = ⊎_elim
    (λ same. let e : first_of extents i ≡ first_of extents j = ap (first_of extents) same in omega arith)
    (λ differ. ⊎_elim (λ lt. sorted_first extents i j all lt inside) (λ gt. absurd (omega arith)) differ)
    (cases_order i j) in
    omega (arith, ap (λ (s : Extent). s.first) at_i, ap (λ (s : Extent). s.first) at_j)

pub parted : (extents : List Extent) (p : ℕ) → AreExtents extents → IsPartitionedBy (λ (s : Extent). leb s.first p) extents
parted extents p all = IsPartitionedBy-leb (λ (s : Extent). s.first) extents p (rising extents all)

pub limit_is : (extents : List Extent) (p limit : ℕ) → IsPartitionPoint (λ (s : Extent). leb s.first p ≡ true) (λ (s : Extent). leb s.first p ≡ false) extents limit → limit ≤ length extents → ((j : ℕ) → j < limit → first_of extents j ≤ p) × ((j : ℕ) → limit ≤ j → j < length extents → p < first_of extents j)
limit_is extents p limit point short = (
  (λ j lt. leb-true _ _ (point.0 j (record { first = 0; end = 0; header = 0; instance = 0 }) (omega arith) lt)),
  (λ j ge lt. leb-false _ _ (point.1 j (record { first = 0; end = 0; header = 0; instance = 0 }) ge lt)),
)

none_opened : (extents : List Extent) (limit p : ℕ) → limit ≡ 0 → IsOpen extents limit p None
none_opened extents limit p none = λ j lt. absurd (omega arith)

pub none_innermost : (extents : List Extent) (limit p : ℕ) → limit ≡ 0 → limit ≤ length extents → ((j : ℕ) → j < limit → first_of extents j ≤ p) × ((j : ℕ) → limit ≤ j → j < length extents → p < first_of extents j) → IsInnermost extents p None
none_innermost extents limit p none short l = innermost_is extents limit p None short l.0 l.1 (none_opened extents limit p none) tt

pub opened_last : (extents : List Extent) (parents : List (Option ℕ)) (limit p : ℕ) → AreParents extents parents (length extents) → (limit ≡ 0 → ⊥) → limit ≤ length extents → ((j : ℕ) → j < limit → first_of extents j ≤ p) → IsOpen extents limit p (Some (limit - 1))
opened_last extents parents limit p known some short begun =
    let positive : 0 < limit = ⊎_elim (λ none. absurd (some none)) (λ h. ⊎_elim (λ l. absurd (omega arith)) (λ g. g) h) (cases_order limit 0) in
    open_some extents parents (limit - 1) p limit (Some (limit - 1)) (omega arith) refl (λ j lt. known j (omega arith)) (begun (limit - 1) (omega arith))
