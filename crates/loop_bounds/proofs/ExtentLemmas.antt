-- The parent of each extent, found from those before it; extents with parents are nested, and others cross.
use Rattle.std.proofs.Common.{◌≡◌, ℕ, ◌+◌, ◌-◌, ◌<◌, ◌≤◌, ◌⊎◌, List, [], ◌∷◌, ◌++◌, Option, Some, None, IfSome, length, get_or, sym, ap, ◌∙◌, subst, inl, inr, ⊎_elim, arith}
use Rattle.std.proofs.lemmas.Bool.{cases_order, cases_lt}
use Rattle.std.proofs.lemmas.List.{get_or_append_left}
use Rattle.std.proofs.Math.Seq.{get_or-append_seam}
use Rattle.loop_bounds.specs.declared.extents.Extent.{Extent}
use Rattle.loop_bounds.specs.Extents.{AreExtents, AreNested, AreParents, IsParent, IsOpen, IsWithin, HaveCrossing, Holds, IsOver, extent_at, parent_at, height}

abbrev pub first_of : List Extent → ℕ → ℕ
first_of extents k = (extent_at extents k).first

abbrev pub end_of : List Extent → ℕ → ℕ
end_of extents k = (extent_at extents k).end

-- what ends after the position is another extent than one that does not
pub apart : (extents : List Extent) (j k p : ℕ) → j ≤ k → p < end_of extents j → end_of extents k ≤ p → j < k
apart extents j k p upto after before = ⊎_elim
    (λ same. let e : end_of extents j ≡ end_of extents k = ap (end_of extents) same in absurd (omega arith))
    (λ differ. ⊎_elim (λ lt. lt) (λ gt. absurd (omega arith)) differ)
    (cases_order j k)

up_from : (extents : List Extent) (limit p k : ℕ) (o : Option ℕ) → IsParent extents k o → IsOpen extents limit p (Some k) → end_of extents k ≤ p → first_of extents k ≤ p → IsOpen extents limit p o
up_from extents limit p k None up here ended begun = λ j inside. ⊎_elim
    (λ after.
    let h = here.1 j inside after in
    let lt : j < k = apart extents j k p h.0 after ended in
    let g : end_of extents j ≤ first_of extents k = up.opened j lt in
    omega arith)
    (λ before. before)
    (cases_lt p (end_of extents j))
up_from extents limit p k (Some d) up here ended begun =
    let d_lt : d < k = up.opened.0 in
    let k_lt : k < limit = here.0 in (
      omega arith,
      λ j inside after.
          let h = here.1 j inside after in
          let lt : j < k = apart extents j k p h.0 after ended in
          up.opened.1 j lt (omega arith),
    )

pub climb_step : (extents : List Extent) (parents : List (Option ℕ)) (limit p k : ℕ) → AreParents extents parents limit → ((j : ℕ) → j < limit → first_of extents j ≤ p) → IsOpen extents limit p (Some k) → end_of extents k ≤ p → IsOpen extents limit p (parent_at parents k)
climb_step extents parents limit p k known begun here ended = up_from extents limit p k (parent_at parents k) (known k here.0) here ended (begun k here.0)

-- a parent comes before
pub lower : (extents : List Extent) (k : ℕ) (o : Option ℕ) → IsParent extents k o → height o < height (Some k)
lower extents k None up = omega arith
lower extents k (Some d) up = let d_lt : d < k = up.opened.0 in omega arith

pub climb_lower : (extents : List Extent) (parents : List (Option ℕ)) (limit p k : ℕ) → AreParents extents parents limit → IsOpen extents limit p (Some k) → height (parent_at parents k) < height (Some k)
climb_lower extents parents limit p k known here = lower extents k (parent_at parents k) (known k here.0)

-- the extent that began last holds all that end after a position in it or after it
pub open_last : (extents : List Extent) (parents : List (Option ℕ)) (k p : ℕ) → AreParents extents parents (k + 1) → first_of extents k ≤ p → IsOpen extents (k + 1) p (Some k)
open_last extents parents k p known begun = (
  omega arith,
  λ j inside after. (
    omega arith,
    ⊎_elim
        (λ same. let e : end_of extents j ≡ end_of extents k = ap (end_of extents) same in omega arith)
        (λ differ. ⊎_elim
        (λ lt. ⊎_elim (λ closed. absurd (omega arith)) (λ held. held) ((known k (omega arith)).after j lt))
        (λ gt. absurd (omega arith))
        differ)
        (cases_order j k),
  ),
)

after_from : (extents : List Extent) (k : ℕ) (o : Option ℕ) → IsOpen extents k (first_of extents k) o → Holds extents k o → (j : ℕ) → j < k → (end_of extents j ≤ first_of extents k) ⊎ (end_of extents k ≤ end_of extents j)
after_from extents k None open_k held j lt = inl (open_k j lt)
after_from extents k (Some d) open_k held j lt = ⊎_elim
    (λ after. let h = (open_k.1 j lt after).1 in inr (omega arith))
    (λ before. inl before)
    (cases_lt (first_of extents k) (end_of extents j))

pub is_parent : (extents : List Extent) (k : ℕ) (o : Option ℕ) → IsOpen extents k (first_of extents k) o → Holds extents k o → IsParent extents k o
is_parent extents k o open_k held = record { opened = open_k; holds = held; after = after_from extents k o open_k held }

pub sorted_first : (extents : List Extent) (j k : ℕ) → AreExtents extents → j < k → k < length extents → first_of extents j ≤ first_of extents k
sorted_first extents j k all lt inside = ⊎_elim (λ less. omega arith) (λ tie. omega (arith, tie.0)) (all.sorted j k lt inside)

pub crossing_at : (extents : List Extent) (d k : ℕ) → AreExtents extents → d < k → k < length extents → first_of extents k < end_of extents d → end_of extents d < end_of extents k → HaveCrossing extents
crossing_at extents d k all lt inside shared over =
    let d_some : first_of extents d < end_of extents d = all.some d (omega arith) in
    let less : first_of extents d < first_of extents k = ⊎_elim (λ l. l) (λ tie. absurd (omega (arith, tie.1))) (all.sorted d k lt inside) in
    record {
      one = d;
      other = k;
      one_in = omega arith;
      other_in = inside;
      cross = record {
        shared = first_of extents k;
        in_first = (omega arith, omega arith);
        in_second = (omega arith, omega arith);
        left = first_of extents d;
        left_in = (omega arith, omega arith);
        left_out = λ at. omega (arith, at.0);
        right = end_of extents d;
        right_in = (omega arith, omega arith);
        right_out = λ at. omega (arith, at.1);
      };
    }

-- ## Extents with parents are nested

pub nested_at : (extents : List Extent) (parents : List (Option ℕ)) (j k : ℕ) → AreExtents extents → AreParents extents parents (length extents) → j < k → k < length extents → (p : ℕ) → IsWithin (extent_at extents j) p → IsWithin (extent_at extents k) p → (q : ℕ) → IsWithin (extent_at extents k) q → IsWithin (extent_at extents j) q
nested_at extents parents j k all known lt inside p in_j in_k q at =
    let sorted : first_of extents j ≤ first_of extents k = sorted_first extents j k all lt inside in
    let a = in_j.1 in
    let b = in_k.0 in
    let d = at.0 in
    let e = at.1 in
    let held : end_of extents k ≤ end_of extents j = ⊎_elim (λ closed. absurd (omega arith)) (λ h. h) ((known k inside).after j lt) in
    (omega arith, omega arith)

pub nested : (extents : List Extent) (parents : List (Option ℕ)) → AreNested extents parents → HaveCrossing extents → ⊥
nested extents parents n x = ⊎_elim
    (λ same. x.cross.left_out (subst (λ (k : ℕ). IsWithin (extent_at extents k) x.cross.left) same x.cross.left_in))
    (λ differ. ⊎_elim
    (λ lt. x.cross.right_out (nested_at extents parents x.one x.other n.extents_are n.parents_are lt x.other_in x.cross.shared x.cross.in_first x.cross.in_second x.cross.right x.cross.right_in))
    (λ gt. x.cross.left_out (nested_at extents parents x.other x.one n.extents_are n.parents_are gt x.one_in x.cross.shared x.cross.in_second x.cross.in_first x.cross.left x.cross.left_in))
    differ)
    (cases_order x.one x.other)

-- ## The loop

open_none : (extents : List Extent) (k p : ℕ) (o : Option ℕ) → k ≡ 0 → o ≡ None → IsOpen extents k p o
open_none extents k p None none is = λ j lt. absurd (omega arith)
open_none extents k p (Some d) none is = cc

pub open_some : (extents : List Extent) (parents : List (Option ℕ)) (j p : ℕ) (k : ℕ) (o : Option ℕ) → j + 1 ≡ k → o ≡ Some j → AreParents extents parents k → first_of extents j ≤ p → IsOpen extents k p o
open_some extents parents j p k o more is known begun =
    subst (λ (o : Option ℕ). IsOpen extents k p o) (sym is)
    (subst (λ (k : ℕ). IsOpen extents k p (Some j)) more (open_last extents parents j p (subst (λ (k : ℕ). AreParents extents parents k) (sym more) known) begun))

pub open_before : (extents : List Extent) (parents : List (Option ℕ)) (k : ℕ) (o : Option ℕ) → AreExtents extents → AreParents extents parents k → k < length extents → ((k ≡ 0) × (o ≡ None)) ⊎ ((0 < k) × (o ≡ Some (k - 1))) → IsOpen extents k (first_of extents k) o
open_before extents parents k o all known inside cases = ⊎_elim
    (λ none. open_none extents k (first_of extents k) o none.0 none.1)
    (λ some.
    let more : (k - 1) + 1 ≡ k = omega (arith, some.0) in
    open_some extents parents (k - 1) (first_of extents k) k o more some.1 known (sorted_first extents (k - 1) k all (omega (arith, some.0)) inside))
    cases

at_seam : (parents : List (Option ℕ)) (o : Option ℕ) (j : ℕ) → j ≡ length parents → get_or (parents ++ o ∷ []) j None ≡ o
at_seam parents o j at = rw at (get_or-append_seam parents o [] None)

pub parents_more : (extents : List Extent) (parents more : List (Option ℕ)) (o : Option ℕ) (k : ℕ) → length parents ≡ k → more ≡ parents ++ o ∷ [] → AreParents extents parents k → IsParent extents k o → AreParents extents more (k + 1)
parents_more extents parents more o k len is known here j lt = ⊎_elim
    (λ same.
    let e : parent_at more j ≡ o = ap (λ (xs : List (Option ℕ)). parent_at xs j) is ∙ at_seam parents o j (same ∙ sym len) in
    subst (λ (i : ℕ). IsParent extents i (parent_at more j)) (sym same) (subst (λ (x : Option ℕ). IsParent extents k x) (sym e) here))
    (λ differ. ⊎_elim
    (λ below.
    let e : parent_at more j ≡ parent_at parents j = ap (λ (xs : List (Option ℕ)). parent_at xs j) is ∙ get_or_append_left parents (o ∷ []) None j (omega arith) in
    subst (λ (x : Option ℕ). IsParent extents j x) (sym e) (known j below))
    (λ above. absurd (omega arith))
    differ)
    (cases_order j k)

pub crossing_of : (extents : List Extent) (k : ℕ) (o : Option ℕ) → AreExtents extents → k < length extents → IsOpen extents k (first_of extents k) o → IfSome o (λ d. first_of extents k < end_of extents d) → IsOver extents k o → HaveCrossing extents
crossing_of extents k None all inside here ends over = absurd over
crossing_of extents k (Some d) all inside here ends over = crossing_at extents d k all here.0 inside ends over

pub parent_inside : (extents : List Extent) (k p : ℕ) (o : Option ℕ) → k < length extents → IsOpen extents k p o → IfSome o (λ d. d < length extents)
parent_inside extents k p None inside here = tt
parent_inside extents k p (Some d) inside here = let lt : d < k = here.0 in omega arith
