-- Which refusals apply, from what is found of extents.
use Rattle.std.proofs.Common.{◌≡◌, ◌≢◌, ℕ, zero, suc, ◌+◌, ◌-◌, ◌<◌, ◌≤◌, Bool, true, false, List, [], ◌∷◌, length, map, get_or, sym, refl, ap, ◌∙◌, ⊎_elim, arith}
use Rattle.std.specs.Prelude.{Contains, All, AllPairs, filter}
use Rattle.std.specs.List.{remove}
use Rattle.std.proofs.lemmas.Bool.{cases_Bool, cases_lt}
use Rattle.std.proofs.lemmas.List.{get_or_default, length-map, get_or-map}
use Rattle.std.proofs.lemmas.List.Edits.{length-remove, get_or-remove_below, get_or-remove_above}
use Rattle.std.proofs.lemmas.List.Elements.{All-filter, Contains-get_or, Contains-append_right, filter_passes}
use Rattle.std.proofs.lemmas.List.Sums.{length-filter}
use Rattle.std.proofs.lemmas.List.Kept.{AllPairs-filter}
use Rattle.walks.specs.declared.limits.TheConstants.{MOST_INSTANCES}
use Rattle.control_flow.specs.declared.places.Place.TheVariants.{At}
use Rattle.statement.specs.Stated.{StatedLoops}
use Rattle.control_flow.specs.Flow.{Flow, IsWellFormed}
use Rattle.control_flow.specs.Places.{place_at}
use Rattle.loop_bounds.specs.declared.extents.Extent.{Extent}
use Rattle.loop_bounds.specs.declared.fault.NestFault.{NestFault}
use Rattle.loop_bounds.specs.declared.fault.NestFault.TheVariants.{Memory, LoopsCross, SharedHeader, EntersMidLoop, UnboundedCycle, NestedTooDeep}
use Rattle.loop_bounds.specs.declared.handler_positions.HandlerPositions.{HandlerPositions}
use Rattle.loop_bounds.specs.declared.nesting.Nesting.{Nesting}
use Rattle.loop_bounds.specs.Instance.{Instance}
use Rattle.loop_bounds.specs.Extents.{extent_at, found_instance, header_place, is_within}
use Rattle.loop_bounds.specs.InPositions.{AreHandlerPositions, IsNesting, IsNestingFault}
use Rattle.loop_bounds.specs.Layout.{AreShallow, depth_at}
use Rattle.loop_bounds.specs.Nest.{Applies, HasDeepPlace, HasSharedHeader, IsNestFault}
use Rattle.loop_bounds.proofs.ExtentLemmas.{nested}
use Rattle.loop_bounds.proofs.ExtentOf.{no_found}
use Rattle.loop_bounds.proofs.NestingLemmas.{no_plain_cycle}
use Rattle.loop_bounds.proofs.PlaceFacts.{apart, at_extent, bounded, crossing, entered_right, extent_for, instance_is, member, mid_entry, no_crossing, no_mid_entry, numbers, unbounded, within, within_exit}

-- ## Lists without doubles

-- a list of different elements of another is no longer
pub no_longer : {X : Type 0} (xs ys : List X) → AllPairs (λ (x : X) (y : X). x ≢ y) xs → All (Contains ys) xs → length xs ≤ length ys
no_longer [] ys differ inside = omega arith
no_longer (x ∷ xs) ys differ inside =
    let at = inside 0 x (omega arith) in
    let less : List _ = remove ys at.0 in
    let len : length (remove ys at.0) + 1 ≡ length ys = length-remove ys at.0 at.1 in
    let rest : length xs ≤ length (remove ys at.0) = no_longer xs (remove ys at.0) (λ j k d lt in_. differ (suc j) (suc k) d (omega arith) (omega arith))
    (λ k d lt.
    let y = get_or xs k d in
    let h = inside (suc k) d (omega arith) in
    let other : h.0 ≡ at.0 → ⊥ = λ same. differ 0 (suc k) d (omega arith) (omega arith) (sym at.2 ∙ get_or_default ys at.0 x y at.1 ∙ ap (λ (n : ℕ). get_or ys n y) (sym same) ∙ h.2) in
    ⊎_elim
    (λ (below : h.0 < at.0). (h.0, omega (arith, h.1, at.1), get_or-remove_below ys at.0 y h.0 below at.1 ∙ h.2))
    (λ (above : at.0 ≤ h.0).
    let up : at.0 ≤ h.0 - 1 = omega arith in
    let is : (h.0 - 1) + 1 ≡ h.0 = omega arith in
    (h.0 - 1, omega (arith, h.1), get_or-remove_above ys at.0 y (h.0 - 1) up at.1 ∙ ap (λ (n : ℕ). get_or ys n y) is ∙ h.2))
    (cases_lt h.0 at.0)) in
    omega arith

-- what a filter keeps
pub filter_has : {X : Type 0} (f : X → Bool) (xs : List X) (x : X) → Contains xs x → f x ≡ true → Contains (filter f xs) x
filter_has f [] x has yes_ = absurd (omega (arith, has.1))
filter_has f (y ∷ xs) x (zero, lt, is) yes_ = rw (ap f is ∙ yes_) (0, omega arith, is)
filter_has f (y ∷ xs) x (suc k, lt, is) yes_ = ⊎_elim
    (λ (t : f y ≡ true). rw t (Contains-append_right (y ∷ []) (filter f xs) x (filter_has f xs x (k, omega arith, is) yes_)))
    (λ (t : f y ≡ false). rw t (filter_has f xs x (k, omega arith, is) yes_))
    (cases_Bool (f y))

pairs_head : {X : Type 0} (R : X → X → Type 0) (x : X) (xs : List X) → AllPairs R (x ∷ xs) → All (R x) xs
pairs_head R x xs pairs k d lt = pairs 0 (suc k) d (omega arith) (omega arith)

module _ (flow : Flow) (loops : StatedLoops) (positions : HandlerPositions) (well_formed : IsWellFormed flow) (g : AreHandlerPositions flow loops positions) where
  abbrev extents : List Extent
  extents = positions.extents.items

  abbrev instance_at : Extent → Instance
  instance_at s = found_instance loops.apart (get_or positions.found.items s.instance no_found)

  abbrev holders : ℕ → List Extent
  holders p = filter (λ s. is_within s p) extents

  instances_differ : AllPairs (λ (s : Extent) (t : Extent). instance_at s ≢ instance_at t) extents
  instances_differ j k d less lt same =
      let s : Extent = get_or extents j d in
      let t : Extent = get_or extents k d in
      let place : header_place (get_or positions.found.items s.instance no_found) ≡ header_place (get_or positions.found.items t.instance no_found) = (λ i. At (same i).list (same i).header) in
      let s_in = (g.extents_of).named s (Contains-get_or extents j d (omega arith)) in
      let t_in = (g.extents_of).named t (Contains-get_or extents k d lt) in
      let not_below : s.instance < t.instance → ⊥ = λ l. g.differ s.instance t.instance no_found l t_in place in
      let not_above : t.instance < s.instance → ⊥ = λ l. g.differ t.instance s.instance no_found l s_in (sym place) in
      let one : j ≡ k = (g.extents_of).once j k d (omega arith) lt (let e : s.instance ≡ t.instance = omega arith in e) in
      omega arith

  holder_is : (p : ℕ) → All (λ s. Contains extents s × (is_within s p ≡ true)) (holders p)
  holder_is p k d lt = (
    All-filter (λ s. is_within s p) (Contains extents) extents (λ j e j_lt. Contains-get_or extents j e j_lt) k d lt,
    filter_passes (λ s. is_within s p) extents k d lt,
  )

  pub deep : (k : ℕ) → k < length positions.extents.items → MOST_INSTANCES < depth_at positions.extents.items (extent_at positions.extents.items k).first → HasDeepPlace flow loops
  deep k lt many =
      let s : Extent = extent_at extents k in
      let p : ℕ = s.first in
      let some : p < s.end = (g.extents_are).some k lt in
      let end : s.end ≤ length flow.places = within_exit flow loops positions well_formed g s (at_extent flow loops positions well_formed g k lt) in
      let p_in : p < length flow.places = omega arith in
      let len : length (map instance_at (holders p)) ≡ length (holders p) = length-map (holders p) instance_at in
      let none : Extent = record { first = 0; end = 0; header = 0; instance = 0 } in
      record {
        place = place_at positions.listed.items p;
        has = (numbers flow loops positions well_formed g).place p p_in;
        instances = map instance_at (holders p);
        differ = λ a b d less inside same.
            AllPairs-filter (λ (x : Extent) (y : Extent). instance_at x ≢ instance_at y) (λ x. is_within x p) extents instances_differ a b none less (omega arith)
            (sym (get_or-map instance_at (holders p) a none d (omega arith)) ∙ same ∙ get_or-map instance_at (holders p) b none d (omega arith));
        each = λ a d inside. rw (get_or-map instance_at (holders p) a none d (omega arith)) (instance_is flow loops positions well_formed g (get_or (holders p) a none) (holder_is p a none (omega arith)).0);
        members = λ a d inside.
            let h = holder_is p a none (omega arith) in
            rw (get_or-map instance_at (holders p) a none d (omega arith)) (member flow loops positions well_formed g (get_or (holders p) a none) h.0 p (omega arith) ∙ h.1);
        many = omega (arith, len, length-filter (λ x. is_within x p) extents);
      }

  pub not_deep : AreShallow positions.extents.items → HasDeepPlace flow loops → ⊥
  not_deep shallow h =
      let p = (numbers flow loops positions well_formed g).number h.place h.has in
      let p_lt : p.0 < length flow.places = p.1 in
      let few : length h.instances ≤ length (map instance_at (holders p.0)) = no_longer h.instances (map instance_at (holders p.0)) h.differ
      (λ k d lt.
      let i : Instance = get_or h.instances k d in
      let s = extent_for flow loops positions well_formed g i (h.each k d lt) in
      let inside : is_within s.0 p.0 ≡ true = sym (within flow loops positions well_formed g i s.0 s.1 s.2 h.place p.0 (omega arith) p.2) ∙ h.members k d lt in
      let kept = filter_has (λ x. is_within x p.0) extents s.0 s.1 inside in
      (kept.0, omega (arith, kept.1, length-map (holders p.0) instance_at), get_or-map instance_at (holders p.0) kept.0 s.0 i kept.1 ∙ ap instance_at kept.2 ∙ s.2)) in
      omega (arith, h.many, length-map (holders p.0) instance_at, length-filter (λ x. is_within x p.0) extents, shallow p.0)

  -- ## Refusals

  pub of_nesting : (HasSharedHeader loops.list → ⊥) → (fault : NestFault) → IsNestingFault (length flow.places) positions.edges.items positions.entry positions.extents.items fault → IsNestFault flow loops fault
  of_nesting apart Memory h = tt
  of_nesting apart LoopsCross h = crossing flow loops positions well_formed g h
  of_nesting apart SharedHeader h = absurd h
  of_nesting apart EntersMidLoop h = (no_crossing flow loops positions well_formed g h.0, apart, mid_entry flow loops positions well_formed g h.1)
  of_nesting apart UnboundedCycle h = (no_crossing flow loops positions well_formed g h.0, apart, no_mid_entry flow loops positions well_formed g (entered_right flow loops positions well_formed g h.1), unbounded flow loops positions well_formed g h.2)
  of_nesting apart NestedTooDeep h = (no_crossing flow loops positions well_formed g h.0, apart, no_mid_entry flow loops positions well_formed g (entered_right flow loops positions well_formed g h.1), bounded flow loops positions well_formed g h.2, deep h.3.0 h.3.1 h.3.2)

  pub allowed : (HasSharedHeader loops.list → ⊥) → (nesting : Nesting) → IsNesting (length flow.places) positions.edges.items positions.entry positions.extents.items nesting → (fault : NestFault) → fault ≢ Memory → Applies flow loops fault → ⊥
  allowed apart nesting n Memory other h = other refl
  allowed apart nesting n LoopsCross other h = no_crossing flow loops positions well_formed g (nested extents nesting.parents.items n.nested) h
  allowed apart nesting n SharedHeader other h = apart h
  allowed apart nesting n EntersMidLoop other h = no_mid_entry flow loops positions well_formed g (entered_right flow loops positions well_formed g n.entered) h
  allowed apart nesting n UnboundedCycle other h = bounded flow loops positions well_formed g (no_plain_cycle (length flow.places) positions.edges.items extents nesting.ranks.items n.ranks) h
  allowed apart nesting n NestedTooDeep other h = not_deep n.shallow h
