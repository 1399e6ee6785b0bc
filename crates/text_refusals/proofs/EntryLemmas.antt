-- Entries of loops elsewhere than at their headers.
use Rattle.std.proofs.Common.{◌≡◌, ℕ, zero, suc, Bool, false, true, cond, List, [], ◌∷◌, ◌+◌, ◌<◌, ◌≤◌, length, get_or, Option, Some, None, refl, sym, ap, ◌∙◌, subst, inl, inr, ⊎_elim, arith}
use Rattle.std.specs.Prelude.{Contains, not}
use Rattle.std.specs.List.{find}
use Rattle.std.proofs.lemmas.Bool.{and_parts, and_from, cases_lt, false≢true, not-true}
use Rattle.std.proofs.lemmas.List.{get_or_default}
use Rattle.control_flow.specs.declared.places.Place.{Place}
use Rattle.control_flow.specs.declared.places.Place.TheVariants.{At, Exit}
use Rattle.control_flow.specs.declared.edges.Edge.{Edge}
use Rattle.control_flow.specs.Flow.{Flow, IsWellFormed}
use Rattle.statement.specs.Stated.{StatedLoops}
use Rattle.statement.specs.declared.stated.Loop.{Loop}
use Rattle.loop_bounds.specs.Extents.{found_instance}
use Rattle.loop_bounds.specs.Instance.{Instance, IsInstance, instance_of, is_header, is_member}
use Rattle.loop_bounds.specs.Nest.{HasMidEntry, IsEntered}
use Rattle.text_refusals.specs.Entries.{AreRightlyEntered, IsEnteredBy, IsMidEntry, IsMidOf, IsRightlyEntered, is_mid}
use Rattle.text_refusals.specs.declared.mid_entries.MidEntry.{MidEntry}

-- what no search finds passes nowhere
pub find_none : {X : Type 0} (p : X → Bool) (xs : List X) (x : X) → find p xs ≡ None → Contains xs x → p x ≡ false
find_none p [] x none has = absurd (omega (arith, has.1))
find_none {X} p (y ∷ ys) x none (zero, lt, same) =
    elim (p y) as (λ v. p y ≡ v → cond v (Some y) (find p ys) ≡ None → p x ≡ false) [
      | true ↦ λ passes found. absurd cc
      | false ↦ λ fails found. subst (λ (z : X). p z ≡ false) same fails
    ] refl none
find_none {X} p (y ∷ ys) x none (suc j, lt, same) =
    elim (p y) as (λ v. p y ≡ v → cond v (Some y) (find p ys) ≡ None → p x ≡ false) [
      | true ↦ λ passes found. absurd cc
      | false ↦ λ fails found. find_none p ys x found (j, omega (arith, lt), same)
    ] refl none

-- what a place is that is entered so
pub entered_parts : (flow : Flow) (i : Instance) (place : Place) (edge : Option Edge) → IsMidOf flow i place edge → (is_mid i place ≡ true) × IsEnteredBy flow i place edge
entered_parts flow i place None mid = (mid.1, mid.0)
entered_parts flow i place (Some e) mid =
    let parts = and_parts (is_mid i e.to) (not (is_member i e.from)) mid.2 in
    (subst (λ (p : Place). is_mid i p ≡ true) mid.1 parts.0, (mid.0, mid.1, not-true (is_member i e.from) parts.1))

is_entered : (flow : Flow) (i : Instance) (place : Place) (edge : Option Edge) → IsEnteredBy flow i place edge → IsEntered flow i place
is_entered flow i place None at = inl at
is_entered flow i place (Some e) by = inr (e, by.0, by.1, by.2)

is_place : (flow : Flow) → IsWellFormed flow → (i : Instance) (place : Place) (edge : Option Edge) → is_member i place ≡ true → IsEnteredBy flow i place edge → Contains flow.places place
is_place flow well_formed i place None member at = subst (Contains flow.places) (sym at) well_formed.entry_in
is_place flow well_formed i place (Some e) member by = ⊎_elim
    (λ (out : e.to ≡ Exit). absurd (false≢true (ap (is_member i) (sym out ∙ by.1) ∙ member)))
    (λ (there : Contains flow.places e.to). subst (Contains flow.places) by.1 there)
    (well_formed.ends e by.0)

-- of an instance that is entered so
pub mid_of : (flow : Flow) (loops : StatedLoops) → IsWellFormed flow → (i : Instance) → IsInstance flow loops i → (place : Place) (edge : Option Edge) → IsMidOf flow i place edge
    → (m : HasMidEntry flow loops) × (m.instance ≡ i) × (m.place ≡ place) × IsEnteredBy flow i place edge
mid_of flow loops well_formed i is place edge mid =
    let at = entered_parts flow i place edge mid in
    let parts = and_parts (is_member i place) (not (is_header i place)) at.0 in (
      record {
        instance = i;
        is = is;
        place = place;
        has = is_place flow well_formed i place edge parts.0 at.1;
        member = parts.0;
        no_header = not-true (is_header i place) parts.1;
        entered = is_entered flow i place edge at.1;
      },
      refl,
      refl,
      at.1,
    )

-- no instance is entered so where those with each header are not
pub none_entered : (flow : Flow) (loops : StatedLoops) → ((header : Place) → Contains flow.places header → AreRightlyEntered flow loops header) → HasMidEntry flow loops → ⊥
none_entered flow loops each m =
    let i = m.instance in
    let l = m.is.stated_loop in
    let h : l.header ≡ i.header = ap (λ (x : Instance). x.header) (sym m.is.parts) in
    let right : IsRightlyEntered flow (instance_of loops.apart l i.list) = each (At i.list i.header) m.is.reached l i.list m.is.stated (ap (At i.list) (sym h)) in
    let rightly : IsRightlyEntered flow i = subst (IsRightlyEntered flow) (sym m.is.parts) right in
    let mid : is_mid i m.place ≡ true = and_from (is_member i m.place) (not (is_header i m.place)) m.member (ap not m.no_header) in
    ⊎_elim
    (λ (begins : m.place ≡ flow.entry). false≢true (sym rightly.entry ∙ ap (is_mid i) (sym begins) ∙ mid))
    (λ by. false≢true (sym (rightly.edges by.0 by.1) ∙ and_from (is_mid i (by.0).to) (not (is_member i (by.0).from)) (ap (is_mid i) by.2 ∙ mid) (ap not by.3)))
    m.entered

-- the first element of the rest, or one of those before
pub one_more : {X : Type 0} (P : X → Type 0) (xs : List X) (i : ℕ) (d : X) → i < length xs → P (get_or xs i d) → ((k : ℕ) (x : X) → k < i → get_or xs k x ≡ x → P x) → (k : ℕ) (x : X) → k < i + 1 → get_or xs k x ≡ x → P x
one_more P xs i d lt here before k x less is = ⊎_elim
    (λ (l : k < i). before k x l is)
    (λ (ge : i ≤ k).
    let same : k ≡ i = omega (arith, less, ge) in
    subst P (get_or_default xs i d x lt ∙ ap (λ (n : ℕ). get_or xs n x) (sym same) ∙ is) here)
    (cases_lt k i)

-- the same of a list that is another
pub one_more_of : {X : Type 0} (P : X → Type 0) (xs ys : List X) (i : ℕ) (d : X) → xs ≡ ys → i < length xs → P (get_or xs i d) → ((k : ℕ) (x : X) → k < i → get_or ys k x ≡ x → P x) → (k : ℕ) (x : X) → k < i + 1 → get_or ys k x ≡ x → P x
one_more_of {X} P xs ys i d same lt here before =
    one_more P ys i d (subst (λ (zs : List X). i < length zs) same lt) (subst (λ (zs : List X). P (get_or zs i d)) same here) before

-- an entry of an instance with a header
pub mid_at : (flow : Flow) (loops : StatedLoops) → IsWellFormed flow → (header : Place) → Contains flow.places header → (list : List ℕ) (address : ℕ) → header ≡ At list address
    → (l : Loop) → Contains loops.list l → l.header ≡ address → (m : MidEntry) → m.instance ≡ record { list = list; stated = l } → IsMidOf flow (instance_of loops.apart l list) m.place m.edge → IsMidEntry flow loops m
mid_at flow loops well_formed header has list address at l stated header_is m instance entry =
    let is : IsInstance flow loops (instance_of loops.apart l list) = record {
      stated_loop = l;
      stated = stated;
      reached = subst (Contains flow.places) (at ∙ ap (At list) (sym header_is)) has;
      parts = refl;
    } in
    let found : instance_of loops.apart l list ≡ found_instance loops.apart m.instance = ap (found_instance loops.apart) (sym instance) in
    let mid = mid_of flow loops well_formed (instance_of loops.apart l list) is m.place m.edge entry in
    record {
      mid = mid.0;
      instance_is = mid.1 ∙ found;
      place_is = mid.2;
      entered_by = subst (λ (i : Instance). IsEnteredBy flow i m.place m.edge) found mid.3;
    }
