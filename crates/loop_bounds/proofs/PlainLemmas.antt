-- Edges that are no back edges, grouped by the node that they leave, and ranks that rise along them.
use Rattle.std.proofs.Common.{◌≡◌, ◌≢◌, ℕ, ◌+◌, ◌-◌, ◌<◌, ◌≤◌, ◌⊎◌, Bool, true, eqb, List, [], ◌∷◌, ◌++◌, Option, Some, None, length, get_or, set, take, sym, ap, ◌∙◌, subst, inl, inr, ⊎_elim, arith, length-append}
use Rattle.std.specs.Prelude.{Contains, All, IsTrue, ◌↔◌}
use Rattle.std.specs.List.Sorted.{IsPermutation}
use Rattle.std.proofs.lemmas.Bool.{cases_eq, cases_lt, and_parts, and_from, eqb-true, eq-eqb}
use Rattle.std.proofs.lemmas.List.{get_or_default, get_or_append_left, get_or-set_same, get_or-set_other, length-set, get_or-take, length-take-le}
use Rattle.std.proofs.lemmas.List.Elements.{Contains-get_or, Contains-push, Contains-push_cases, Contains-append_left}
use Rattle.std.proofs.lemmas.List.Sorted.{Contains-permutation, IsPermutation-sym}
use Rattle.std.proofs.Math.Seq.{get_or-append_seam}
use Rattle.walks.specs.Walk.{Shape, Leads, Cycle}
use Rattle.loop_bounds.specs.declared.extents.Extent.{Extent}
use Rattle.loop_bounds.specs.declared.fault.NestFault.{NestFault}
use Rattle.loop_bounds.specs.declared.fault.NestFault.TheVariants.{Memory, LoopsCross, SharedHeader, EntersMidLoop, UnboundedCycle, NestedTooDeep}
use Rattle.numbered_walks.specs.declared.span.NumberedEdge.{NumberedEdge}
use Rattle.numbered_walks.specs.Ordered.{number_shape}
use Rattle.numbered_walks.proofs.Members.{no_numbered_edge}
use Rattle.loop_bounds.specs.Edges.{IsGrouped, exit_of}
use Rattle.loop_bounds.specs.Extents.{extent_at, is_within, IsWithin}
use Rattle.loop_bounds.specs.Layout.{AreFirsts, AreHeaders, AreHeights, ArePlain, AreRanks, HaveApartHeaders, IsBack, IsHeaderOf, IsRankFault}
use Rattle.loop_bounds.specs.Order.{IsOrder, IsOrderFault}
use Rattle.loop_bounds.proofs.Within.{in_from, from_in}

-- ## Headers

header_kept : (extents : List Extent) (i p : ℕ) (o : Option ℕ) → ((extent_at extents i).header ≢ p) → IsHeaderOf extents i p o → IsHeaderOf extents (i + 1) p o
header_kept extents i p None other h = λ k lt. ⊎_elim (λ (same : k ≡ i). subst (λ (j : ℕ). (extent_at extents j).header ≢ p) (sym same) other) (λ differ. h k (omega arith)) (cases_eq k i)
header_kept extents i p (Some k) other h = (omega (arith, h.0), h.1)

pub headers_more : (extents : List Extent) (headers : List (Option ℕ)) (nodes i h : ℕ) → AreHeaders extents i nodes headers → h ≡ (extent_at extents i).header → h < nodes → AreHeaders extents (i + 1) nodes (set headers h (Some i))
headers_more extents headers nodes i h so_far is lt = record {
  whole = length-set headers h (Some i) ∙ so_far.whole;
  each = λ p inside. ⊎_elim
      (λ (same : p ≡ h). rw (same, get_or-set_same headers h (Some i) None (omega (arith, so_far.whole))) (omega arith, sym is))
      (λ (differ : p ≡ h → ⊥). rw (get_or-set_other headers h p (Some i) None differ) (header_kept extents i p (get_or headers p None) (λ e. differ (sym (is ∙ e))) (so_far.each p inside)))
      (cases_eq p h);
}

at_extent : (extents : List Extent) (k : ℕ) → k < length extents → Contains extents (extent_at extents k)
at_extent extents k lt = Contains-get_or extents k _ lt

-- the edge to the header of an extent is a back edge where it comes from a member
pub back_some : (extents : List Extent) (k : ℕ) (e : NumberedEdge) (b : Bool) → HaveApartHeaders extents → k < length extents → (extent_at extents k).header ≡ e.to → (IsTrue b ↔ IsWithin (extent_at extents k) e.from) → IsTrue b ↔ IsBack extents e
back_some extents k e b apart lt is tested = (
  (λ h. (extent_at extents k, at_extent extents k lt, and_from _ _ (eq-eqb e.to (extent_at extents k).header (sym is)) (from_in (extent_at extents k) e.from (tested.0 h)))),
  (λ back.
      let parts = and_parts (eqb e.to (back.0).header) (is_within back.0 e.from) back.2 in
      let same : back.0 ≡ extent_at extents k = apart back.0 (extent_at extents k) back.1 (at_extent extents k lt) (sym (eqb-true e.to (back.0).header parts.0) ∙ sym is) in
      tested.1 (in_from (extent_at extents k) e.from (subst (λ (s : Extent). is_within s e.from ≡ true) same parts.1))),
)

-- ## Plain edges

take_cases : (edges : List NumberedEdge) (i : ℕ) (e d : NumberedEdge) → i < length edges → Contains (take (i + 1) edges) e → Contains (take i edges) e ⊎ (get_or edges i d ≡ e)
take_cases edges i e d lt has =
    let long = length-take-le (i + 1) edges (omega arith) in
    let short = length-take-le i edges (omega arith) in
    let k_lt : has.0 < length (take (i + 1) edges) = has.1 in
    ⊎_elim
    (λ (same : has.0 ≡ i). inr (get_or_default edges i d e lt ∙ ap (λ (k : ℕ). get_or edges k e) (sym same) ∙ sym (get_or-take (i + 1) edges has.0 e (omega arith)) ∙ has.2))
    (λ (differ : has.0 ≡ i → ⊥). inl (has.0, omega arith, get_or-take i edges has.0 e (omega arith) ∙ sym (get_or-take (i + 1) edges has.0 e (omega arith)) ∙ has.2))
    (cases_eq has.0 i)

take_more_has : (edges : List NumberedEdge) (i : ℕ) (e : NumberedEdge) → i < length edges → Contains (take i edges) e → Contains (take (i + 1) edges) e
take_more_has edges i e lt has =
    let long = length-take-le (i + 1) edges (omega arith) in
    let short = length-take-le i edges (omega arith) in
    let k_lt : has.0 < length (take i edges) = has.1 in
    (has.0, omega arith, get_or-take (i + 1) edges has.0 e (omega arith) ∙ sym (get_or-take i edges has.0 e (omega arith)) ∙ has.2)

take_last_has : (edges : List NumberedEdge) (i : ℕ) (e : NumberedEdge) → i < length edges → e ≡ get_or edges i e → Contains (take (i + 1) edges) e
take_last_has edges i e lt is =
    let long = length-take-le (i + 1) edges (omega arith) in
    (i, omega arith, get_or-take (i + 1) edges i e (omega arith) ∙ sym is)

-- one more edge, which is no back edge
pub plain_more : (extents : List Extent) (edges plain : List NumberedEdge) (i : ℕ) (e : NumberedEdge) → ArePlain extents (take i edges) plain → i < length edges → e ≡ get_or edges i e → (IsBack extents e → ⊥) → ArePlain extents (take (i + 1) edges) (plain ++ e ∷ [])
plain_more extents edges plain i e so_far lt is forward = record {
  sound = λ x has. ⊎_elim
      (λ old. let h = so_far.sound x old in (take_more_has edges i x lt h.0, h.1))
      (λ (new : e ≡ x). subst (λ (y : NumberedEdge). Contains (take (i + 1) edges) y × (IsBack extents y → ⊥)) new (take_last_has edges i e lt is, forward))
      (Contains-push_cases plain e x has);
  complete = λ x has forward_x. ⊎_elim
      (λ old. Contains-append_left plain (e ∷ []) x (so_far.complete x old forward_x))
      (λ new. subst (Contains (plain ++ e ∷ [])) (is ∙ new) (Contains-push plain e))
      (take_cases edges i x e lt has);
}

-- one more edge, which is a back edge
pub plain_same : (extents : List Extent) (edges plain : List NumberedEdge) (i : ℕ) (e : NumberedEdge) → ArePlain extents (take i edges) plain → i < length edges → e ≡ get_or edges i e → IsBack extents e → ArePlain extents (take (i + 1) edges) plain
plain_same extents edges plain i e so_far lt is back = record {
  sound = λ x has. let h = so_far.sound x has in (take_more_has edges i x lt h.0, h.1);
  complete = λ x has forward_x. ⊎_elim
      (λ old. so_far.complete x old forward_x)
      (λ new. absurd (forward_x (subst (IsBack extents) (is ∙ new) back)))
      (take_cases edges i x e lt has);
}

pub plain_moved : (extents : List Extent) (edges plain moved : List NumberedEdge) → ArePlain extents edges plain → IsPermutation plain moved → ArePlain extents edges moved
plain_moved extents edges plain moved all perm = record {
  sound = λ e has. all.sound e (Contains-permutation moved plain e (IsPermutation-sym plain moved perm) has);
  complete = λ e has forward. Contains-permutation plain moved e perm (all.complete e has forward);
}

-- ## Groups

pub firsts_more : (edges : List NumberedEdge) (firsts : List ℕ) (v n : ℕ) → AreFirsts edges firsts v → n ≤ length edges → ((k : ℕ) (d : NumberedEdge) → k < n → (get_or edges k d).from < v) → ((k : ℕ) (d : NumberedEdge) → n ≤ k → k < length edges → v ≤ (get_or edges k d).from) → AreFirsts edges (firsts ++ n ∷ []) (v + 1)
firsts_more edges firsts v n so_far le below above =
    let same : length firsts ≡ v = so_far.same in
    let old : (u : ℕ) → u < v → get_or (firsts ++ n ∷ []) u 0 ≡ get_or firsts u 0 = λ u lt. get_or_append_left firsts (n ∷ []) 0 u (omega arith) in
    let new : (u : ℕ) → u ≡ v → get_or (firsts ++ n ∷ []) u 0 ≡ n = λ u is. ap (λ (x : ℕ). get_or (firsts ++ n ∷ []) x 0) (is ∙ sym same) ∙ get_or-append_seam firsts n [] 0 in
    record {
      same = length-append firsts (n ∷ []) ∙ ap (λ (x : ℕ). x + 1) same;
      inside = λ u lt. ⊎_elim (λ (is : u ≡ v). rw (new u is) le) (λ (differ : u ≡ v → ⊥). rw (old u (omega arith)) (so_far.inside u (omega arith))) (cases_eq u v);
      below = λ u k d lt low. ⊎_elim
          (λ (is : u ≡ v). subst (λ (x : ℕ). (get_or edges k d).from < x) (sym is) (below k d (subst (λ (x : ℕ). k < x) (new u is) low)))
          (λ (differ : u ≡ v → ⊥). so_far.below u k d (omega arith) (subst (λ (x : ℕ). k < x) (old u (omega arith)) low))
          (cases_eq u v);
      from = λ u k d lt high inside. ⊎_elim
          (λ (is : u ≡ v). subst (λ (x : ℕ). x ≤ (get_or edges k d).from) (sym is) (above k d (subst (λ (x : ℕ). x ≤ k) (new u is) high) inside))
          (λ (differ : u ≡ v → ⊥). so_far.from u k d (omega arith) (subst (λ (x : ℕ). x ≤ k) (old u (omega arith)) high) inside)
          (cases_eq u v);
    }

pub grouped : (edges : List NumberedEdge) (firsts : List ℕ) (exit : ℕ) → AreFirsts edges firsts (exit + 1) → All (λ e. (e.from < exit) × (e.to ≤ exit)) edges → IsGrouped firsts edges
grouped edges firsts exit all inside =
    let same : length firsts ≡ exit + 1 = all.same in
    let top : exit_of firsts ≡ exit = omega arith in
    record {
      some = omega arith;
      first_zero = ⊎_elim
          (λ (z : get_or firsts 0 0 ≡ 0). z)
          (λ (some : get_or firsts 0 0 ≡ 0 → ⊥). let b : (get_or edges 0 no_numbered_edge).from < 0 = all.below 0 0 no_numbered_edge (omega arith) (omega arith) in absurd (omega arith))
          (cases_eq (get_or firsts 0 0) 0);
      last_all = ap (λ (x : ℕ). get_or firsts x 0) top ∙ ⊎_elim
          (λ (z : get_or firsts exit 0 ≡ length edges). z)
          (λ (less : get_or firsts exit 0 ≡ length edges → ⊥).
          let le : get_or firsts exit 0 ≤ length edges = all.inside exit (omega arith) in
          let lt : get_or firsts exit 0 < length edges = omega arith in
          let a : exit ≤ (get_or edges (get_or firsts exit 0) no_numbered_edge).from = all.from exit (get_or firsts exit 0) no_numbered_edge (omega arith) (omega arith) lt in
          let b : (get_or edges (get_or firsts exit 0) no_numbered_edge).from < exit = (inside (get_or firsts exit 0) no_numbered_edge lt).0 in
          absurd (omega arith))
          (cases_eq (get_or firsts exit 0) (length edges));
      rising = λ v lt. ⊎_elim
          (λ (down : get_or firsts (v + 1) 0 < get_or firsts v 0).
          let k : ℕ = get_or firsts (v + 1) 0 in
          let le : get_or firsts v 0 ≤ length edges = all.inside v (omega arith) in
          let a : (get_or edges k no_numbered_edge).from < v = all.below v k no_numbered_edge (omega arith) down in
          let b : v + 1 ≤ (get_or edges k no_numbered_edge).from = all.from (v + 1) k no_numbered_edge (omega arith) (omega arith) (omega arith) in
          absurd (omega arith))
          (λ (ge : get_or firsts v 0 ≤ get_or firsts (v + 1) 0). ge)
          (cases_lt (get_or firsts (v + 1) 0) (get_or firsts v 0));
      part = λ v k d lt low high.
          let le : get_or firsts (v + 1) 0 ≤ length edges = all.inside (v + 1) (omega arith) in
          let a : (get_or edges k d).from < v + 1 = all.below (v + 1) k d (omega arith) high in
          let b : v ≤ (get_or edges k d).from = all.from v k d (omega arith) low (omega arith) in
          omega arith;
      arrives = λ k d lt. let a : (get_or edges k d).to ≤ exit = (inside k d lt).1 in omega arith;
    }

-- ## Heights

pub heights_more : (order heights : List ℕ) (nodes k v : ℕ) → AreHeights order heights nodes k → k < length order → v ≡ get_or order k 0 → v < nodes → ((j i : ℕ) → i < j → j < length order → get_or order i 0 ≡ get_or order j 0 → ⊥) → AreHeights order (set heights v (length order - k)) nodes (k + 1)
heights_more order heights nodes k v so_far lt is inside once = record {
  whole = length-set heights v (length order - k) ∙ so_far.whole;
  each = λ j below. ⊎_elim
      (λ (same : j ≡ k).
      let at : get_or order j 0 ≡ v = ap (λ (x : ℕ). get_or order x 0) same ∙ sym is in
      rw (at, get_or-set_same heights v (length order - k) 0 (omega (arith, so_far.whole))) (omega arith))
      (λ (differ : j ≡ k → ⊥).
      rw (get_or-set_other heights v (get_or order j 0) (length order - k) 0 (λ e. once k j (omega arith) lt (e ∙ is))) (so_far.each j (omega arith)))
      (cases_eq j k);
}

-- ## Ranks

pub are_ranks : (extents : List Extent) (edges plain : List NumberedEdge) (order heights : List ℕ) (exit nodes : ℕ) → nodes ≡ exit + 1 → ArePlain extents edges plain → All (λ e. (e.from < exit) × (e.to ≤ exit)) edges → IsOrder nodes plain order → AreHeights order heights nodes (length order) → AreRanks exit edges extents heights
are_ranks extents edges plain order heights exit nodes nodes_is plains inside ordered high =
    let at : (p : ℕ) → p < nodes → (k : ℕ) × (k < length order) × (get_or heights p 0 + k ≡ length order) × (get_or order k 0 ≡ p) =
    λ p lt. let k = ordered.all p lt in (k.0, k.1, subst (λ (x : ℕ). get_or heights x 0 + k.0 ≡ length order) k.2 (high.each k.0 k.1), k.2) in
    record {
      whole = high.whole ∙ nodes_is;
      up = λ e has forward.
          let low : e.from < exit = (subst (λ (x : NumberedEdge). (x.from < exit) × (x.to ≤ exit)) has.2 (inside has.0 e has.1)).0 in
          let k = at e.from (omega arith) in
          let m = ordered.forward k.0 e k.1 (plains.complete e has forward) (sym k.3) in
          let m_lt : m.0 < k.0 = m.1 in
          let h : get_or heights e.to 0 + m.0 ≡ length order = subst (λ (x : ℕ). get_or heights x 0 + m.0 ≡ length order) m.2 (high.each m.0 (omega (arith, k.1))) in
          let g : get_or heights e.from 0 + k.0 ≡ length order = k.2 in
          omega arith;
      once = λ p q plt qlt same.
          let k = at p (omega arith) in
          let m = at q (omega arith) in
          let one : k.0 ≡ m.0 = omega (arith, k.2, m.2) in
          sym k.3 ∙ ap (λ (x : ℕ). get_or order x 0) one ∙ m.3;
    }

-- a walk along some edges is one along more
pub leads_more : {P E : Type 0} (shape : Shape P E) (A B : E → Type 0) → ((e : E) → A e → B e) → (p : P) (walk : List E) (q : P) → Leads shape A p walk q → Leads shape B p walk q
leads_more shape A B more p [] q h = h
leads_more shape A B more p (e ∷ walk) q h = (more e h.0, h.1, leads_more shape A B more (shape.to e) walk q h.2)

pub cycle_more : {P E : Type 0} (shape : Shape P E) (A B : E → Type 0) → ((e : E) → A e → B e) → Cycle shape A → Cycle shape B
cycle_more shape A B more c = record {
  place = c.place;
  first = c.first;
  rest = c.rest;
  returns = leads_more shape A B more c.place (c.first ∷ c.rest) c.place c.returns;
}

pub rank_fault : (extents : List Extent) (edges plain : List NumberedEdge) → ArePlain extents edges plain → (fault : NestFault) → IsOrderFault plain fault → IsRankFault edges extents fault
rank_fault extents edges plain plains Memory h = tt
rank_fault extents edges plain plains LoopsCross h = h
rank_fault extents edges plain plains SharedHeader h = h
rank_fault extents edges plain plains EntersMidLoop h = h
rank_fault extents edges plain plains UnboundedCycle h = cycle_more number_shape (Contains plain) (λ e. Contains edges e × (IsBack extents e → ⊥)) (λ e has. plains.sound e has) h
rank_fault extents edges plain plains NestedTooDeep h = h

pub plain_more_at : (extents : List Extent) (edges plain : List NumberedEdge) (i : ℕ) → ArePlain extents (take i edges) plain → i < length edges → (IsBack extents (get_or edges i no_numbered_edge) → ⊥) → ArePlain extents (take (i + 1) edges) (plain ++ get_or edges i no_numbered_edge ∷ [])
plain_more_at extents edges plain i so_far lt forward = plain_more extents edges plain i (get_or edges i no_numbered_edge) so_far lt (get_or_default edges i no_numbered_edge (get_or edges i no_numbered_edge) lt) forward

pub plain_same_at : (extents : List Extent) (edges plain : List NumberedEdge) (i : ℕ) → ArePlain extents (take i edges) plain → i < length edges → IsBack extents (get_or edges i no_numbered_edge) → ArePlain extents (take (i + 1) edges) plain
plain_same_at extents edges plain i so_far lt back = plain_same extents edges plain i (get_or edges i no_numbered_edge) so_far lt (get_or_default edges i no_numbered_edge (get_or edges i no_numbered_edge) lt) back

pub plain_in : (extents : List Extent) (edges plain : List NumberedEdge) (exit : ℕ) → ArePlain extents edges plain → All (λ e. (e.from < exit) × (e.to ≤ exit)) edges → All (λ e. (e.from < exit) × (e.to ≤ exit)) plain
plain_in extents edges plain exit plains inside k d lt =
    let has = (plains.sound (get_or plain k d) (Contains-get_or plain k d lt)).0 in
    subst (λ (x : NumberedEdge). (x.from < exit) × (x.to ≤ exit)) has.2 (inside has.0 (get_or plain k d) has.1)
