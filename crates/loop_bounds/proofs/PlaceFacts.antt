-- The instances of a handler by their extents: what positions say of places.
use Rattle.std.proofs.Common.{◌≡◌, ℕ, ◌<◌, ◌≤◌, true, false, List, length, map, get_or, sym, refl, ap, ◌∙◌, subst, inl, inr, ⊎_elim, arith}
use Rattle.std.specs.Prelude.{Contains, ◌==◌, ◌&&◌}
use Rattle.std.proofs.lemmas.Bool.{both_ways, cases_lt, eqb-true, eq-eqb, false_from_ne_true}
use Rattle.std.proofs.lemmas.List.{get_or_default, length-map, get_or-map}
use Rattle.std.proofs.lemmas.List.Elements.{Contains-get_or}
use Rattle.std.proofs.Math.Bool.{and_comm}
use Rattle.walks.specs.Walk.{IsReached}
use Rattle.walks.specs.Greatest.{is_back_edge}
use Rattle.control_flow.specs.declared.places.Place.{Place}
use Rattle.control_flow.specs.declared.places.Place.TheVariants.{At}
use Rattle.control_flow.specs.declared.edges.Edge.{Edge}
use Rattle.statement.specs.Stated.{StatedLoops}
use Rattle.control_flow.specs.Flow.{Flow, IsWellFormed, edge_shape}
use Rattle.control_flow.specs.Places.{place_at}
use Rattle.loop_bounds.specs.declared.extents.Extent.{Extent}
use Rattle.loop_bounds.specs.declared.handler_positions.HandlerPositions.{HandlerPositions}
use Rattle.numbered_walks.specs.declared.span.NumberedEdge.{NumberedEdge}
use Rattle.numbered_walks.specs.Ordered.{number_shape}
use Rattle.loop_bounds.specs.Instance.{Instance, IsInstance, is_member, is_header, place_loops}
use Rattle.loop_bounds.specs.Extents.{EntersRight, HaveCrossing, IsExtentOf, IsWithin, extent_at, found_instance, header_place, is_within}
use Rattle.loop_bounds.specs.InPositions.{EnterRight, EnterWrong, HasPlainCycle, AreHandlerPositions, IsSound}
use Rattle.loop_bounds.specs.Layout.{IsBack, IsEnteredRight, is_back_of}
use Rattle.loop_bounds.specs.Nest.{HasCrossing, HasMidEntry, HasUnboundedCycle, IsPlainEdge}
use Rattle.loop_bounds.specs.Tree.{ArePlaceNumbers, NumbersEdge}
use Rattle.loop_bounds.proofs.CrossFacts as cross
use Rattle.loop_bounds.proofs.ExtentOf.{header_itself, holds_here, no_found}
use Rattle.loop_bounds.proofs.InPlaces.{found_has}
use Rattle.loop_bounds.proofs.Numbers.{edges_in, flow_cycle, flow_edge, number_once, numbered_cycle, numbered_edge, numbers_reached}
use Rattle.loop_bounds.proofs.Positions.{listed_length, place_numbers}
use Rattle.loop_bounds.proofs.Within.{from_in, in_from, out_from}

module _ (flow : Flow) (loops : StatedLoops) (positions : HandlerPositions) (well_formed : IsWellFormed flow) (g : AreHandlerPositions flow loops positions) where
  abbrev extents : List Extent
  extents = positions.extents.items

  abbrev edges : List NumberedEdge
  edges = positions.edges.items

  abbrev place_of : ℕ → Place
  place_of = place_at positions.listed.items

  abbrev exit : ℕ
  exit = length flow.places

  pub len : length positions.listed.items ≡ length flow.places
  len = listed_length flow.places positions.listed.items g.listed_is.moved

  pub numbers : ArePlaceNumbers flow (place_at positions.listed.items)
  numbers = place_numbers flow positions.listed.items well_formed g.listed_is.moved

  -- ## Instances and extents

  abbrev pub instance_at : Extent → Instance
  instance_at s = found_instance loops.apart (get_or positions.found.items s.instance no_found)

  pub instance_is : (s : Extent) → Contains positions.extents.items s → IsInstance flow loops (found_instance loops.apart (get_or positions.found.items s.instance no_found))
  instance_is s has = (g.found_are (instance_at s)).0 (found_has loops.apart positions.found.items s.instance no_found (g.extents_of.named s has))

  pub extent_is : (s : Extent) → Contains positions.extents.items s → IsExtentOf positions.listed.items (found_instance loops.apart (get_or positions.found.items s.instance no_found)) s
  extent_is s has = g.extents_of.are s no_found has

  pub extent_for : (i : Instance) → IsInstance flow loops i → (s : Extent) × Contains positions.extents.items s × (found_instance loops.apart (get_or positions.found.items s.instance no_found) ≡ i)
  extent_for i is =
      let k = (g.found_are i).1 is in
      let k_lt : k.0 < length positions.found.items = omega (arith, k.1, length-map positions.found.items (found_instance loops.apart)) in
      let a = g.extents_of.all k.0 k_lt in
      (a.0, a.1, ap (λ (n : ℕ). found_instance loops.apart (get_or positions.found.items n no_found)) a.2 ∙ sym (get_or-map (found_instance loops.apart) positions.found.items k.0 no_found i k_lt) ∙ k.2)

  pub member : (s : Extent) → Contains positions.extents.items s → (p : ℕ) → p ≤ length flow.places → is_member (found_instance loops.apart (get_or positions.found.items s.instance no_found)) (place_at positions.listed.items p) ≡ is_within s p
  member s has p le = (extent_is s has).members p (omega (arith, len))

  pub header : (s : Extent) → Contains positions.extents.items s → (p : ℕ) → p ≤ length flow.places → is_header (found_instance loops.apart (get_or positions.found.items s.instance no_found)) (place_at positions.listed.items p) ≡ (p == s.header)
  header s has p le = (extent_is s has).headers p (omega (arith, len))

  -- the header's place has its position
  header_number : (s : Extent) → Contains extents s → (s.header < exit) × (place_of s.header ≡ At (instance_at s).list (instance_at s).header)
  header_number s has =
      let h = numbers.number (At (instance_at s).list (instance_at s).header) (instance_is s has).reached in
      let h_lt : h.0 < exit = h.1 in
      let yes_ : (h.0 == s.header) ≡ true = sym (header s has h.0 (omega arith)) ∙ ap (is_header (instance_at s)) h.2 ∙ header_itself (instance_at s) in
      let same : h.0 ≡ s.header = eqb-true h.0 s.header yes_ in
      (omega arith, ap place_of (sym same) ∙ h.2)

  pub header_in : (s : Extent) → Contains positions.extents.items s → s.header < length flow.places
  header_in s has = (header_number s has).0

  pub header_within : (s : Extent) → Contains positions.extents.items s → is_within s s.header ≡ true
  header_within s has =
      let h = header_number s has in
      let lt : s.header < exit = h.0 in
      let l = g.bounded s.instance no_found (g.extents_of.named s has) in
      let i : Instance = instance_at s in
      sym (member s has s.header (omega arith)) ∙ ap (is_member i) h.1 ∙ holds_here loops.apart i.first i.last i.list i.header l.within.0 l.within.1

  at_index : (s : Extent) (has : Contains extents s) → get_or extents has.0 s ≡ s
  at_index s has = has.2

  pub apart : (s t : Extent) → Contains positions.extents.items s → Contains positions.extents.items t → s.header ≡ t.header → s ≡ t
  apart s t s_has t_has same =
      let place : header_place (get_or positions.found.items s.instance no_found) ≡ header_place (get_or positions.found.items t.instance no_found) = sym (header_number s s_has).1 ∙ ap place_of same ∙ (header_number t t_has).1 in
      let s_in : s.instance < length positions.found.items = g.extents_of.named s s_has in
      let t_in : t.instance < length positions.found.items = g.extents_of.named t t_has in
      let not_below : s.instance < t.instance → ⊥ = λ less. g.differ s.instance t.instance no_found less t_in place in
      let not_above : t.instance < s.instance → ⊥ = λ less. g.differ t.instance s.instance no_found less s_in (sym place) in
      let one : s.instance ≡ t.instance = omega arith in
      let t_at : get_or extents t_has.0 s ≡ t = get_or_default extents t_has.0 s t t_has.1 ∙ t_has.2 in
      let k : s_has.0 ≡ t_has.0 = g.extents_of.once s_has.0 t_has.0 s s_has.1 t_has.1 (ap (λ (x : Extent). x.instance) s_has.2 ∙ one ∙ ap (λ (x : Extent). x.instance) (sym t_at)) in
      sym s_has.2 ∙ ap (λ (n : ℕ). get_or extents n s) k ∙ t_at

  pub at_extent : (k : ℕ) → k < length positions.extents.items → Contains positions.extents.items (extent_at positions.extents.items k)
  at_extent k lt = Contains-get_or extents k _ lt

  pub within_exit : (s : Extent) → Contains positions.extents.items s → s.end ≤ length flow.places
  within_exit s has = omega (arith, (extent_is s has).inside, len)

  -- ## What may be nested

  pub edges_are : (e : NumberedEdge) → Contains positions.edges.items e → (e.from < length flow.places) × (e.to ≤ length flow.places)
  edges_are e has = edges_in flow place_of numbers well_formed edges g.numbered e has

  pub sound : IsSound (length flow.places) positions.edges.items positions.extents.items
  sound = record {
    few = well_formed.few;
    edges_in = λ k d lt. edges_are (get_or edges k d) (Contains-get_or edges k d lt);
    extents_are = g.extents_are;
    headers_in = λ k d lt. header_in (get_or extents k d) (Contains-get_or extents k d lt);
    apart = apart;
  }

  -- ## Crossing

  all_are : (i : Instance) → Contains (map (found_instance loops.apart) positions.found.items) i → IsInstance flow loops i
  all_are i = (g.found_are i).0

  pub crossing : HaveCrossing positions.extents.items → HasCrossing flow loops
  crossing = cross.crossing flow loops positions.listed.items positions.found.items extents well_formed g.listed_is all_are g.extents_of

  pub no_crossing : (HaveCrossing positions.extents.items → ⊥) → HasCrossing flow loops → ⊥
  no_crossing none c = cross.no_crossing flow loops positions.listed.items positions.found.items extents well_formed g.listed_is all_are g.extents_of none c ((g.found_are c.one).1 c.one_is) ((g.found_are c.other).1 c.other_is)

  -- a member's position lies in the extent
  pub within : (i : Instance) (s : Extent) → Contains positions.extents.items s → found_instance loops.apart (get_or positions.found.items s.instance no_found) ≡ i → (p : Place) (n : ℕ) → n ≤ length flow.places → place_at positions.listed.items n ≡ p → is_member i p ≡ is_within s n
  within i s has is p n le at = ap (is_member i) (sym at) ∙ ap (λ (j : Instance). is_member j (place_of n)) (sym is) ∙ member s has n le

  -- ## Entries

  pub entry_in : positions.entry < length flow.places
  entry_in = ⊎_elim
      (λ (lt : positions.entry < exit). lt)
      (λ (ge : exit ≤ positions.entry).
      let top : positions.entry ≡ exit = omega (arith, g.entry_most, len) in
      absurd (well_formed.no_exit (subst (Contains flow.places) (sym g.entry_is ∙ ap place_of top ∙ numbers.exit) well_formed.entry_in)))
      (cases_lt positions.entry exit)

  not_header : (s : Extent) → Contains extents s → (p : ℕ) → p ≤ exit → (p ≡ s.header → ⊥) → is_header (instance_at s) (place_of p) ≡ false
  not_header s has p le differ = header s has p le ∙ false_from_ne_true (p == s.header) (λ h. differ (eqb-true p s.header h))

  pub mid_entry : EnterWrong (length flow.places) positions.edges.items positions.entry positions.extents.items → HasMidEntry flow loops
  mid_entry wrong = ⊎_elim
      (λ w.
      let s : Extent = extent_at extents w.0 in
      let s_has = at_extent w.0 w.1 in
      let lt : positions.entry < exit = entry_in in
      record {
        instance = instance_at s;
        is = instance_is s s_has;
        place = flow.entry;
        has = well_formed.entry_in;
        member = ap (is_member (instance_at s)) (sym g.entry_is) ∙ member s s_has positions.entry (omega arith) ∙ from_in s positions.entry w.2;
        no_header = ap (is_header (instance_at s)) (sym g.entry_is) ∙ not_header s s_has positions.entry (omega arith) w.4;
        entered = inl refl;
      })
      (λ x.
      let n : NumberedEdge = x.0 in
      let e = flow_edge flow place_of numbers well_formed edges g.numbered n x.1 in
      let w = x.2 in
      let s : Extent = extent_at extents w.0 in
      let s_has = at_extent w.0 w.1 in
      let end : s.end ≤ exit = within_exit s s_has in
      let high : n.to < s.end = w.2.1 in
      let from_in_ : n.from < exit = e.2.from_in in
      record {
        instance = instance_at s;
        is = instance_is s s_has;
        place = place_of n.to;
        has = numbers.place n.to (omega arith);
        member = member s s_has n.to (omega arith) ∙ from_in s n.to w.2;
        no_header = not_header s s_has n.to (omega arith) w.4;
        entered = inr (e.0, e.1, sym e.2.to_is, ap (is_member (instance_at s)) (sym e.2.from_is) ∙ member s s_has n.from (omega arith) ∙ false_from_ne_true (is_within s n.from) (λ h. w.3 (in_from s n.from h)));
      })
      wrong

  -- extents that are entered at their headers
  pub entered_right : EnterRight (length flow.places) positions.edges.items positions.entry positions.extents.items → IsEnteredRight positions.edges.items positions.entry positions.extents.items
  entered_right right =
      let at : (e from : ℕ) → EntersRight extents from e → (s : Extent) → Contains extents s → (IsWithin s from → ⊥) → is_within s e ≡ true → e ≡ s.header =
      λ e from enters s has out inside.
      let is : extent_at extents has.0 ≡ s = cross.index_of extents s has in
      enters has.0 has.1 (subst (λ (x : Extent). IsWithin x e) (sym is) (in_from s e inside)) (λ h. out (subst (λ (x : Extent). IsWithin x from) is h)) ∙ ap (λ (x : Extent). x.header) is in
      record {
        entered = λ e has s s_has out inside. at e.to e.from (subst (λ (x : NumberedEdge). EntersRight extents x.from x.to) has.2 (right.along has.0 e has.1)) s s_has (out_from s e.from out) inside;
        entry_at_header = λ s has inside. at positions.entry exit right.at_entry s has (λ h. let end : s.end ≤ exit = within_exit s has in let high : exit < s.end = h.1 in absurd (omega arith)) inside;
      }

  pub no_mid_entry : IsEnteredRight positions.edges.items positions.entry positions.extents.items → HasMidEntry flow loops → ⊥
  no_mid_entry right m =
      let s = extent_for m.instance m.is in
      let n = numbers.number m.place m.has in
      let lt : n.0 < exit = n.1 in
      let inside : is_within s.0 n.0 ≡ true = sym (within m.instance s.0 s.1 s.2 m.place n.0 (omega arith) n.2) ∙ m.member in
      let headed : is_header m.instance m.place ≡ (n.0 == (s.0).header) = ap (is_header m.instance) (sym n.2) ∙ ap (λ (j : Instance). is_header j (place_of n.0)) (sym s.2) ∙ header s.0 s.1 n.0 (omega arith) in
      let no_ : (n.0 ≡ (s.0).header) → ⊥ = λ same. both_ways (is_header m.instance m.place) m.no_header (headed ∙ eq-eqb n.0 (s.0).header same) in
      ⊎_elim
      (λ entry.
      let one : n.0 ≡ positions.entry = numbers.once n.0 positions.entry n.1 entry_in (n.2 ∙ entry ∙ sym g.entry_is) in
      no_ (one ∙ right.entry_at_header s.0 s.1 (subst (λ (p : ℕ). is_within s.0 p ≡ true) one inside)))
      (λ x.
      let e = numbered_edge flow place_of numbers well_formed edges g.numbered x.0 x.1 in
      let to_is : n.0 ≡ (e.0).to = number_once flow place_of numbers well_formed edges g.numbered n.0 (e.0).to n.1 e.2.to_in (n.2 ∙ sym x.2 ∙ sym e.2.to_is) in
      let from_lt : (e.0).from < exit = e.2.from_in in
      let out : is_within s.0 (e.0).from ≡ false = sym (within m.instance s.0 s.1 s.2 (x.0).from (e.0).from (omega arith) e.2.from_is) ∙ x.3 in
      no_ (to_is ∙ right.entered e.0 e.1 s.0 s.1 out (subst (λ (p : ℕ). is_within s.0 p ≡ true) to_is inside)))
      m.entered

  -- ## Back edges

  pub back_down : (e : Edge) (n : NumberedEdge) → NumbersEdge (place_at positions.listed.items) (length flow.places) e n → (s : Extent) → Contains positions.extents.items s → is_back_edge edge_shape place_loops (found_instance loops.apart (get_or positions.found.items s.instance no_found)) e ≡ is_back_of n s
  back_down e n numbered s has =
      let from_lt : n.from < exit = numbered.from_in in
      let a : is_member (instance_at s) e.from ≡ is_within s n.from = ap (is_member (instance_at s)) (sym numbered.from_is) ∙ member s has n.from (omega arith) in
      let b : is_header (instance_at s) e.to ≡ (n.to == s.header) = ap (is_header (instance_at s)) (sym numbered.to_is) ∙ header s has n.to numbered.to_in in
      (λ i. a i && b i) ∙ and_comm (is_within s n.from) (n.to == s.header)

  plain_up : (n : NumberedEdge) → Contains edges n × (IsBack extents n → ⊥) → (e : Edge) × IsPlainEdge flow loops e × NumbersEdge place_of exit e n
  plain_up n plain =
      let e = flow_edge flow place_of numbers well_formed edges g.numbered n plain.0 in (
        e.0,
        record {
          has = e.1;
          plain = λ i is.
              let s = extent_for i is in
              ap (λ (j : Instance). is_back_edge edge_shape place_loops j e.0) (sym s.2) ∙ back_down e.0 n e.2 s.0 s.1 ∙ false_from_ne_true (is_back_of n s.0) (λ h. plain.1 (s.0, s.1, h));
        },
        e.2,
      )

  plain_down : (e : Edge) → IsPlainEdge flow loops e → (n : NumberedEdge) × (Contains edges n × (IsBack extents n → ⊥)) × NumbersEdge place_of exit e n
  plain_down e plain =
      let n = numbered_edge flow place_of numbers well_formed edges g.numbered e plain.has in
      (n.0, (n.1, λ back. both_ways (is_back_of n.0 back.0) (sym (back_down e n.0 n.2 back.0 back.1) ∙ plain.plain (instance_at back.0) (instance_is back.0 back.1)) back.2), n.2)

  pub unbounded : HasPlainCycle positions.edges.items positions.extents.items → HasUnboundedCycle flow loops
  unbounded = flow_cycle flow place_of numbers well_formed edges g.numbered (IsPlainEdge flow loops) (λ n. Contains edges n × (IsBack extents n → ⊥)) plain_up

  pub bounded : (HasPlainCycle positions.edges.items positions.extents.items → ⊥) → HasUnboundedCycle flow loops → ⊥
  bounded none cycle = none (numbered_cycle flow place_of numbers well_formed edges g.numbered (IsPlainEdge flow loops) (λ n. Contains edges n × (IsBack extents n → ⊥)) plain_down cycle)

  pub reached : (p : ℕ) → p < length flow.places → IsReached number_shape (Contains positions.edges.items) positions.entry p
  reached p lt = numbers_reached flow place_of numbers well_formed edges g.numbered positions.entry (omega (arith, entry_in)) g.entry_is p lt
