-- Each instance is shown under the smallest that it is inside of.
use Rattle.std.proofs.Common.{◌≡◌, true, ℕ, ◌+◌, ◌-◌, ◌<◌, ◌≤◌, List, [], ◌∷◌, ◌++◌, length, map, take, drop, get_or, sym, ap, ◌∙◌, subst, ⊎_elim, arith}
use Rattle.std.specs.Prelude.{Contains, All, ◌↔◌}
use Rattle.std.proofs.lemmas.List.{get_or-drop, get_or_default, length-drop, length-map, map-append, take_all, take_more, get_or-map}
use Rattle.std.proofs.lemmas.List.Elements.{All-nil, All-push, Contains-get_or}
use Rattle.control_flow.specs.declared.places.Place.{Place}
use Rattle.control_flow.specs.Flow.{Flow}
use Rattle.numbered_walks.specs.declared.span.Span.{Span}
use Rattle.statement.specs.declared.apart.ApartStretch.{ApartStretch}
use Rattle.loop_bounds.specs.declared.loop_instances.LoopInstance.{LoopInstance}
use Rattle.loop_bounds.specs.declared.nested.Outermost.{Outermost}
use Rattle.loop_bounds.specs.Extents.{found_instance}
use Rattle.loop_bounds.specs.Instance.{Instance, is_member}
use Rattle.loop_bounds.specs.Nested.{IsDirectlyInside, IsInside, IsNestedView, IsOutermost, Node, heads, instance_in, members, nodes}
use Rattle.numbered_walks.specs.Index.{span_at}
use Rattle.loop_bounds.specs.NestedParts.{AreNestedUpto, AreOutermost, Encloses, HoldsSpan, IsShown, instance_at}
use Rattle.loop_bounds.specs.Tree.{IsTree, Tree}
use Rattle.loop_bounds.proofs.NestedSpans.{IsDirectlyIn, direct_from, direct_to, outermost_more}
use Rattle.loop_bounds.proofs.NestedPlaces.{as_many, inside_from, inside_to, is_of, members_from, members_to}

pub found_at : (apart : List ApartStretch) (found : List LoopInstance) (instances : List Instance) (k : ℕ) (f : LoopInstance) → map (found_instance apart) found ≡ instances → k < length found → f ≡ get_or found k f → found_instance apart f ≡ instance_at instances k
found_at apart found instances k f same lt is = ap (found_instance apart) is ∙ sym (get_or-map (found_instance apart) found k f _ lt) ∙ ap (λ (is : List Instance). instance_at is k) same

module _ (flow : Flow) (tree : Tree) (t : IsTree flow tree) where
  abbrev I : ℕ → Instance
  I k = instance_at tree.instances k

  abbrev S : ℕ → Span
  S k = span_at tree.spans k

  known : (k : ℕ) → k < length tree.instances → Contains tree.instances (I k)
  known k lt = Contains-get_or tree.instances k _ lt

  -- ## Directly inside

  shows_inside : (k j : ℕ) → k < length tree.instances → IsDirectlyIn tree.spans k j → IsDirectlyInside flow tree.instances (I j) (I k)
  shows_inside k j klt d =
      let jlt : j < length tree.instances = omega (arith, d.0, as_many flow tree t) in
      record {
        inside = inside_from flow tree t k j klt jlt d.1;
        none_between = λ i has ji ik.
            let same : I has.0 ≡ i = is_of flow tree t has.0 i has.1 has.2 in
            d.2 has.0 (omega (arith, has.1, as_many flow tree t))
            (inside_to flow tree t has.0 j has.1 jlt (subst (IsInside flow (I j)) (sym same) ji))
            (inside_to flow tree t k has.0 klt has.1 (subst (λ (x : Instance). IsInside flow x (I k)) (sym same) ik));
      }

  inside_shows : (k j : ℕ) → k < length tree.instances → j < length tree.instances → IsDirectlyInside flow tree.instances (I j) (I k) → IsDirectlyIn tree.spans k j
  inside_shows k j klt jlt d = (
    omega (arith, as_many flow tree t),
    inside_to flow tree t k j klt jlt d.inside,
    (λ m lt mj km.
        let mlt : m < length tree.instances = omega (arith, as_many flow tree t) in
        d.none_between (I m) (known m mlt) (inside_from flow tree t m j mlt jlt mj) (inside_from flow tree t k m klt mlt km)),
  )

  -- ## One instance more

  module _ (old new : Outermost) (k : ℕ) (places : List Place) (lt : k < length tree.instances) (a : AreNestedUpto flow tree old k) (e : Encloses tree.apart old new (S k).header (I k) places) (members_are : places ≡ members flow tree (I k)) where
    abbrev indexes : List ℕ
    indexes = (a.outer).indexes

    abbrev outer : List Instance
    outer = heads tree.apart old.instances.items

    in_spans : k < length tree.spans
    in_spans = omega (arith, as_many flow tree t)

    outer_len : length outer ≡ length indexes
    outer_len = ap length (a.outer).outer_are ∙ length-map indexes (instance_at tree.instances)

    outer_at : (p : ℕ) (i : Instance) → p < length indexes → get_or outer p i ≡ I (get_or indexes p 0)
    outer_at p i inside = ap (λ (is : List Instance). get_or is p i) (a.outer).outer_are ∙ get_or-map (instance_at tree.instances) indexes p 0 i inside

    abbrev IsInner : Instance → Type 0
    IsInner i = Contains tree.instances i × IsDirectlyInside flow tree.instances i (I k)

    inner_from : (i : Instance) → Contains (drop e.first outer) i → IsInner i
    inner_from i has =
        let p : ℕ = e.first + has.0 in
        let inside : p < length indexes = omega (arith, has.1, length-drop e.first outer, outer_len) in
        let j : ℕ = get_or indexes p 0 in
        let same : I j ≡ i = sym (outer_at p i inside) ∙ sym (get_or-drop e.first outer has.0 i) ∙ has.2 in
        let d : IsDirectlyIn tree.spans k j = direct_from (length flow.places) tree.edges tree.spans t.ordered tree.instances old.headers.items outer k in_spans a.outer e.first e.first_in e.before e.within p (omega arith) inside in
        subst IsInner same (known j (omega (arith, d.0, as_many flow tree t)), shows_inside k j lt d)

    inner_to : (i : Instance) → IsInner i → Contains (drop e.first outer) i
    inner_to i inner =
        let j : ℕ = (inner.0).0 in
        let same : I j ≡ i = is_of flow tree t j i (inner.0).1 (inner.0).2 in
        let d : IsDirectlyIn tree.spans k j = inside_shows k j lt (inner.0).1 (subst (λ (x : Instance). IsDirectlyInside flow tree.instances x (I k)) (sym same) inner.1) in
        let p = direct_to (length flow.places) tree.edges tree.spans t.ordered tree.instances old.headers.items outer k in_spans a.outer e.first e.first_in e.before e.within j d in
        let sum : e.first + (p.0 - e.first) ≡ p.0 = omega (arith, p.1) in (
          p.0 - e.first,
          omega (arith, p.1, p.2, length-drop e.first outer, outer_len),
          get_or-drop e.first outer (p.0 - e.first) i ∙ ap (λ (n : ℕ). get_or outer n i) sum ∙ outer_at p.0 i p.2 ∙ ap I p.3 ∙ same,
        )

    abbrev own : Node
    own = record { instance = I k; places = places; inner = drop e.first outer }

    pub nested_more : AreNestedUpto flow tree new (k + 1)
    nested_more = record {
      each_once = ap (map (λ (n : Node). n.instance)) e.nodes_are ∙ map-append (λ (n : Node). n.instance) (nodes tree.apart old.instances.items) (own ∷ []) ∙ ap (λ (is : List Instance). is ++ I k ∷ []) a.each_once ∙ sym (take_more tree.instances k _ lt);
      shown = subst (All (IsShown flow tree)) (sym e.nodes_are) (All-push (IsShown flow tree) (nodes tree.apart old.instances.items) own a.shown (members_are, (λ i. (inner_from i, inner_to i))));
      outer = subst (λ (is : List Instance). AreOutermost tree.instances tree.spans new.headers.items is (k + 1)) (sym e.heads_are)
          (subst (λ (hs : List ℕ). AreOutermost tree.instances tree.spans hs (take e.first outer ++ I k ∷ []) (k + 1)) (sym e.headers_are)
          (outermost_more (length flow.places) tree.edges tree.spans t.ordered tree.instances old.headers.items outer k in_spans a.outer e.first e.first_in e.before e.within));
    }

  pub as_many_headers : (o : Outermost) (k : ℕ) → AreNestedUpto flow tree o k → length o.headers.items ≡ length o.instances.items
  as_many_headers o k a =
      let headers = ap length (a.outer).headers_are ∙ length-map (a.outer).indexes (λ (j : ℕ). (S j).header) in
      let outers = ap length (a.outer).outer_are ∙ length-map (a.outer).indexes (instance_at tree.instances) in
      headers ∙ sym outers ∙ length-map o.instances.items (instance_in tree.apart)

  -- ## None, and all

  pub nested_none : (o : Outermost) → o.headers.items ≡ [] → o.instances.items ≡ [] → AreNestedUpto flow tree o 0
  nested_none o no_headers none = record {
    each_once = ap (λ is. map (λ (n : Node). n.instance) (nodes tree.apart is)) none;
    shown = subst (λ is. All (IsShown flow tree) (nodes tree.apart is)) (sym none) (All-nil (IsShown flow tree));
    outer = record {
      indexes = [];
      headers_are = no_headers;
      outer_are = ap (heads tree.apart) none;
      below = λ p lt. absurd (omega arith);
      alone = λ p j lt. absurd (omega arith);
      rest = λ j lt. absurd (omega arith);
      ascending = subst (λ (hs : List ℕ). (i j d : ℕ) → i ≤ j → j < length hs → get_or hs i d ≤ get_or hs j d) (sym no_headers) (λ i j d le lt. absurd (omega arith));
    };
  }

  module _ (o : Outermost) (a : AreNestedUpto flow tree o (length tree.instances)) where
    abbrev all_indexes : List ℕ
    all_indexes = (a.outer).indexes

    abbrev outers : List Instance
    outers = heads tree.apart o.instances.items

    outers_at : (p : ℕ) (i : Instance) → p < length all_indexes → get_or outers p i ≡ I (get_or all_indexes p 0)
    outers_at p i inside = ap (λ (is : List Instance). get_or is p i) (a.outer).outer_are ∙ get_or-map (instance_at tree.instances) all_indexes p 0 i inside

    outers_len : length outers ≡ length all_indexes
    outers_len = ap length (a.outer).outer_are ∙ length-map all_indexes (instance_at tree.instances)

    abbrev IsOuter : Instance → Type 0
    IsOuter i = Contains tree.instances i × IsOutermost flow tree.instances i

    outer_from : (i : Instance) → Contains outers i → IsOuter i
    outer_from i has =
        let inside : has.0 < length all_indexes = omega (arith, has.1, outers_len) in
        let j : ℕ = get_or all_indexes has.0 0 in
        let jlt : j < length tree.instances = (a.outer).below has.0 inside in
        let same : I j ≡ i = sym (outers_at has.0 i inside) ∙ has.2 in
        subst IsOuter same (
          known j jlt,
          (λ x in_tree inside_x.
              let is : I in_tree.0 ≡ x = is_of flow tree t in_tree.0 x in_tree.1 in_tree.2 in
              (a.outer).alone has.0 in_tree.0 inside in_tree.1 (inside_to flow tree t in_tree.0 j in_tree.1 jlt (subst (IsInside flow (I j)) (sym is) inside_x))),
        )

    outer_to : (i : Instance) → IsOuter i → Contains outers i
    outer_to i is_outer =
        let j : ℕ = (is_outer.0).0 in
        let jlt : j < length tree.instances = (is_outer.0).1 in
        let same : I j ≡ i = is_of flow tree t j i jlt (is_outer.0).2 in
        ⊎_elim
        (λ (has : Contains all_indexes j).
        let is : get_or all_indexes has.0 0 ≡ j = get_or_default all_indexes has.0 0 j has.1 ∙ has.2 in
        (has.0, omega (arith, has.1, outers_len), outers_at has.0 i has.1 ∙ ap I is ∙ same))
        (λ (other : (m : ℕ) × (m < length tree.instances) × HoldsSpan tree.spans m j).
        absurd (is_outer.1 (I other.0) (known other.0 other.1) (subst (λ (x : Instance). IsInside flow x (I other.0)) same (inside_from flow tree t other.0 j other.1 jlt other.2))))
        ((a.outer).rest j jlt)

    pub nested_all : IsNestedView flow tree o.instances.items
    nested_all = record {
      each_once = a.each_once ∙ take_all (length tree.instances) tree.instances (omega arith);
      members_are = λ k d lt p. subst (λ (ps : List Place). Contains ps p ↔ (Contains flow.places p × (is_member (get_or (nodes tree.apart o.instances.items) k d).instance p ≡ true))) (sym (a.shown k d lt).0) (members_from flow tree t (get_or (nodes tree.apart o.instances.items) k d).instance p, members_to flow tree t (get_or (nodes tree.apart o.instances.items) k d).instance p);
      in_order = λ k d lt. (a.shown k d lt).0;
      inner_are = λ k d lt. (a.shown k d lt).1;
      outermost_are = λ i. (outer_from i, outer_to i);
    }
