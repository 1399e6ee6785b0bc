-- The tree of what was found, with all that holds of it.
use Rattle.std.proofs.Common.{◌≡◌, ◌≢◌, ℕ, suc, ◌+◌, ◌<◌, ◌≤◌, ◌⊎◌, Bool, true, false, cond, eqb, List, [], ◌∷◌, length, map, get_or, slice_index, count_by, sym, refl, ap, ◌∙◌, subst, inl, inr, ⊎_elim, arith}
use Rattle.std.specs.Prelude.{Contains, All, AllPairs, ◌↔◌}
use Rattle.std.specs.Cmp.{IsStrictWeakOrder}
use Rattle.std.proofs.lemmas.Bool.{cases_eq, cases_lt, eqb-true, and_parts, false_from_ne_true}
use Rattle.std.proofs.lemmas.Cmp.{nat_cmp_total, then_total, on_total, back_total}
use Rattle.std.proofs.lemmas.List.{get_or_default, get_or_past, length-map, take_all, get_or-map}
use Rattle.std.proofs.lemmas.List.Elements.{Contains-get_or}
use Rattle.std.proofs.lemmas.List.Sorted.{ranks_by, sorted_far, Contains-permutation, IsPermutation-sym, length_permutation, sum_by-IsPermutation}
use Rattle.walks.specs.declared.limits.TheConstants.{MOST_INSTANCES, MOST_ROUNDS}
use Rattle.control_flow.specs.declared.places.Place.TheVariants.{Exit}
use Rattle.statement.specs.Stated.{StatedLoops}
use Rattle.control_flow.specs.Flow.{Flow, IsWellFormed}
use Rattle.control_flow.specs.Places.{place_at}
use Rattle.loop_bounds.specs.declared.extents.Extent.{Extent}
use Rattle.loop_bounds.specs.declared.loop_instances.LoopInstance.{LoopInstance}
use Rattle.loop_bounds.specs.declared.handler_positions.HandlerPositions.{HandlerPositions}
use Rattle.loop_bounds.specs.declared.nesting.Nesting.{Nesting}
use Rattle.numbered_walks.specs.declared.span.NumberedEdge.{NumberedEdge}
use Rattle.numbered_walks.specs.declared.span.Span.{Span}
use Rattle.loop_bounds.specs.Instance.{Instance, is_member, is_header}
use Rattle.loop_bounds.specs.Extents.{extent_at, found_instance, is_within}
use Rattle.loop_bounds.specs.InPositions.{AreHandlerPositions, IsNesting}
use Rattle.loop_bounds.specs.Layout.{AreMoved, AreNumbers, AreParted, ArePlaced, AreShown, IsLaidOut, IsShown, depth_at, is_back_of, key_in, opens_after}
use Rattle.numbered_walks.specs.Ordered.{ClosesBefore, GoesUpOrBack, HoldsAll, IsEnteredUp, IsOrdered, is_in}
use Rattle.numbered_walks.proofs.Members.{member_last}
use Rattle.loop_bounds.specs.Tree.{AreSpansOf, IsNumbered, IsTree, Tree, place_in}
use Rattle.loop_bounds.proofs.ChainLemmas.{count_cons}
use Rattle.loop_bounds.proofs.ExtentOf.{no_found, then_order}
use Rattle.loop_bounds.proofs.Moved.{numbers_once}
use Rattle.loop_bounds.proofs.PlaceFacts.{apart, edges_are, entered_right, entry_in, header, header_in, header_within, len, member, numbers, reached, within_exit}
use Rattle.loop_bounds.proofs.Positions.{places_once}
use Rattle.loop_bounds.proofs.RankLemmas.{is_back_any}
use Rattle.loop_bounds.proofs.TreeLemmas.{IsPlan, forward, goes_up, hold_later, number_back, number_exit, number_of, span_header, span_holds, span_shape}
use Rattle.loop_bounds.proofs.LayoutLemmas.{no_numbered_span}

closing_ranks : IsStrictWeakOrder opens_after
closing_ranks = ranks_by (then_total (on_total (λ (x : Span × ℕ). x.0.last) nat_cmp_total) (back_total (on_total (λ (x : Span × ℕ). x.0.header) nat_cmp_total))) (λ (x : Span × ℕ). x)

-- tests of two lists that agree in turn
count_same : {X Y : Type 0} (f : X → Bool) (g : Y → Bool) (xs : List X) (ys : List Y) → length xs ≡ length ys → ((k : ℕ) (d : X) (e : Y) → k < length xs → f (get_or xs k d) ≡ g (get_or ys k e)) → count_by f xs ≡ count_by g ys
count_same f g [] [] len same = refl
count_same f g [] (y ∷ ys) len same = absurd (omega arith)
count_same f g (x ∷ xs) [] len same = absurd (omega arith)
count_same f g (x ∷ xs) (y ∷ ys) len same =
    let e : cond {A = ℕ} (f x) 1 0 ≡ cond {A = ℕ} (g y) 1 0 = ap (λ (b : Bool). cond {A = ℕ} b 1 0) (same 0 x y (omega arith)) in
    let h : count_by f xs ≡ count_by g ys = count_same f g xs ys (omega arith) (λ k d e lt. same (suc k) d e (omega arith)) in
    omega (arith, count_cons f x xs, count_cons g y ys)

count_map : {X Y : Type 0} (f : Y → Bool) (h : X → Y) (xs : List X) → count_by f (map h xs) ≡ count_by (λ x. f (h x)) xs
count_map f h [] = refl
count_map f h (x ∷ xs) = omega (arith, count_cons f (h x) (map h xs), count_cons (λ y. f (h y)) x xs, count_map f h xs)

count_none : {X : Type 0} (f : X → Bool) (xs : List X) → ((j : ℕ) (d : X) → j < length xs → f (get_or xs j d) ≡ false) → count_by f xs ≡ 0
count_none f [] none = refl
count_none f (x ∷ xs) none =
    let e : cond {A = ℕ} (f x) 1 0 ≡ 0 = ap (λ (b : Bool). cond {A = ℕ} b 1 0) (none 0 x (omega arith)) in
    omega (arith, count_cons f x xs, count_none f xs (λ j d lt. none (suc j) d (omega arith)))

back_parts : (e : NumberedEdge) (s : Extent) → is_back_of e s ≡ true → (e.to ≡ s.header) × (is_within s e.from ≡ true)
back_parts e s h =
    let parts = and_parts (eqb e.to s.header) (is_within s e.from) h in
    (eqb-true e.to s.header parts.0, parts.1)

strict : (a b : ℕ) → b ≤ a → (a ≡ b → ⊥) → b < a
strict a b le differ = omega arith

module _ (flow : Flow) (loops : StatedLoops) (positions : HandlerPositions) (well_formed : IsWellFormed flow) (g : AreHandlerPositions flow loops positions) (nesting : Nesting) (n : IsNesting (length flow.places) positions.edges.items positions.entry positions.extents.items nesting) (order numbers_list : List ℕ) (laid : IsLaidOut (key_in (slice_index nesting.ranks.items) positions.extents.items) (length flow.places) order) (numbered : AreNumbers order numbers_list (length order)) where
  abbrev extents : List Extent
  extents = positions.extents.items

  abbrev edges : List NumberedEdge
  edges = positions.edges.items

  abbrev exit : ℕ
  exit = length flow.places

  abbrev rank : ℕ → ℕ
  rank = slice_index nesting.ranks.items

  plan : IsPlan edges positions.entry exit extents rank order numbers_list
  plan = record {
    entered = entered_right flow loops positions well_formed g n.entered;
    apart = apart flow loops positions well_formed g;
    up = n.ranks.up;
    reached = reached flow loops positions well_formed g;
    edges_in = edges_are flow loops positions well_formed g;
    once = n.ranks.once;
    header_in = header_in flow loops positions well_formed g;
    header_within = header_within flow loops positions well_formed g;
    ends = within_exit flow loops positions well_formed g;
    later = hold_later extents nesting.parents.items n.nested;
    laid = laid;
    numbered = numbered;
    entry_in = entry_in flow loops positions well_formed g;
  }

  back_of : (p : ℕ) → p < exit → (get_or numbers_list p 0 < exit) × (get_or order (get_or numbers_list p 0) 0 ≡ p)
  back_of p lt = number_back edges positions.entry exit extents rank order numbers_list plan p lt

  module _ (closing : List (Span × ℕ)) (shown : AreShown numbers_list positions.found.items extents closing) (instances : List LoopInstance) (spans : List Span) (parted_upto : AreParted positions.found.items closing instances spans (length closing)) (indexes : List ℕ) (placed : ArePlaced flow.places positions.listed.items order indexes) (moved : List NumberedEdge) (moves : AreMoved numbers_list edges moved (length edges)) where
    parted_spans : spans ≡ map (λ (x : Span × ℕ). x.0) closing
    parted_spans = parted_upto.spans_are ∙ ap (map (λ (x : Span × ℕ). x.0)) (take_all (length closing) closing (omega arith))

    abbrev tree : Tree
    tree = record { instances = map (found_instance loops.apart) instances; spans = spans; order = indexes; edges = moved; apart = loops.apart }

    -- ## Places

    place_is : (k : ℕ) → k ≤ exit → place_in flow tree k ≡ place_at positions.listed.items (get_or order k 0)
    place_is k le = ⊎_elim
        (λ (lt : k < exit). ap (place_at flow.places) (get_or_default indexes k exit 0 (omega (arith, placed.whole))) ∙ placed.each k lt)
        (λ (ge : exit ≤ k).
        let top : k ≡ exit = omega arith in
        let last : get_or indexes k exit ≡ exit = get_or_default indexes k exit 0 (omega (arith, placed.whole)) ∙ ap (λ (x : ℕ). get_or indexes x 0) top ∙ placed.exit_last in
        ap (place_at flow.places) last ∙ get_or_past flow.places exit Exit (omega arith)
        ∙ sym (ap (place_at positions.listed.items) (ap (λ (x : ℕ). get_or order x 0) top ∙ laid.exit_last) ∙ (numbers flow loops positions well_formed g).exit))
        (cases_lt k exit)

    -- ## Spans

    -- each of the pairs is an extent's
    source : (x : Span × ℕ) → Contains closing x → (s : Extent) × Contains extents s × (x.1 ≡ s.instance) × IsShown numbers_list s (get_or positions.found.items s.instance no_found).stated.bound x.0
    source x has =
        let k = Contains-permutation closing shown.turn x (IsPermutation-sym shown.turn closing shown.moved) has in
        let k_lt : k.0 < length extents = omega (arith, k.1, (shown.turn_is).same) in
        let s : Extent = extent_at extents k.0 in (
          s,
          Contains-get_or extents k.0 _ k_lt,
          ap (λ (y : Span × ℕ). y.1) (sym k.2) ∙ (shown.turn_is).named k.0 _ x k_lt,
          subst (λ (y : Span × ℕ). IsShown numbers_list s (get_or positions.found.items s.instance no_found).stated.bound y.0) k.2 ((shown.turn_is).shown k.0 _ no_found x k_lt),
        )

    -- each extent has a pair
    target : (s : Extent) → Contains extents s → (x : Span × ℕ) × Contains closing x × IsShown numbers_list s (get_or positions.found.items s.instance no_found).stated.bound x.0
    target s has =
        let x : Span × ℕ = get_or shown.turn has.0 no_numbered_span in
        let in_turn : Contains shown.turn x = Contains-get_or shown.turn has.0 no_numbered_span (omega (arith, has.1, (shown.turn_is).same)) in
        (x, Contains-permutation shown.turn closing x shown.moved in_turn, subst (λ (t : Extent). IsShown numbers_list t (get_or positions.found.items t.instance no_found).stated.bound x.0) has.2 ((shown.turn_is).shown has.0 s no_found no_numbered_span has.1))

    target_named : (s : Extent) (has : Contains extents s) → (target s has).0.1 ≡ s.instance
    unfolding target
    target_named s has = (shown.turn_is).named has.0 s no_numbered_span has.1 ∙ ap (λ (t : Extent). t.instance) has.2

    spans_len : length spans ≡ length closing
    spans_len = ap length parted_spans ∙ length-map closing (λ (x : Span × ℕ). x.0)

    span_at : (k : ℕ) (d : Span) → k < length closing → get_or spans k d ≡ (get_or closing k no_numbered_span).0
    span_at k d lt = ap (λ (xs : List Span). get_or xs k d) parted_spans ∙ get_or-map (λ (x : Span × ℕ). x.0) closing k no_numbered_span d lt

    span_source : (t : Span) → Contains spans t → (s : Extent) × Contains extents s × IsShown numbers_list s (get_or positions.found.items s.instance no_found).stated.bound t
    span_source t has =
        let k_lt : has.0 < length closing = omega (arith, has.1, spans_len) in
        let x = source (get_or closing has.0 no_numbered_span) (Contains-get_or closing has.0 no_numbered_span k_lt) in
        let at : (get_or closing has.0 no_numbered_span).0 ≡ t = sym (span_at has.0 t k_lt) ∙ has.2 in
        (x.0, x.1, subst (λ (u : Span). IsShown numbers_list x.0 (get_or positions.found.items (x.0).instance no_found).stated.bound u) at x.3)

    span_target : (s : Extent) → Contains extents s → (t : Span) × Contains spans t × IsShown numbers_list s (get_or positions.found.items s.instance no_found).stated.bound t
    span_target s has =
        let x = target s has in
        let k_lt : (x.1).0 < length closing = (x.1).1 in
        let at : get_or closing (x.1).0 no_numbered_span ≡ x.0 = get_or_default closing (x.1).0 no_numbered_span x.0 k_lt ∙ (x.1).2 in
        ((x.0).0, ((x.1).0, omega (arith, spans_len), span_at (x.1).0 (x.0).0 k_lt ∙ ap (λ (y : Span × ℕ). y.0) at), x.2)

    holds : (s : Extent) (has : Contains extents s) (bound : ℕ) (t : Span) → IsShown numbers_list s bound t → (k : ℕ) → k ≤ exit → is_in t k ≡ is_within s (get_or order k 0)
    holds s has bound t is k le = span_holds edges positions.entry exit extents rank order numbers_list plan s has bound t is k le

    order_upto : (m : ℕ) → m ≤ exit → get_or order m 0 ≤ exit
    order_upto m le = ⊎_elim
        (λ (lt : m < exit). let h = laid.inside m lt in omega arith)
        (λ (ge : exit ≤ m). let top : m ≡ exit = omega arith in let at : get_or order m 0 ≡ exit = ap (λ (x : ℕ). get_or order x 0) top ∙ laid.exit_last in omega arith)
        (cases_lt m exit)

    spans_are : AreSpansOf flow tree
    spans_are = record {
      same = spans_len ∙ sym parted_upto.same ∙ sym (length-map instances (found_instance loops.apart));
      each = λ k i t lt.
          let k_in : k < length instances = omega (arith, length-map instances (found_instance loops.apart)) in
          let k_lt : k < length closing = omega (arith, parted_upto.same) in
          let x = source (get_or closing k no_numbered_span) (Contains-get_or closing k no_numbered_span k_lt) in
          let s : Extent = x.0 in
          let named : get_or (map (found_instance loops.apart) instances) k i ≡ found_instance loops.apart (get_or positions.found.items s.instance no_found) =
          get_or-map (found_instance loops.apart) instances k no_found i k_in ∙ ap (found_instance loops.apart) (parted_upto.named k no_found no_numbered_span k_lt ∙ ap (λ (m : ℕ). get_or positions.found.items m no_found) x.2) in
          rw (named, span_at k t k_lt) (record {
            members = λ m le.
                let p_in : get_or order m 0 ≤ exit = order_upto m le in
                ap (is_member (found_instance loops.apart (get_or positions.found.items s.instance no_found))) (place_is m le) ∙ member flow loops positions well_formed g s x.1 (get_or order m 0) p_in ∙ sym (holds s x.1 _ _ x.3 m le);
            headers = λ m le.
                let p_in : get_or order m 0 ≤ exit = order_upto m le in
                ap (is_header (found_instance loops.apart (get_or positions.found.items s.instance no_found))) (place_is m le) ∙ header flow loops positions well_formed g s x.1 (get_or order m 0) p_in ∙ span_header edges positions.entry exit extents rank order numbers_list plan s x.1 _ _ x.3 m le;
            bound = (x.3).bound_is;
          });
    }

    -- ## Edges

    new_upto : (p : ℕ) → p ≤ exit → get_or numbers_list p 0 ≤ exit
    new_upto p le = ⊎_elim
        (λ (lt : p < exit). let h = back_of p lt in omega (arith, h.0))
        (λ (ge : exit ≤ p). let top : p ≡ exit = omega arith in let at : get_or numbers_list p 0 ≡ exit = ap (λ (x : ℕ). get_or numbers_list x 0) top ∙ number_exit edges positions.entry exit extents rank order numbers_list plan in omega arith)
        (cases_lt p exit)

    order_new : (p : ℕ) → p ≤ exit → get_or order (get_or numbers_list p 0) 0 ≡ p
    order_new p le = ⊎_elim
        (λ (lt : p < exit). (back_of p lt).1)
        (λ (ge : exit ≤ p).
        let top : p ≡ exit = omega arith in
        ap (λ (x : ℕ). get_or order (get_or numbers_list x 0) 0) top ∙ ap (λ (x : ℕ). get_or order x 0) (number_exit edges positions.entry exit extents rank order numbers_list plan) ∙ laid.exit_last ∙ sym top)
        (cases_lt p exit)

    moved_from : (e : NumberedEdge) → Contains moved e → (d : NumberedEdge) × Contains edges d × (e.from ≡ get_or numbers_list d.from 0) × (e.to ≡ get_or numbers_list d.to 0)
    moved_from e has =
        let k_lt : has.0 < length edges = omega (arith, has.1, moves.same) in
        let d : NumberedEdge = get_or edges has.0 e in
        let m = moves.each has.0 e e k_lt in
        (d, Contains-get_or edges has.0 e k_lt, ap (λ (x : NumberedEdge). x.from) (sym has.2) ∙ m.from_is, ap (λ (x : NumberedEdge). x.to) (sym has.2) ∙ m.to_is)

    moved_to : (d : NumberedEdge) → Contains edges d → (e : NumberedEdge) × Contains moved e × (e.from ≡ get_or numbers_list d.from 0) × (e.to ≡ get_or numbers_list d.to 0)
    moved_to d has =
        let e : NumberedEdge = get_or moved has.0 d in
        let m = moves.each has.0 d d has.1 in
        (e, Contains-get_or moved has.0 d (omega (arith, has.1, moves.same)), m.from_is ∙ ap (λ (x : NumberedEdge). get_or numbers_list x.from 0) has.2, m.to_is ∙ ap (λ (x : NumberedEdge). get_or numbers_list x.to 0) has.2)

    edges_numbered : IsNumbered flow (place_in flow tree) moved
    edges_numbered = record {
      same = moves.same ∙ (g.numbered).same;
      each = λ k e m lt.
          let k_lt : k < length edges = omega (arith, (g.numbered).same) in
          let old = (g.numbered).each k e m lt in
          let mv = moves.each k m m k_lt in
          let from_lt : (get_or edges k m).from < exit = old.from_in in
          let from_new = back_of (get_or edges k m).from old.from_in in
          let new_from_lt : get_or numbers_list (get_or edges k m).from 0 < exit = from_new.0 in
          let to_up = new_upto (get_or edges k m).to old.to_in in
          record {
            from_is = ap (place_in flow tree) mv.from_is ∙ place_is (get_or numbers_list (get_or edges k m).from 0) (omega arith) ∙ ap (place_at positions.listed.items) from_new.1 ∙ old.from_is;
            to_is = ap (place_in flow tree) mv.to_is ∙ place_is (get_or numbers_list (get_or edges k m).to 0) to_up ∙ ap (place_at positions.listed.items) (order_new (get_or edges k m).to old.to_in) ∙ old.to_is;
            cost_is = mv.cost_is ∙ old.cost_is;
            from_in = omega (arith, mv.from_is);
            to_in = omega (arith, mv.to_is, to_up);
          };
    }

    -- ## What holds of the numbers

    some : 0 < exit
    some = omega (arith, entry_in flow loops positions well_formed g)

    moved_places : (e : NumberedEdge) → Contains moved e → (e.from < exit) × (e.to ≤ exit)
    moved_places e has =
        let d = moved_from e has in
        let at = edges_are flow loops positions well_formed g d.0 d.1 in
        (omega (arith, d.2, (back_of (d.0).from at.0).0), omega (arith, d.3, new_upto (d.0).to at.1))

    up : (e : NumberedEdge) → Contains moved e → GoesUpOrBack spans e
    up e has =
        let d = moved_from e has in
        let at = edges_are flow loops positions well_formed g d.0 d.1 in
        let from_lt : (d.0).from < exit = at.0 in
        ⊎_elim
        (λ back.
        let s : Extent = back.0 in
        let t = span_target s back.1 in
        let parts = back_parts d.0 s back.2 in
        let from_new = back_of (d.0).from from_lt in
        let new_lt : get_or numbers_list (d.0).from 0 < exit = from_new.0 in
        inr (t.0, t.1, ap (is_in t.0) d.2 ∙ holds s back.1 _ t.0 t.2 (get_or numbers_list (d.0).from 0) (omega arith) ∙ ap (is_within s) from_new.1 ∙ parts.1, d.3 ∙ ap (λ (x : ℕ). get_or numbers_list x 0) parts.0 ∙ sym (t.2).header_is))
        (λ forward_. inl (omega (arith, d.2, d.3, goes_up edges positions.entry exit extents rank order numbers_list plan d.0 d.1 forward_)))
        (is_back_any extents d.0)

    -- a place but the entry is entered by an edge that goes up
    up_to : (p : ℕ) → p < exit → (p ≡ positions.entry → ⊥) → (d : NumberedEdge) × Contains edges d × (d.to ≡ p) × (get_or numbers_list d.from 0 < get_or numbers_list p 0)
    up_to p lt differ = ⊎_elim
        (λ is. absurd (differ (sym is)))
        (λ f. (f.edge, f.in_graph, f.to_is, subst (λ (x : ℕ). get_or numbers_list f.edge.from 0 < get_or numbers_list x 0) f.to_is (goes_up edges positions.entry exit extents rank order numbers_list plan f.edge f.in_graph f.no_back)))
        (forward edges positions.entry exit extents rank order numbers_list plan p lt)

    entry_first : get_or order 0 0 ≡ positions.entry
    entry_first =
        let p : ℕ = get_or order 0 0 in
        let p_lt : p < exit = laid.inside 0 some in
        ⊎_elim
        (λ (same : p ≡ positions.entry). same)
        (λ (differ : p ≡ positions.entry → ⊥).
        let u = up_to p p_lt differ in
        let zero_is : get_or numbers_list p 0 ≡ 0 = number_of edges positions.entry exit extents rank order numbers_list plan 0 (omega (arith, some)) in
        absurd (omega (arith, u.3)))
        (cases_eq p positions.entry)

    entered_up : (k : ℕ) → 0 < k → k < exit → IsEnteredUp moved k
    entered_up k positive lt =
        let p : ℕ = get_or order k 0 in
        let p_lt : p < exit = laid.inside k lt in
        let k_is : get_or numbers_list p 0 ≡ k = number_of edges positions.entry exit extents rank order numbers_list plan k (omega arith) in
        let differ : p ≡ positions.entry → ⊥ = λ same. laid.once 0 k positive (omega (arith, laid.whole)) (entry_first ∙ sym same) in
        let u = up_to p p_lt differ in
        let e = moved_to u.0 u.1 in
        (e.0, e.1, e.3 ∙ ap (λ (x : ℕ). get_or numbers_list x 0) u.2 ∙ k_is, omega (arith, e.2, u.3))

    shape : (t : Span) → Contains spans t → (t.header ≤ t.last) × (t.last < exit) × (t.bound ≤ MOST_ROUNDS)
    shape t has =
        let s = span_source t has in
        let sh = span_shape edges positions.entry exit extents rank order numbers_list plan s.0 s.1 _ t s.2 in
        let l = g.bounded (s.0).instance no_found ((g.extents_of).named s.0 s.1) in
        (sh.0, sh.1, omega (arith, (s.2).bound_is, l.bound_small))

    closing_len : length closing ≡ length extents
    closing_len = length_permutation shown.turn closing shown.moved ∙ (shown.turn_is).same

    -- the pairs are each another extent's
    pairs_once : (i j : ℕ) (d : Span × ℕ) → i < length closing → j < length closing → (get_or closing i d).1 ≡ (get_or closing j d).1 → i ≡ j
    pairs_once = numbers_once (λ (x : Span × ℕ). x.1) shown.turn closing shown.moved
        (λ i j d ilt jlt same.
        let i_in : i < length extents = omega (arith, (shown.turn_is).same) in
        let j_in : j < length extents = omega (arith, (shown.turn_is).same) in
        let none : Extent = record { first = 0; end = 0; header = 0; instance = 0 } in
        (g.extents_of).once i j none i_in j_in (sym ((shown.turn_is).named i none d i_in) ∙ same ∙ (shown.turn_is).named j none d j_in))

    headers_differ : AllPairs (λ (s : Span) (t : Span). s.header ≢ t.header) spans
    headers_differ j k d less lt same =
        let k_lt : k < length closing = omega (arith, spans_len) in
        let j_lt : j < length closing = omega arith in
        let x = source (get_or closing j no_numbered_span) (Contains-get_or closing j no_numbered_span j_lt) in
        let y = source (get_or closing k no_numbered_span) (Contains-get_or closing k no_numbered_span k_lt) in
        let x_in : (x.0).header < exit = plan.header_in x.0 x.1 in
        let y_in : (y.0).header < exit = plan.header_in y.0 y.1 in
        let news : get_or numbers_list (x.0).header 0 ≡ get_or numbers_list (y.0).header 0 = sym (x.3).header_is ∙ ap (λ (s : Span). s.header) (sym (span_at j d j_lt)) ∙ same ∙ ap (λ (s : Span). s.header) (span_at k d k_lt) ∙ (y.3).header_is in
        let heads : (x.0).header ≡ (y.0).header = sym (back_of (x.0).header x_in).1 ∙ ap (λ (m : ℕ). get_or order m 0) news ∙ (back_of (y.0).header y_in).1 in
        let one : x.0 ≡ y.0 = plan.apart x.0 y.0 x.1 y.1 heads in
        let index : j ≡ k = pairs_once j k no_numbered_span j_lt k_lt (x.2 ∙ ap (λ (s : Extent). s.instance) one ∙ sym y.2) in
        omega arith

    closes : AllPairs ClosesBefore spans
    closes j k d less lt =
        let k_lt : k < length closing = omega (arith, spans_len) in
        let j_lt : j < length closing = omega arith in
        let x : Span × ℕ = get_or closing j no_numbered_span in
        let y : Span × ℕ = get_or closing k no_numbered_span in
        let far = then_order y.0.last x.0.last x.0.header y.0.header (sorted_far opens_after closing_ranks closing shown.sorted j k no_numbered_span (omega arith) k_lt) in
        rw (span_at j d j_lt, span_at k d k_lt) (⊎_elim
        (λ before. inl before)
        (λ tie. inr (sym tie.0, strict x.0.header y.0.header tie.1 (λ same. headers_differ j k d less lt (ap (λ (s : Span). s.header) (span_at j d j_lt) ∙ same ∙ ap (λ (s : Span). s.header) (sym (span_at k d k_lt))))))
        far)

    in_range : (t : Span) (has : Contains spans t) (k : ℕ) → is_in t k ≡ true → k < exit
    in_range t has k inside = omega (arith, (shape t has).1, member_last t k inside)

    nested : (s t : Span) → Contains spans s → Contains spans t → (k : ℕ) → is_in s k ≡ true → is_in t k ≡ true → HoldsAll t s ⊎ HoldsAll s t
    nested s t s_has t_has k in_s in_t =
        let x = span_source s s_has in
        let y = span_source t t_has in
        let k_lt : k < exit = in_range s s_has k in_s in
        let p : ℕ = get_or order k 0 in
        let p_x : is_within x.0 p ≡ true = sym (holds x.0 x.1 _ s x.2 k (omega arith)) ∙ in_s in
        let p_y : is_within y.0 p ≡ true = sym (holds y.0 y.1 _ t y.2 k (omega arith)) ∙ in_t in
        let lift : (a b : Span) (a_has : Contains spans a) (u : Extent) (u_has : Contains extents u) (v : Extent) (v_has : Contains extents v) (bound other : ℕ) → IsShown numbers_list u bound a → IsShown numbers_list v other b → ((q : ℕ) → is_within u q ≡ true → is_within v q ≡ true) → HoldsAll b a =
        λ a b a_has u u_has v v_has bound other u_is v_is inner m in_a.
        let m_lt : m < exit = in_range a a_has m in_a in
        holds v v_has other b v_is m (omega arith) ∙ inner (get_or order m 0) (sym (holds u u_has bound a u_is m (omega arith)) ∙ in_a) in
        let x_at : get_or extents (x.1).0 x.0 ≡ x.0 = (x.1).2 in
        ⊎_elim
        (λ (same : (x.1).0 ≡ (y.1).0).
        let one : x.0 ≡ y.0 = sym (x.1).2 ∙ get_or_default extents (x.1).0 x.0 y.0 (x.1).1 ∙ ap (λ (m : ℕ). get_or extents m y.0) same ∙ (y.1).2 in
        inl (lift s t s_has x.0 x.1 y.0 y.1 _ _ x.2 y.2 (λ q h. subst (λ (u : Extent). is_within u q ≡ true) one h)))
        (λ (differ : (x.1).0 ≡ (y.1).0 → ⊥). ⊎_elim
        (λ (less : (x.1).0 < (y.1).0).
        let later = plan.later (x.1).0 (y.1).0 x.0 less (y.1).1 in
        let y_at : get_or extents (y.1).0 x.0 ≡ y.0 = get_or_default extents (y.1).0 x.0 y.0 (y.1).1 ∙ (y.1).2 in
        inr (lift t s t_has y.0 y.1 x.0 x.1 _ _ y.2 x.2 (λ q h.
        subst (λ (u : Extent). is_within u q ≡ true) (x.1).2 (later p (subst (λ (u : Extent). is_within u p ≡ true) (sym (x.1).2) p_x) (subst (λ (u : Extent). is_within u p ≡ true) (sym y_at) p_y) q (subst (λ (u : Extent). is_within u q ≡ true) (sym y_at) h)))))
        (λ (ge : (y.1).0 ≤ (x.1).0).
        let later = plan.later (y.1).0 (x.1).0 y.0 (omega arith) (x.1).1 in
        let x_at : get_or extents (x.1).0 y.0 ≡ x.0 = get_or_default extents (x.1).0 y.0 x.0 (x.1).1 ∙ (x.1).2 in
        inl (lift s t s_has x.0 x.1 y.0 y.1 _ _ x.2 y.2 (λ q h.
        subst (λ (u : Extent). is_within u q ≡ true) (y.1).2 (later p (subst (λ (u : Extent). is_within u p ≡ true) (sym (y.1).2) p_y) (subst (λ (u : Extent). is_within u p ≡ true) (sym x_at) p_x) q (subst (λ (u : Extent). is_within u q ≡ true) (sym x_at) h)))))
        (cases_lt (x.1).0 (y.1).0))
        (cases_eq (x.1).0 (y.1).0)

    entered : (e : NumberedEdge) → Contains moved e → (t : Span) → Contains spans t → is_in t e.from ≡ false → is_in t e.to ≡ true → e.to ≡ t.header
    entered e has t t_has out inside =
        let d = moved_from e has in
        let s = span_source t t_has in
        let at = edges_are flow loops positions well_formed g d.0 d.1 in
        let from_new = back_of (d.0).from at.0 in
        let from_le : e.from ≤ exit = omega (arith, (moved_places e has).0) in
        let to_le : e.to ≤ exit = (moved_places e has).1 in
        let from_out : is_within s.0 (d.0).from ≡ false = ap (is_within s.0) (sym (ap (λ (m : ℕ). get_or order m 0) d.2 ∙ from_new.1)) ∙ sym (holds s.0 s.1 _ t s.2 e.from from_le) ∙ out in
        let to_in : is_within s.0 (d.0).to ≡ true = ap (is_within s.0) (sym (ap (λ (m : ℕ). get_or order m 0) d.3 ∙ order_new (d.0).to at.1)) ∙ sym (holds s.0 s.1 _ t s.2 e.to to_le) ∙ inside in
        d.3 ∙ ap (λ (x : ℕ). get_or numbers_list x 0) ((plan.entered).entered d.0 d.1 s.0 s.1 from_out to_in) ∙ sym (s.2).header_is

    entry_at_header : (t : Span) → Contains spans t → is_in t 0 ≡ true → 0 ≡ t.header
    entry_at_header t t_has inside =
        let s = span_source t t_has in
        let at : is_within s.0 positions.entry ≡ true = ap (is_within s.0) (sym entry_first) ∙ sym (holds s.0 s.1 _ t s.2 0 (omega arith)) ∙ inside in
        let zero_is : get_or numbers_list positions.entry 0 ≡ 0 = ap (λ (x : ℕ). get_or numbers_list x 0) (sym entry_first) ∙ number_of edges positions.entry exit extents rank order numbers_list plan 0 (omega arith) in
        sym zero_is ∙ ap (λ (x : ℕ). get_or numbers_list x 0) ((plan.entered).entry_at_header s.0 s.1 at) ∙ sym (s.2).header_is

    shallow : (k : ℕ) → count_by (λ (t : Span). is_in t k) spans ≤ MOST_INSTANCES
    shallow k = ⊎_elim
        (λ (lt : k < exit).
        let p : ℕ = get_or order k 0 in
        let a : count_by (λ (t : Span). is_in t k) spans ≡ count_by (λ (x : Span × ℕ). is_in x.0 k) closing = ap (count_by (λ (t : Span). is_in t k)) parted_spans ∙ count_map (λ (t : Span). is_in t k) (λ (x : Span × ℕ). x.0) closing in
        let b : count_by (λ (x : Span × ℕ). is_in x.0 k) closing ≡ count_by (λ (x : Span × ℕ). is_in x.0 k) shown.turn = sum_by-IsPermutation (λ (x : Span × ℕ). cond {A = ℕ} (is_in x.0 k) 1 0) shown.turn closing shown.moved in
        let c : count_by (λ (x : Span × ℕ). is_in x.0 k) shown.turn ≡ depth_at extents p = count_same (λ (x : Span × ℕ). is_in x.0 k) (λ (s : Extent). is_within s p) shown.turn extents (shown.turn_is).same
        (λ m x s m_lt.
        let m_in : m < length extents = omega (arith, (shown.turn_is).same) in
        holds (get_or extents m s) (Contains-get_or extents m s m_in) _ (get_or shown.turn m x).0 ((shown.turn_is).shown m s no_found x m_in) k (omega arith)) in
        omega (arith, a, b, c, n.shallow p))
        (λ (ge : exit ≤ k).
        let none : count_by (λ (t : Span). is_in t k) spans ≡ 0 = count_none (λ (t : Span). is_in t k) spans (λ m d m_lt. false_from_ne_true (is_in (get_or spans m d) k) (λ h. let r : k < exit = in_range (get_or spans m d) (Contains-get_or spans m d m_lt) k h in omega arith)) in
        omega arith)
        (cases_lt k exit)

    ordered : IsOrdered exit moved spans
    ordered = record {
      some = some;
      places = moved_places;
      goes_up = up;
      entered_up = entered_up;
      shape = shape;
      headers_differ = headers_differ;
      closing = closes;
      nested = nested;
      entered = entered;
      entry_at_header = entry_at_header;
      shallow = shallow;
    }

    -- ## The tree

    pub whole_tree : IsTree flow tree
    whole_tree =
        let lists = numbers flow loops positions well_formed g in
        record {
          whole = placed.whole;
          entry_first = place_is 0 (omega arith) ∙ ap (place_at positions.listed.items) entry_first ∙ g.entry_is;
          exit_last = placed.exit_last;
          inside = placed.inside;
          all = λ v lt.
              let p = lists.number (place_at flow.places v) (Contains-get_or flow.places v Exit lt) in
              let b = back_of p.0 p.1 in
              let m : ℕ = get_or numbers_list p.0 0 in
              (m, b.0, places_once flow.places well_formed.ordered (get_or indexes m 0) v Exit (placed.inside m b.0) lt (placed.each m b.0 ∙ ap (place_at positions.listed.items) b.1 ∙ p.2));
          distinct = λ a b less lt same. ⊎_elim
              (λ (below : b < exit).
              let one : get_or order a 0 ≡ get_or order b 0 = lists.once (get_or order a 0) (get_or order b 0) (laid.inside a (omega arith)) (laid.inside b below) (sym (placed.each a (omega arith)) ∙ ap (place_at flow.places) same ∙ placed.each b below) in
              laid.once a b less (omega (arith, laid.whole)) one)
              (λ (ge : exit ≤ b).
              let top : b ≡ exit = omega (arith, placed.whole) in
              let low : get_or indexes a 0 < exit = placed.inside a (omega arith) in
              let high : get_or indexes b 0 ≡ exit = ap (λ (x : ℕ). get_or indexes x 0) top ∙ placed.exit_last in
              omega arith)
              (cases_lt b exit);
          numbered = edges_numbered;
          spans_are = spans_are;
          ordered = ordered;
        }

    -- the instances are those that were found
    pub tree_instances : (i : Instance) → Contains (map (found_instance loops.apart) instances) i ↔ Contains (map (found_instance loops.apart) positions.found.items) i
    tree_instances i = (
      (λ has.
          let k_in : has.0 < length instances = omega (arith, has.1, length-map instances (found_instance loops.apart)) in
          let k_lt : has.0 < length closing = omega (arith, parted_upto.same) in
          let x = source (get_or closing has.0 no_numbered_span) (Contains-get_or closing has.0 no_numbered_span k_lt) in
          let named : get_or instances has.0 no_found ≡ get_or positions.found.items (x.0).instance no_found = parted_upto.named has.0 no_found no_numbered_span k_lt ∙ ap (λ (m : ℕ). get_or positions.found.items m no_found) x.2 in
          let is : found_instance loops.apart (get_or positions.found.items (x.0).instance no_found) ≡ i = ap (found_instance loops.apart) (sym named) ∙ sym (get_or-map (found_instance loops.apart) instances has.0 no_found i k_in) ∙ has.2 in
          let m_in = (g.extents_of).named x.0 x.1 in
          ((x.0).instance, omega (arith, m_in, length-map positions.found.items (found_instance loops.apart)), get_or-map (found_instance loops.apart) positions.found.items (x.0).instance no_found i m_in ∙ is)),
      (λ has.
          let k_in : has.0 < length positions.found.items = omega (arith, has.1, length-map positions.found.items (found_instance loops.apart)) in
          let s = (g.extents_of).all has.0 k_in in
          let x = target s.0 s.1 in
          let m_lt : (x.1).0 < length closing = (x.1).1 in
          let y = source x.0 x.1 in
          let m_in : (x.1).0 < length instances = omega (arith, parted_upto.same) in
          let second : (get_or closing (x.1).0 no_numbered_span).1 ≡ has.0 = ap (λ (z : Span × ℕ). z.1) (get_or_default closing (x.1).0 no_numbered_span x.0 m_lt ∙ (x.1).2) ∙ target_named s.0 s.1 ∙ s.2 in
          ((x.1).0, omega (arith, length-map instances (found_instance loops.apart)), get_or-map (found_instance loops.apart) instances (x.1).0 no_found i m_in ∙ ap (found_instance loops.apart) (parted_upto.named (x.1).0 no_found no_numbered_span m_lt ∙ ap (λ (m : ℕ). get_or positions.found.items m no_found) second) ∙ sym (get_or-map (found_instance loops.apart) positions.found.items has.0 no_found i k_in) ∙ has.2)),
    )

-- ## What the functions ask for

module _ (flow : Flow) (loops : StatedLoops) (positions : HandlerPositions) (well_formed : IsWellFormed flow) (g : AreHandlerPositions flow loops positions) (numbers_list : List ℕ) (long : length numbers_list ≡ length flow.places + 1) where
  pub ends_inside : All (λ (s : Extent). s.end ≤ length numbers_list) positions.extents.items
  ends_inside k d lt = omega (arith, within_exit flow loops positions well_formed g (get_or positions.extents.items k d) (Contains-get_or positions.extents.items k d lt))

  pub headers_inside : All (λ (s : Extent). s.header < length numbers_list) positions.extents.items
  headers_inside k d lt = omega (arith, header_in flow loops positions well_formed g (get_or positions.extents.items k d) (Contains-get_or positions.extents.items k d lt))

  pub instances_named : All (λ (s : Extent). s.instance < length positions.found.items) positions.extents.items
  instances_named k d lt = (g.extents_of).named (get_or positions.extents.items k d) (Contains-get_or positions.extents.items k d lt)

  pub edges_inside : All (λ (e : NumberedEdge). (e.from < length numbers_list) × (e.to < length numbers_list)) positions.edges.items
  edges_inside k d lt =
      let e = edges_are flow loops positions well_formed g (get_or positions.edges.items k d) (Contains-get_or positions.edges.items k d lt) in
      (omega (arith, e.0), omega (arith, e.1))

pub extents_some : (flow : Flow) (loops : StatedLoops) (positions : HandlerPositions) → AreHandlerPositions flow loops positions → All (λ (s : Extent). s.first < s.end) positions.extents.items
extents_some flow loops positions g k d lt = subst (λ (s : Extent). s.first < s.end) (get_or_default positions.extents.items k _ d lt) ((g.extents_are).some k lt)

pub pairs_named : (numbers_list : List ℕ) (found : List LoopInstance) (extents : List Extent) (closing : List (Span × ℕ)) → AreShown numbers_list found extents closing → All (λ (s : Extent). s.instance < length found) extents → All (λ (x : Span × ℕ). x.1 < length found) closing
pairs_named numbers_list found extents closing shown named k d lt =
    let x : Span × ℕ = get_or closing k d in
    let h = Contains-permutation closing shown.turn x (IsPermutation-sym shown.turn closing shown.moved) (Contains-get_or closing k d lt) in
    let h_lt : h.0 < length extents = omega (arith, h.1, (shown.turn_is).same) in
    let is : x.1 ≡ (extent_at extents h.0).instance = ap (λ (y : Span × ℕ). y.1) (sym h.2) ∙ (shown.turn_is).named h.0 _ x h_lt in
    let inside : (extent_at extents h.0).instance < length found = named h.0 _ h_lt in
    omega arith
