-- The order of positions by key, and the numbers that it assigns to edges and extents.
use Rattle.std.proofs.Common.{◌≡◌, ℕ, ◌+◌, ◌-◌, ◌<◌, ◌≤◌, List, [], ◌∷◌, ◌++◌, Option, Some, None, IfSome, length, map, get_or, set, take, drop, sym, refl, ap, ◌∙◌, ⊎_elim, arith, length-append}
use Rattle.std.specs.Prelude.{Contains, MatchOption, EachIndex}
use Rattle.std.specs.Option.{unwrap_or}
use Rattle.std.proofs.lemmas.Bool.{cases_eq, cases_lt}
use Rattle.std.proofs.lemmas.List.{get_or_default, get_or_append_left, get_or-set_same, get_or-set_other, length-set, get_or-take, get_or-drop, length-drop, length-take-le, take_more, map_push}
use Rattle.std.proofs.Math.Seq.{get_or-append_seam}
use Rattle.std.specs.Cmp.{IsStrictWeakOrder}
use Rattle.std.specs.Ordering.{is_lt}
use Rattle.std.specs.List.Sorted.{IsPermutation, IsSortedBy}
use Rattle.std.proofs.lemmas.Cmp.{nat_list_cmp_total}
use Rattle.std.proofs.lemmas.List.Elements.{Contains-get_or}
use Rattle.std.proofs.lemmas.List.Sorted.{ranks_by, sorted_far, Contains-permutation, IsPermutation-sym, length_permutation}
use Rattle.loop_bounds.specs.declared.extents.Extent.{Extent}
use Rattle.loop_bounds.specs.declared.layout.Keyed.{Keyed}
use Rattle.numbered_walks.specs.declared.span.NumberedEdge.{NumberedEdge}
use Rattle.loop_bounds.specs.declared.loop_instances.LoopInstance.{LoopInstance}
use Rattle.numbered_walks.specs.declared.span.Span.{Span}
use Rattle.numbered_walks.proofs.Members.{no_numbered_edge, no_span}
use Rattle.loop_bounds.specs.Extents.{extent_at}
use Rattle.loop_bounds.specs.Keys.{is_before}
use Rattle.loop_bounds.specs.Layout.{AreIndexes, AreKeyed, AreMoved, AreNumbers, AreParted, ArePlaced, ArePositions, AreSpans, IsLaidOut, IsShown, by_keys, kept_key}
use Rattle.loop_bounds.proofs.KeyLemmas.{before_is}
use Rattle.loop_bounds.proofs.Moved.{IsOnce, once_moved, some_of}
use Rattle.control_flow.specs.declared.places.Place.{Place}
use Rattle.control_flow.specs.Places.{place_at}

-- ## Numbers

pub numbers_more : (order numbers : List ℕ) (k v : ℕ) → AreNumbers order numbers k → k < length order → v ≡ get_or order k 0 → v < length order → ((i j : ℕ) → i < j → j < length order → get_or order i 0 ≡ get_or order j 0 → ⊥) → AreNumbers order (set numbers v k) (k + 1)
numbers_more order numbers k v so_far lt is inside once = record {
  whole = length-set numbers v k ∙ so_far.whole;
  each = λ j below. ⊎_elim
      (λ (same : j ≡ k).
      let at : get_or order j 0 ≡ v = ap (λ (x : ℕ). get_or order x 0) same ∙ sym is in
      rw (at, get_or-set_same numbers v k 0 (omega (arith, so_far.whole))) (sym same))
      (λ (differ : j ≡ k → ⊥).
      rw (get_or-set_other numbers v (get_or order j 0) k 0 (λ e. once j k (omega arith) lt (e ∙ is))) (so_far.each j (omega arith)))
      (cases_eq j k);
}

-- ## Edges

abbrev pub moved_edge : List ℕ → NumberedEdge → NumberedEdge
moved_edge numbers e = record { from = get_or numbers e.from 0; to = get_or numbers e.to 0; cost = e.cost }

pub moved_more : (numbers : List ℕ) (edges moved : List NumberedEdge) (i : ℕ) → AreMoved numbers edges moved i → i < length edges → AreMoved numbers edges (moved ++ moved_edge numbers (get_or edges i no_numbered_edge) ∷ []) (i + 1)
moved_more numbers edges moved i so_far lt =
    let new : NumberedEdge = moved_edge numbers (get_or edges i no_numbered_edge) in
    let same : length moved ≡ i = so_far.same in
    record {
      same = length-append moved (new ∷ []) ∙ ap (λ (x : ℕ). x + 1) same;
      each = λ k e n below. ⊎_elim
          (λ (here : k ≡ i).
          let old_is : get_or edges k e ≡ get_or edges i no_numbered_edge = ap (λ (x : ℕ). get_or edges x e) here ∙ get_or_default edges i e no_numbered_edge lt in
          let new_is : get_or (moved ++ new ∷ []) k n ≡ new = ap (λ (x : ℕ). get_or (moved ++ new ∷ []) x n) (here ∙ sym same) ∙ get_or-append_seam moved new [] n in
          rw (old_is, new_is) (record { from_is = refl; to_is = refl; cost_is = refl }))
          (λ (other : k ≡ i → ⊥). rw (get_or_append_left moved (new ∷ []) n k (omega arith)) (so_far.each k e n (omega arith)))
          (cases_eq k i);
    }

-- ## Keys with their positions

pub keyed_more : (key : ℕ → List ℕ) (chains : List (List ℕ)) (p : ℕ) (keyed : List Keyed) (new : Keyed) → AreKeyed key chains p keyed → kept_key chains new ≡ key p → new.position ≡ p → AreKeyed key chains (p + 1) (keyed ++ new ∷ [])
keyed_more key chains p keyed new so_far is at_p =
    let same : length keyed ≡ p = so_far.same in
    record {
      same = length-append keyed (new ∷ []) ∙ ap (λ (x : ℕ). x + 1) same;
      each = λ q d below. ⊎_elim
          (λ (here : q ≡ p).
          let at : get_or (keyed ++ new ∷ []) q d ≡ new = ap (λ (x : ℕ). get_or (keyed ++ new ∷ []) x d) (here ∙ sym same) ∙ get_or-append_seam keyed new [] d in
          (ap (kept_key chains) at ∙ is ∙ ap key (sym here), ap (λ (x : Keyed). x.position) at ∙ at_p ∙ sym here))
          (λ (other : q ≡ p → ⊥). rw (get_or_append_left keyed (new ∷ []) d q (omega arith)) (so_far.each q d (omega arith)))
          (cases_eq q p);
    }

pub positions_more : (keyed : List Keyed) (order : List ℕ) (i n : ℕ) → ArePositions keyed order i → ((d : Keyed) → n ≡ (get_or keyed i d).position) → ArePositions keyed (order ++ n ∷ []) (i + 1)
positions_more keyed order i n so_far is =
    let same : length order ≡ i = so_far.same in
    record {
      same = length-append order (n ∷ []) ∙ ap (λ (x : ℕ). x + 1) same;
      each = λ k d below. ⊎_elim
          (λ (here : k ≡ i). ap (λ (x : ℕ). get_or (order ++ n ∷ []) x 0) (here ∙ sym same) ∙ get_or-append_seam order n [] 0 ∙ is d ∙ ap (λ (x : ℕ). (get_or keyed x d).position) (sym here))
          (λ (other : k ≡ i → ⊥). get_or_append_left order (n ∷ []) 0 k (omega arith) ∙ so_far.each k d (omega arith))
          (cases_eq k i);
    }

pub keys_rank : (chains : List (List ℕ)) → IsStrictWeakOrder (λ j k. is_lt (by_keys chains j k))
keys_rank chains = ranks_by nat_list_cmp_total (kept_key chains)

module _ (key : ℕ → List ℕ) (chains : List (List ℕ)) (exit : ℕ) (keyed moved : List Keyed) (order : List ℕ) (keys : AreKeyed key chains exit keyed) (perm : IsPermutation keyed moved) (sorted : IsSortedBy (λ j k. is_lt (by_keys chains j k)) moved) (positions : ArePositions moved order (length moved)) where
  len : length moved ≡ exit
  len = length_permutation keyed moved perm ∙ keys.same

  order_len : length order ≡ exit
  order_len = positions.same ∙ len

  -- each is at its position in the one list
  home : (n : ℕ) (d : Keyed) → n < exit → ((get_or moved n d).position < exit) × (get_or keyed (get_or moved n d).position (get_or moved n d) ≡ get_or moved n d) × (kept_key chains (get_or moved n d) ≡ key (get_or moved n d).position)
  home n d lt =
      let x : Keyed = get_or moved n d in
      let has = Contains-permutation moved keyed x (IsPermutation-sym keyed moved perm) (Contains-get_or moved n d (omega (arith, len))) in
      let k_lt : has.0 < exit = omega (arith, has.1, keys.same) in
      let at = keys.each has.0 x k_lt in
      let second : x.position ≡ has.0 = ap (λ (y : Keyed). y.position) (sym has.2) ∙ at.1 in
      (omega arith, ap (λ (k : ℕ). get_or keyed k x) second ∙ has.2, ap (kept_key chains) (sym has.2) ∙ at.0 ∙ ap key (sym second))

  keyed_once : IsOnce keyed
  keyed_once i j d ilt jlt same = sym (keys.each i d (omega (arith, keys.same))).1 ∙ ap (λ (x : Keyed). x.position) same ∙ (keys.each j d (omega (arith, keys.same))).1

  second_is : (n : ℕ) (d : Keyed) → n < exit → get_or order n 0 ≡ (get_or moved n d).position
  second_is n d lt = positions.each n d (omega (arith, len))

  pair : (n : ℕ) → n < exit → Keyed
  pair n lt = some_of moved (omega (arith, len))

  order_in : (n : ℕ) → n < exit → get_or order n 0 < exit
  order_in n lt = let h = home n (pair n lt) lt in omega (arith, h.0, second_is n (pair n lt) lt)

  pub laid_out : IsLaidOut key exit (order ++ exit ∷ [])
  laid_out =
      let old : (n : ℕ) → n < exit → get_or (order ++ exit ∷ []) n 0 ≡ get_or order n 0 = λ n lt. get_or_append_left order (exit ∷ []) 0 n (omega (arith, order_len)) in
      let last : get_or (order ++ exit ∷ []) exit 0 ≡ exit = ap (λ (x : ℕ). get_or (order ++ exit ∷ []) x 0) (sym order_len) ∙ get_or-append_seam order exit [] 0 in
      let whole : length (order ++ exit ∷ []) ≡ exit + 1 = length-append order (exit ∷ []) ∙ ap (λ (x : ℕ). x + 1) order_len in
      record {
        whole = whole;
        exit_last = last;
        inside = λ n lt. rw (old n lt) (order_in n lt);
        all = λ p lt.
            let d : Keyed = pair p lt in
            let x : Keyed = get_or keyed p d in
            let has = Contains-permutation keyed moved x perm (Contains-get_or keyed p d (omega (arith, keys.same))) in
            let n_lt : has.0 < exit = omega (arith, has.1, len) in
            (has.0, n_lt, old has.0 n_lt ∙ second_is has.0 x n_lt ∙ ap (λ (y : Keyed). y.position) has.2 ∙ (keys.each p d lt).1);
        once = λ m n less lt same. ⊎_elim
            (λ (below : n < exit).
            let d : Keyed = pair n below in
            let hm = home m d (omega arith) in
            let hn = home n d below in
            let seconds_same : (get_or moved m d).position ≡ (get_or moved n d).position = sym (second_is m d (omega arith)) ∙ sym (old m (omega arith)) ∙ same ∙ old n below ∙ second_is n d below in
            let alike : get_or moved m d ≡ get_or moved n d =
            sym hm.1 ∙ get_or_default keyed (get_or moved m d).position (get_or moved m d) (get_or moved n d) (omega (arith, hm.0, keys.same)) ∙ ap (λ (k : ℕ). get_or keyed k (get_or moved n d)) seconds_same ∙ hn.1 in
            let one : m ≡ n = once_moved keyed moved perm keyed_once m n d (omega (arith, len)) (omega (arith, len)) alike in
            omega arith)
            (λ (ge : exit ≤ n).
            let top : n ≡ exit = omega (arith, whole) in
            let low : get_or order m 0 < exit = order_in m (omega arith) in
            let x : get_or order m 0 ≡ exit = sym (old m (omega arith)) ∙ same ∙ ap (λ (k : ℕ). get_or (order ++ exit ∷ []) k 0) top ∙ last in
            omega arith)
            (cases_lt n exit);
        ascending = λ m n le lt.
            let d : Keyed = pair n lt in
            let m_lt : m < exit = omega arith in
            let far = sorted_far (λ j k. is_lt (by_keys chains j k)) (keys_rank chains) moved sorted m n d le (omega (arith, len)) in
            let n_key : kept_key chains (get_or moved n d) ≡ key (get_or (order ++ exit ∷ []) n 0) = (home n d lt).2 ∙ ap key (sym (old n lt ∙ second_is n d lt)) in
            let m_key : kept_key chains (get_or moved m d) ≡ key (get_or (order ++ exit ∷ []) m 0) = (home m d m_lt).2 ∙ ap key (sym (old m m_lt ∙ second_is m d m_lt)) in
            (λ i. is_before (sym n_key i) (sym m_key i)) ∙ sym (before_is (kept_key chains (get_or moved n d)) (kept_key chains (get_or moved m d))) ∙ far;
      }

-- ## Spans

pub spans_more : (numbers : List ℕ) (found : List LoopInstance) (extents : List Extent) (spans : List (Span × ℕ)) (i : ℕ) (span : Span) → AreSpans numbers found extents spans i → i < length extents → ((d : LoopInstance) → IsShown numbers (extent_at extents i) (get_or found (extent_at extents i).instance d).stated.bound span) → AreSpans numbers found extents (spans ++ (span, (extent_at extents i).instance) ∷ []) (i + 1)
spans_more numbers found extents spans i span so_far lt is =
    let new : Span × ℕ = (span, (extent_at extents i).instance) in
    let same : length spans ≡ i = so_far.same in
    let here : (k : ℕ) (x : Span × ℕ) → k ≡ i → get_or (spans ++ new ∷ []) k x ≡ new = λ k x at. ap (λ (n : ℕ). get_or (spans ++ new ∷ []) n x) (at ∙ sym same) ∙ get_or-append_seam spans new [] x in
    let there : (k : ℕ) (s : Extent) → k ≡ i → get_or extents k s ≡ extent_at extents i = λ k s at. ap (λ (n : ℕ). get_or extents n s) at ∙ get_or_default extents i s _ lt in
    record {
      same = length-append spans (new ∷ []) ∙ ap (λ (x : ℕ). x + 1) same;
      named = λ k s x below. ⊎_elim
          (λ (at : k ≡ i). ap (λ (y : Span × ℕ). y.1) (here k x at) ∙ ap (λ (y : Extent). y.instance) (sym (there k s at)))
          (λ (other : k ≡ i → ⊥). rw (get_or_append_left spans (new ∷ []) x k (omega arith)) (so_far.named k s x (omega arith)))
          (cases_eq k i);
      shown = λ k s d x below. ⊎_elim
          (λ (at : k ≡ i). rw (here k x at, there k s at) (is d))
          (λ (other : k ≡ i → ⊥). rw (get_or_append_left spans (new ∷ []) x k (omega arith)) (so_far.shown k s d x (omega arith)))
          (cases_eq k i);
    }

-- ## Indexes

pub indexes_more : (places listed : List Place) (order indexes : List ℕ) (n v : ℕ) → AreIndexes places listed order indexes n → v < length places → place_at places v ≡ place_at listed (get_or order n 0) → AreIndexes places listed order (indexes ++ v ∷ []) (n + 1)
indexes_more places listed order indexes n v so_far lt is =
    let same : length indexes ≡ n = so_far.same in
    let new : (k : ℕ) → k ≡ n → get_or (indexes ++ v ∷ []) k 0 ≡ v = λ k at. ap (λ (x : ℕ). get_or (indexes ++ v ∷ []) x 0) (at ∙ sym same) ∙ get_or-append_seam indexes v [] 0 in
    let old : (k : ℕ) → k < n → get_or (indexes ++ v ∷ []) k 0 ≡ get_or indexes k 0 = λ k below. get_or_append_left indexes (v ∷ []) 0 k (omega arith) in
    record {
      same = length-append indexes (v ∷ []) ∙ ap (λ (x : ℕ). x + 1) same;
      inside = λ k below. ⊎_elim (λ (at : k ≡ n). rw (new k at) lt) (λ (other : k ≡ n → ⊥). rw (old k (omega arith)) (so_far.inside k (omega arith))) (cases_eq k n);
      each = λ k below. ⊎_elim
          (λ (at : k ≡ n). rw (new k at) (is ∙ ap (λ (x : ℕ). place_at listed (get_or order x 0)) (sym at)))
          (λ (other : k ≡ n → ⊥). rw (old k (omega arith)) (so_far.each k (omega arith)))
          (cases_eq k n);
    }

pub placed : (places listed : List Place) (order indexes : List ℕ) → AreIndexes places listed order indexes (length places) → ArePlaced places listed order (indexes ++ length places ∷ [])
placed places listed order indexes all =
    let same : length indexes ≡ length places = all.same in
    let old : (k : ℕ) → k < length places → get_or (indexes ++ length places ∷ []) k 0 ≡ get_or indexes k 0 = λ k below. get_or_append_left indexes (length places ∷ []) 0 k (omega arith) in
    record {
      whole = length-append indexes (length places ∷ []) ∙ ap (λ (x : ℕ). x + 1) same;
      exit_last = ap (λ (x : ℕ). get_or (indexes ++ length places ∷ []) x 0) (sym same) ∙ get_or-append_seam indexes (length places) [] 0;
      inside = λ n lt. rw (old n lt) (all.inside n lt);
      each = λ n lt. rw (old n lt) (all.each n lt);
    }

-- ## The span of an extent

abbrev part_of : List ℕ → Extent → List ℕ
part_of numbers s = take (s.end - s.first) (drop s.first numbers)

part_length : (numbers : List ℕ) (s : Extent) → s.end ≤ length numbers → length (part_of numbers s) ≡ s.end - s.first
part_length numbers s inside = length-take-le (s.end - s.first) (drop s.first numbers) (omega (arith, length-drop s.first numbers))

part_at : (numbers : List ℕ) (s : Extent) (k d : ℕ) → k < s.end - s.first → get_or (part_of numbers s) k d ≡ get_or numbers (s.first + k) d
part_at numbers s k d lt = get_or-take (s.end - s.first) (drop s.first numbers) k d lt ∙ get_or-drop s.first numbers k d

pub shown_from : (numbers : List ℕ) (s : Extent) (header bound last spare : ℕ) (found : Option ℕ) → s.first < s.end → s.end ≤ length numbers → header ≡ get_or numbers s.header 0 → MatchOption found (length (part_of numbers s) ≡ 0) (λ m. EachIndex (part_of numbers s) (λ k. get_or (part_of numbers s) k 0 ≤ m)) → IfSome found (Contains (part_of numbers s)) → last ≡ unwrap_or found spare → IsShown numbers s bound (record { header = header; last = last; bound = bound })
shown_from numbers s header bound last spare None some inside is most attained last_is = absurd (omega (arith, most, part_length numbers s inside))
shown_from numbers s header bound last spare (Some m) some inside is most attained last_is =
    let k_lt : attained.0 < s.end - s.first = omega (arith, attained.1, part_length numbers s inside) in
    record {
      header_is = is;
      most = λ p low high.
          let k : ℕ = p - s.first in
          let k_in : k < s.end - s.first = omega arith in
          let h : get_or (part_of numbers s) k 0 ≤ m = most k (omega (arith, part_length numbers s inside)) in
          let at : get_or (part_of numbers s) k 0 ≡ get_or numbers p 0 = part_at numbers s k 0 k_in ∙ ap (λ (x : ℕ). get_or numbers x 0) (let e : s.first + k ≡ p = omega arith in e) in
          omega (arith, last_is);
      attained = (
        s.first + attained.0,
        omega arith,
        omega arith,
        get_or_default numbers (s.first + attained.0) 0 m (omega arith) ∙ sym (part_at numbers s attained.0 m k_lt) ∙ attained.2 ∙ sym last_is,
      );
      bound_is = refl;
    }

-- ## Instances in order

abbrev pub no_numbered_span : Span × ℕ
no_numbered_span = (no_span, 0)

pub parted_more : (found : List LoopInstance) (closing : List (Span × ℕ)) (instances : List LoopInstance) (spans : List Span) (i : ℕ) (f : LoopInstance) → AreParted found closing instances spans i → i < length closing → (get_or closing i no_numbered_span).1 < length found → f ≡ get_or found (get_or closing i no_numbered_span).1 f → AreParted found closing (instances ++ f ∷ []) (spans ++ (get_or closing i no_numbered_span).0 ∷ []) (i + 1)
parted_more found closing instances spans i f so_far lt named is =
    let same : length instances ≡ i = so_far.same in
    record {
      same = length-append instances (f ∷ []) ∙ ap (λ (x : ℕ). x + 1) same;
      spans_are = ap (λ (xs : List Span). xs ++ (get_or closing i no_numbered_span).0 ∷ []) so_far.spans_are
          ∙ sym (ap (map (λ (x : Span × ℕ). x.0)) (take_more closing i no_numbered_span lt) ∙ map_push (λ (x : Span × ℕ). x.0) (take i closing) (get_or closing i no_numbered_span));
      named = λ k d x below. ⊎_elim
          (λ (here : k ≡ i).
          let at : get_or (instances ++ f ∷ []) k d ≡ f = ap (λ (m : ℕ). get_or (instances ++ f ∷ []) m d) (here ∙ sym same) ∙ get_or-append_seam instances f [] d in
          let pair : get_or closing k x ≡ get_or closing i no_numbered_span = ap (λ (m : ℕ). get_or closing m x) here ∙ get_or_default closing i x no_numbered_span lt in
          at ∙ is ∙ get_or_default found (get_or closing i no_numbered_span).1 f d named ∙ ap (λ (y : Span × ℕ). get_or found y.1 d) (sym pair))
          (λ (other : k ≡ i → ⊥). get_or_append_left instances (f ∷ []) d k (omega arith) ∙ so_far.named k d x (omega arith))
          (cases_eq k i);
    }

pub take_none : {X : Type 0} (xs : List X) → take 0 xs ≡ []
take_none [] = refl
take_none (x ∷ xs) = refl

pub parted_none : (found : List LoopInstance) (closing : List (Span × ℕ)) (instances : List LoopInstance) (spans : List Span) → instances ≡ [] → spans ≡ [] → AreParted found closing instances spans 0
parted_none found closing instances spans none no_spans = record {
  same = ap length none;
  spans_are = no_spans ∙ sym (ap (map (λ (x : Span × ℕ). x.0)) (take_none closing));
  named = λ k d x lt. absurd (omega arith);
}
