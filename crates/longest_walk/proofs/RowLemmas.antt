-- The rows of places and of instances.
use Rattle.std.proofs.Common.{◌≡◌, ◌∙◌, ℕ, ◌+◌, ◌<◌, ◌≤◌, true, false, List, [], ◌∷◌, ◌++◌, ⊎_elim, All, Contains, length, get_or, map, take, refl, sym, ap, subst, arith, suc}
use Rattle.std.specs.Prelude.{◌==◌, ◌&&◌}
use Rattle.std.specs.Cmp.Lexicographic.{pointwise}
use Rattle.std.specs.declared.cmp.Ordering.{Ordering}
use Rattle.std.specs.declared.cmp.Ordering.TheVariants.{Less, Equal, Greater}
use Rattle.std.specs.Ordering.{is_lt, ordering_reverse}
use Rattle.std.specs.List.Sorted.{IsPermutation, IsSortedByKey, IsStrictlySortedBy}
use Rattle.std.proofs.lemmas.Bool.{cases_lt, eqb-true, eq-eqb}
use Rattle.std.proofs.lemmas.List.{get_or_default, length-map, map-append, take_more, take_all, get_or-map}
use Rattle.std.proofs.lemmas.List.Elements.{All-push, Contains-get_or, recursion_from_All}
use Rattle.std.proofs.lemmas.List.Sorted.{All-permutation, Contains-permutation, IsPermutation-map, IsPermutation-sym, ranks_by, sorted_far}
use Rattle.control_flow.specs.declared.places.Place.{Place}
use Rattle.control_flow.specs.declared.places.Place.TheVariants.{At, Exit}
use Rattle.control_flow.specs.Flow.{Flow}
use Rattle.control_flow.specs.Places.{place_address, place_at, place_calls, place_cmp}
use Rattle.control_flow.proofs.PlaceLemmas.{place_exact, place_total}
use Rattle.numbered_walks.specs.declared.span.Span.{Span}
use Rattle.numbered_walks.specs.declared.tables.Tables.{Tables}
use Rattle.numbered_walks.specs.Tables.{arrival_of, distance_of, round_of}
use Rattle.numbered_walks.specs.Index.{span_at}
use Rattle.numbered_walks.proofs.Members.{no_span}
use Rattle.loop_bounds.specs.Instance.{Instance, is_header}
use Rattle.loop_bounds.specs.Extents.{found_instance}
use Rattle.loop_bounds.specs.Layout.{AreNumbers}
use Rattle.loop_bounds.specs.declared.loop_instances.LoopInstance.{LoopInstance}
use Rattle.loop_bounds.specs.Tree.{Tree, IsTree, place_in}
use Rattle.loop_bounds.proofs.Moved.{IsOnce, once_moved}
use Rattle.longest_walk.specs.Built.{AreInstanceRowsAt, ArePlaceRowsAt, IsInstanceRowAt, IsPlaceRowAt}
use Rattle.longest_walk.specs.Rows.{header_of, header_of_row, place_of_row}
use Rattle.longest_walk.specs.declared.rows.PlaceRow.{PlaceRow}
use Rattle.longest_walk.specs.declared.rows.InstanceRow.{InstanceRow}

-- ## Numbers of places

module _ (flow : Flow) (tree : Tree) (t : IsTree flow tree) where
  abbrev exit : ℕ
  exit = length flow.places

  -- what was read as the number of the place at an index
  pub number_read : (numbers : List ℕ) → AreNumbers tree.order numbers (length tree.order) → (index number : ℕ) → index < exit → number ≡ get_or numbers index number → (number < exit) × (place_in flow tree number ≡ place_at flow.places index)
  number_read numbers all index number lt read =
      let n = t.all index lt in
      let inside : n.0 < length tree.order = omega (arith, n.1, t.whole) in
      let small : index < length numbers = omega (arith, all.whole, t.whole) in
      let is : number ≡ n.0 = read ∙ get_or_default numbers index number 0 small ∙ ap (λ (k : ℕ). get_or numbers k 0) (sym n.2) ∙ all.each n.0 inside in
      let at : get_or tree.order n.0 exit ≡ index = get_or_default tree.order n.0 exit 0 inside ∙ n.2 in
      (omega (arith, n.1, is), ap (place_in flow tree) is ∙ ap (place_at flow.places) at)

  pub place_row_at : (c : Tables) (numbers : List ℕ) → AreNumbers tree.order numbers (length tree.order) → (index number : ℕ) (r : PlaceRow) → index < exit → number ≡ get_or numbers index number → place_of_row r ≡ place_at flow.places index → r.distance ≡ distance_of c number → IsPlaceRowAt flow tree c r
  place_row_at c numbers all index number r lt read is distance =
      let at = number_read numbers all index number lt read in
      record { number = number; inside = at.0; place_is = at.1 ∙ sym is; distance_is = distance }

-- no place among them is Exit
pub not_exit : (places : List Place) → (Contains places Exit → ⊥) → (i : ℕ) (d : Place) → i < length places → (p : Place) → get_or places i d ≡ p → ((list : List ℕ) (a : ℕ) → get_or places i d ≡ At list a → ⊥) → ⊥
not_exit places none i d lt (At list a) is not_at = not_at list a is
not_exit places none i d lt Exit is not_at = none (subst (Contains places) is (Contains-get_or places i d lt))

-- ## Rows of places

-- of the first places in order
pub record ArePlaceRowsTo (flow : Flow) (tree : Tree) (c : Tables) (limit : ℕ) (rows : List PlaceRow) : Type 0 where
  pub places_are : map place_of_row rows ≡ take limit flow.places
  pub each : All (IsPlaceRowAt flow tree c) rows

pub place_rows_more : (flow : Flow) (tree : Tree) (c : Tables) (limit : ℕ) (rows : List PlaceRow) (r : PlaceRow) → limit < length flow.places → ArePlaceRowsTo flow tree c limit rows → place_of_row r ≡ place_at flow.places limit → IsPlaceRowAt flow tree c r → ArePlaceRowsTo flow tree c (limit + 1) (rows ++ r ∷ [])
place_rows_more flow tree c limit rows r lt so_far is row = record {
  places_are = map-append place_of_row rows (r ∷ []) ∙ ap (λ (ps : List Place). ps ++ place_of_row r ∷ []) so_far.places_are ∙ ap (λ (p : Place). take limit flow.places ++ p ∷ []) is ∙ sym (take_more flow.places limit Exit lt);
  each = All-push (IsPlaceRowAt flow tree c) rows r so_far.each row;
}

pub place_rows_all : (flow : Flow) (tree : Tree) (c : Tables) (limit : ℕ) (rows : List PlaceRow) → length flow.places ≤ limit → ArePlaceRowsTo flow tree c limit rows → ArePlaceRowsAt flow tree c rows
place_rows_all flow tree c limit rows ended all = record { places_are = all.places_are ∙ take_all limit flow.places ended; each = all.each }

-- ## Rows of instances

-- of the first instances
pub record AreInstanceRowsTo (tree : Tree) (c : Tables) (limit : ℕ) (rows : List InstanceRow) : Type 0 where
  pub headers_are : map header_of_row rows ≡ take limit (map header_of tree.instances)
  pub each : All (IsInstanceRowAt tree c) rows

pub instance_rows_more : (tree : Tree) (c : Tables) (limit : ℕ) (rows : List InstanceRow) (r : InstanceRow) (i : Instance) (s : Span) → limit < length tree.instances → limit < length tree.spans → AreInstanceRowsTo tree c limit rows
    → i ≡ get_or tree.instances limit i → s ≡ get_or tree.spans limit s → header_of_row r ≡ header_of i → r.arrival ≡ arrival_of c s → r.round ≡ round_of c s → AreInstanceRowsTo tree c (limit + 1) (rows ++ r ∷ [])
instance_rows_more tree c limit rows r i s lt inside so_far i_is s_is header arrival round =
    let many : limit < length (map header_of tree.instances) = omega (arith, length-map tree.instances header_of) in
    let at : header_of_row r ≡ get_or (map header_of tree.instances) limit Exit = header ∙ ap header_of i_is ∙ sym (get_or-map header_of tree.instances limit i Exit lt) in
    record {
      headers_are = map-append header_of_row rows (r ∷ []) ∙ ap (λ (ps : List Place). ps ++ header_of_row r ∷ []) so_far.headers_are ∙ ap (λ (p : Place). take limit (map header_of tree.instances) ++ p ∷ []) at ∙ sym (take_more (map header_of tree.instances) limit Exit many);
      each = All-push (IsInstanceRowAt tree c) rows r so_far.each
          (record {
            number = limit;
            inside = lt;
            header_is = λ d. ap header_of (get_or_default tree.instances limit d i lt ∙ sym i_is) ∙ sym header;
            arrival_is = λ d. arrival ∙ ap (arrival_of c) (s_is ∙ get_or_default tree.spans limit s d inside);
            round_is = λ d. round ∙ ap (round_of c) (s_is ∙ get_or_default tree.spans limit s d inside);
          });
    }

-- instances with one header have the same test
header_test : (i j : Instance) (p : Place) → header_of i ≡ header_of j → is_header i p ≡ is_header j p
header_test i j (At calls a) heads =
    let lists : i.list ≡ j.list = ap place_calls heads in
    let addresses : i.header ≡ j.header = ap place_address heads in
    ap (λ (x : List ℕ). pointwise ◌==◌ calls x && (a == i.header)) lists ∙ ap (λ (x : ℕ). pointwise ◌==◌ calls j.list && (a == x)) addresses
header_test i j Exit heads = refl

-- the headers of two instances differ
pub headers_once : (flow : Flow) (tree : Tree) → IsTree flow tree → IsOnce (map header_of tree.instances)
headers_once flow tree t i j d i_lt j_lt same =
    let len = length-map tree.instances header_of in
    let i_in : i < length tree.instances = omega arith in
    let j_in : j < length tree.instances = omega arith in
    let x = some_instance tree.instances i_in in
    let spans = t.spans_are in
    let at_i = get_or tree.spans i no_span in
    let at_j = get_or tree.spans j no_span in
    let i_small : i < length tree.spans = omega (arith, spans.same) in
    let j_small : j < length tree.spans = omega (arith, spans.same) in
    let shape = t.ordered.shape at_i (Contains-get_or tree.spans i no_span i_small) in
    let low : at_i.header ≤ length flow.places = omega (arith, shape.0, shape.1) in
    let heads : header_of (get_or tree.instances i x) ≡ header_of (get_or tree.instances j x) = sym (get_or-map header_of tree.instances i x d i_in) ∙ same ∙ get_or-map header_of tree.instances j x d j_in in
    let p = place_in flow tree at_i.header in
    let one : is_header (get_or tree.instances i x) p ≡ true = (spans.each i x no_span i_in).headers at_i.header low ∙ eq-eqb at_i.header at_i.header refl in
    let two : is_header (get_or tree.instances j x) p ≡ true = sym (header_test (get_or tree.instances i x) (get_or tree.instances j x) p heads) ∙ one in
    let equal : at_i.header ≡ at_j.header = eqb-true at_i.header at_j.header (sym ((spans.each j x no_span j_in).headers at_i.header low) ∙ two) in
    ⊎_elim
    (λ less. absurd (t.ordered.headers_differ i j no_span less j_small equal))
    (λ ge. ⊎_elim (λ more. absurd (t.ordered.headers_differ j i no_span more i_small (sym equal))) (λ le. omega arith) (cases_lt j i))
    (cases_lt i j)
  where
    some_instance : (xs : List Instance) {n : ℕ} → n < length xs → Instance
    some_instance [] lt = absurd (omega arith)
    some_instance (x ∷ xs) lt = x

-- what the code asks of the instance at an index
pub instance_inside : (flow : Flow) (tree : Tree) → IsTree flow tree → (found : List LoopInstance) → map (found_instance tree.apart) found ≡ tree.instances → (i : ℕ) → i < length found → (i < length tree.instances) × (i < length tree.spans) × ((span_at tree.spans i).header < length flow.places + 1)
instance_inside flow tree t found are i lt =
    let many : i < length tree.instances = omega (arith, ap length are, length-map found (found_instance tree.apart)) in
    let few : i < length tree.spans = omega (arith, t.spans_are.same) in
    let shape = t.ordered.shape (span_at tree.spans i) (Contains-get_or tree.spans i _ few) in
    (many, few, omega (arith, shape.0, shape.1))

pub instance_at : (tree : Tree) (found : List LoopInstance) (f : LoopInstance) (i : ℕ) → map (found_instance tree.apart) found ≡ tree.instances → i < length found → f ≡ get_or found i f → found_instance tree.apart f ≡ get_or tree.instances i (found_instance tree.apart f)
instance_at tree found f i are lt is =
    let g = found_instance tree.apart in
    ap g is ∙ sym (get_or-map g found i f (g f) lt) ∙ ap (λ (l : List Instance). get_or l i (g f)) are

-- ## In order

pick : (a b : Ordering) → b ≡ ordering_reverse a → is_lt b ≡ false → (a ≡ Equal → ⊥) → a ≡ Less
pick Less b back up differ = refl
pick Equal b back up differ = absurd (differ refl)
pick Greater b back up differ = let x : is_lt Less ≡ false = sym (ap is_lt back) ∙ up in cc

strictly : (ps : List Place) → ((i j : ℕ) (d : Place) → i < j → j < length ps → place_cmp (get_or ps i d) (get_or ps j d) ≡ Less) → IsStrictlySortedBy place_cmp ps
unfolding IsStrictlySortedBy
strictly [] all = tt
strictly (p ∷ ps) all = (recursion_from_All (λ q. place_cmp p q ≡ Less) ps (λ k d lt. all 0 (suc k) d (omega arith) (omega arith)), strictly ps (λ i j d below lt. all (suc i) (suc j) d (omega arith) (omega arith)))

rows_strict : (rows : List InstanceRow) → IsSortedByKey header_of_row place_cmp rows → IsOnce (map header_of_row rows) → IsStrictlySortedBy place_cmp (map header_of_row rows)
rows_strict rows sorted once = strictly (map header_of_row rows)
    (λ i j d below lt.
    let len = length-map rows header_of_row in
    let i_in : i < length rows = omega arith in
    let j_in : j < length rows = omega arith in
    let x = some_row rows i_in in
    let p = get_or rows i x in
    let q = get_or rows j x in
    let far : is_lt (place_cmp (header_of_row q) (header_of_row p)) ≡ false = sorted_far (λ (a b : InstanceRow). is_lt (place_cmp (header_of_row a) (header_of_row b))) (ranks_by place_total header_of_row) rows sorted i j x (omega arith) j_in in
    let apart : place_cmp (header_of_row p) (header_of_row q) ≡ Equal → ⊥ =
    λ tied. let same : i ≡ j = once i j d (omega (arith, len)) lt (get_or-map header_of_row rows i x d i_in ∙ place_exact (header_of_row p) (header_of_row q) tied ∙ sym (get_or-map header_of_row rows j x d j_in)) in omega arith in
    let less = pick (place_cmp (header_of_row p) (header_of_row q)) (place_cmp (header_of_row q) (header_of_row p)) (place_total.antisymm (header_of_row q) (header_of_row p)) far apart in
    (λ k. place_cmp (get_or-map header_of_row rows i x d i_in k) (get_or-map header_of_row rows j x d j_in k)) ∙ less)
  where
    some_row : (xs : List InstanceRow) {n : ℕ} → n < length xs → InstanceRow
    some_row [] lt = absurd (omega arith)
    some_row (x ∷ xs) lt = x

pub instance_rows_all : (flow : Flow) (tree : Tree) (c : Tables) → IsTree flow tree → (limit : ℕ) (rows sorted : List InstanceRow) → length tree.instances ≤ limit → AreInstanceRowsTo tree c limit rows → IsPermutation rows sorted → IsSortedByKey header_of_row place_cmp sorted → AreInstanceRowsAt tree c sorted
instance_rows_all flow tree c t limit rows sorted ended all moved up =
    let len = length-map tree.instances header_of in
    let headers : map header_of_row rows ≡ map header_of tree.instances = all.headers_are ∙ take_all limit (map header_of tree.instances) (omega arith) in
    let once : IsOnce (map header_of_row rows) = subst IsOnce (sym headers) (headers_once flow tree t) in
    let moved_map = IsPermutation-map header_of_row rows sorted moved in
    record {
      ascending = rows_strict sorted up (once_moved (map header_of_row rows) (map header_of_row sorted) moved_map once);
      instances_are = λ p. (
        (λ has. subst (λ (ps : List Place). Contains ps p) headers (Contains-permutation (map header_of_row sorted) (map header_of_row rows) p (IsPermutation-sym (map header_of_row rows) (map header_of_row sorted) moved_map) has)),
        (λ has. Contains-permutation (map header_of_row rows) (map header_of_row sorted) p moved_map (subst (λ (ps : List Place). Contains ps p) (sym headers) has)),
      );
      each = All-permutation (IsInstanceRowAt tree c) rows sorted moved all.each;
    }
