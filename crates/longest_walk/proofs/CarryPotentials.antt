-- Potentials by place and by number: the same rows.
use Rattle.std.proofs.Common.{◌≡◌, ℕ, ◌<◌, ◌≤◌, true, false, List, length, get_or, map, slice_index, Contains, Option, Some, None, ⊎_elim, refl, sym, ap, ◌∙◌, subst, arith}
use Rattle.std.specs.List.{find}
use Rattle.std.proofs.lemmas.Bool.{cases_lt, both_ways, eq-eqb, eqb-true, ne_eqb}
use Rattle.std.proofs.lemmas.List.{get_or_default}
use Rattle.std.proofs.lemmas.List.Elements.{All-contains, Contains-get_or}
use Rattle.walks.specs.Rows.{Potentials}
use Rattle.walks.proofs.RowLemmas.{find_some}
use Rattle.control_flow.specs.declared.places.Place.{Place}
use Rattle.control_flow.specs.declared.places.Place.TheVariants.{At, Exit}
use Rattle.control_flow.specs.declared.edges.Edge.{Edge}
use Rattle.control_flow.specs.Flow.{Flow, IsWellFormed, edge_shape}
use Rattle.control_flow.proofs.Firsts.{no_edge}
use Rattle.control_flow.proofs.LabelLemmas.{from_map, into_map}
use Rattle.numbered_walks.specs.declared.span.NumberedEdge.{NumberedEdge}
use Rattle.numbered_walks.specs.declared.span.Span.{Span}
use Rattle.numbered_walks.specs.declared.tables.Tables.{Tables}
use Rattle.numbered_walks.specs.Index.{edge_at}
use Rattle.numbered_walks.specs.Ordered.{number_shape, span_loops}
use Rattle.numbered_walks.specs.Tables.{arrival_of, distance_of, round_of}
use Rattle.numbered_walks.specs.Tables as T
use Rattle.numbered_walks.specs.Found.{AreFound}
use Rattle.numbered_walks.proofs.Members.{no_numbered_edge, no_span}
use Rattle.loop_bounds.specs.Instance.{Instance, is_header, place_loops}
use Rattle.loop_bounds.specs.Tree.{IsSpanOf, IsTree, NumbersEdge, Tree, place_in}
use Rattle.loop_bounds.proofs.ExtentOf.{header_place, header_itself}
use Rattle.longest_walk.specs.Built.{AreInstanceRowsAt, ArePlaceRowsAt, IsInstanceRowAt, IsPlaceRowAt, step_at}
use Rattle.longest_walk.specs.Rows.{AreLeast, RowsFit, RowsHold, distance_in, header_of, header_of_row, is_at, is_exit, number_or_zero, place_of_row, potentials_of, row_of}
use Rattle.longest_walk.specs.declared.rows.PlaceRow.{PlaceRow}
use Rattle.longest_walk.specs.declared.rows.InstanceRow.{InstanceRow}
use Rattle.longest_walk.proofs.CarryFind.{at_itself, at_place, find_known, index_is, index_of}
use Rattle.longest_walk.proofs.CarryRows.{SameRow, cond_same, fit_back, row_back, row_there}
use Rattle.longest_walk.proofs.CarryWalks.{edge_same, exit_place, header_same, member_same, no_instance, number_is, place_numbers}

-- ## The same potentials

module _ (flow : Flow) (tree : Tree) (well : IsWellFormed flow) (t : IsTree flow tree) where
  abbrev exit : ℕ
  exit = length flow.places

  abbrev place : ℕ → Place
  place = place_in flow tree

  -- the same of an instance and of its span
  abbrev pub AgreeBy : (Instance → ℕ) → (Span → ℕ) → Type 0
  AgreeBy f g = (k : ℕ) (i : Instance) (s : Span) → k < length tree.instances → f (get_or tree.instances k i) ≡ g (get_or tree.spans k s)

  -- by place and by number
  pub record AreSame (c : Potentials Place Instance) (d : Potentials ℕ Span) : Type 0 where
    pub bound_is : c.bound ≡ d.bound
    pub distances : (n : ℕ) → n < length flow.places → c.distance (place_in flow tree n) ≡ d.distance n
    pub arrivals : AgreeBy c.arrival d.arrival
    pub rounds : AgreeBy c.round d.round

  -- what is no more for each span is no more for each instance
  agree-le : (f g : Instance → ℕ) (u v : Span → ℕ) → AgreeBy f u → AgreeBy g v → ((s : Span) → Contains tree.spans s → u s ≤ v s) → (i : Instance) → Contains tree.instances i → f i ≤ g i
  agree-le f g u v same other low i (k, lt, at) =
      let s : Span = get_or tree.spans k no_span in
      let in_tree : Contains tree.spans s = Contains-get_or tree.spans k no_span (omega (arith, t.spans_are.same)) in
      subst (λ (x : Instance). f x ≤ g x) at (omega (arith, same k i no_span lt, other k i no_span lt, low s in_tree))

  pub exit_inside : (p : Place) → Contains flow.places p → is_exit p ≡ false
  exit_inside (At calls a) has = refl
  exit_inside Exit has = absurd (well.no_exit has)

  exit_test : (p : Place) (n : ℕ) → n ≤ exit → place n ≡ p → is_exit p ≡ T.is_exit exit n
  exit_test p n le at = ⊎_elim
      (λ (l : n < exit). ap is_exit (sym at) ∙ exit_inside (place n) ((place_numbers flow tree well t).place n l) ∙ sym (ne_eqb n exit (λ same. omega arith)))
      (λ (top : exit ≤ n).
      let is : n ≡ exit = omega arith in
      ap is_exit (sym at ∙ ap place is ∙ exit_place flow tree well t) ∙ sym (eq-eqb n exit is))
      (cases_lt n exit)

  module _ (c : Potentials Place Instance) (d : Potentials ℕ Span) (same : AreSame c d) where
    -- an edge's row by place and by number asks the same
    pub same_row : (k : ℕ) → k < length flow.edges → SameRow edge_shape place_loops is_exit c number_shape span_loops (T.is_exit (length flow.places)) d tree.instances tree.spans (step_at flow.edges k) (edge_at tree.edges k)
    same_row k lt =
        let e : Edge = step_at flow.edges k in
        let f : NumberedEdge = edge_at tree.edges k in
        let here : NumbersEdge place exit e f = edge_same flow tree well t k lt in
        let from_in : f.from < exit = here.from_in in
        let to_in : f.to ≤ exit = here.to_in in
        record {
          from_is = ap (λ (p : Place). c.distance p) (sym here.from_is) ∙ same.distances f.from from_in;
          place_is = cond_same (is_exit e.to) (T.is_exit exit f.to) c.bound (c.distance e.to) d.bound (d.distance f.to)
              (exit_test e.to f.to to_in here.to_is) (λ is. same.bound_is)
              (λ is. ap (λ (p : Place). c.distance p) (sym here.to_is) ∙ same.distances f.to (inner e.to f.to to_in here.to_is is));
          cost_is = sym here.cost_is;
          instances_are = record {
            same = sym t.spans_are.same;
            each = λ n i s below.
                let span_is = t.spans_are.each n i s below in
                record {
                  from_is = member_same flow tree well t (get_or tree.instances n i) (get_or tree.spans n s) span_is e.from f.from (omega arith) here.from_is;
                  to_is = member_same flow tree well t (get_or tree.instances n i) (get_or tree.spans n s) span_is e.to f.to to_in here.to_is;
                  header_is = header_same flow tree well t (get_or tree.instances n i) (get_or tree.spans n s) span_is e.to f.to to_in here.to_is;
                  bound_is = sym span_is.bound;
                  arrival_is = same.arrivals n i s below;
                  round_is = same.rounds n i s below;
                };
          };
        }
      where
        inner : (p : Place) (n : ℕ) → n ≤ exit → place n ≡ p → is_exit p ≡ false → n < exit
        inner p n le at is = ⊎_elim
            (λ (l : n < exit). l)
            (λ (top : exit ≤ n). absurd (both_ways (is_exit p) is (exit_test p n le at ∙ eq-eqb n exit (omega arith))))
            (cases_lt n exit)

    pub rows_down : RowsHold flow tree c → T.RowsHold (length flow.places) tree.edges tree.spans d
    rows_down rows f has =
        let lt : has.0 < length flow.edges = omega (arith, has.1, t.numbered.same) in
        let is : edge_at tree.edges has.0 ≡ f = get_or_default tree.edges has.0 no_numbered_edge f has.1 ∙ has.2 in
        let row = row_there edge_shape place_loops is_exit c number_shape span_loops (T.is_exit exit) d tree.instances tree.spans (step_at flow.edges has.0) (edge_at tree.edges has.0) (same_row has.0 lt) (rows (step_at flow.edges has.0) (Contains-get_or flow.edges has.0 no_edge lt)) in
        rw is at row

    pub rows_up : T.RowsHold (length flow.places) tree.edges tree.spans d → RowsHold flow tree c
    rows_up rows e has =
        let is : step_at flow.edges has.0 ≡ e = get_or_default flow.edges has.0 no_edge e has.1 ∙ has.2 in
        let row = row_back edge_shape place_loops is_exit c number_shape span_loops (T.is_exit exit) d tree.instances tree.spans (step_at flow.edges has.0) (edge_at tree.edges has.0) (same_row has.0 has.1) (rows (edge_at tree.edges has.0) (Contains-get_or tree.edges has.0 no_numbered_edge (omega (arith, has.1, t.numbered.same)))) in
        rw is at row

    pub fit_up : T.RowsFit (length flow.places) tree.edges tree.spans d → RowsFit flow tree c
    fit_up rows e has =
        let is : step_at flow.edges has.0 ≡ e = get_or_default flow.edges has.0 no_edge e has.1 ∙ has.2 in
        let row = fit_back edge_shape place_loops is_exit c number_shape span_loops (T.is_exit exit) d tree.instances tree.spans (step_at flow.edges has.0) (edge_at tree.edges has.0) (same_row has.0 has.1) (rows (edge_at tree.edges has.0) (Contains-get_or tree.edges has.0 no_numbered_edge (omega (arith, has.1, t.numbered.same)))) in
        rw is at row

  -- ## Any numbers, by number

  abbrev pub numbered : Potentials Place Instance → Potentials ℕ Span
  numbered other = record {
    bound = other.bound;
    distance = λ n. other.distance (place_in flow tree n);
    arrival = λ s. other.arrival (get_or tree.instances (index_of tree.spans s.header) no_instance);
    round = λ s. other.round (get_or tree.instances (index_of tree.spans s.header) no_instance);
  }

  instance_at : (k : ℕ) (i : Instance) (s : Span) → k < length tree.instances → get_or tree.instances k i ≡ get_or tree.instances (index_of tree.spans (get_or tree.spans k s).header) no_instance
  instance_at k i s lt =
      get_or_default tree.instances k i no_instance lt ∙ ap (λ (n : ℕ). get_or tree.instances n no_instance) (sym (index_is tree.spans t.ordered.headers_differ k s (omega (arith, t.spans_are.same))))

  pub numbered_same : (other : Potentials Place Instance) → AreSame other (numbered other)
  numbered_same other = record {
    bound_is = refl;
    distances = λ n lt. refl;
    arrivals = λ k i s lt. ap (λ (x : Instance). other.arrival x) (instance_at k i s lt);
    rounds = λ k i s lt. ap (λ (x : Instance). other.round x) (instance_at k i s lt);
  }

  -- ## The rows' numbers

  module _ (c : Tables) (rows : List PlaceRow) (rows_are : ArePlaceRowsAt flow tree c rows) where
    -- what is found for a place: a row with its number
    found_row : (p : Place) (r : PlaceRow) → find (λ x. is_at x.list x.address p) rows ≡ Some r → (n : ℕ) × (n < length flow.places) × (place_in flow tree n ≡ p) × (r.distance ≡ distance_of c n)
    found_row p r is =
        let some = find_some (λ (x : PlaceRow). is_at x.list x.address p) rows r is in
        let row : IsPlaceRowAt flow tree c r = All-contains (IsPlaceRowAt flow tree c) rows r rows_are.each some.0 in
        (row.number, row.inside, row.place_is ∙ at_place r.list r.address p some.1, row.distance_is)

    has_row : (p : Place) → Contains flow.places p → (r : PlaceRow) × (find (λ x. is_at x.list x.address p) rows ≡ Some r)
    has_row p has =
        let from = from_map place_of_row rows p (subst (λ (xs : List Place). Contains xs p) (sym rows_are.places_are) has) in
        find_known (λ (x : PlaceRow). is_at x.list x.address p) rows from.0 from.1 (ap (λ (q : Place). is_at (from.0).list (from.0).address q) (sym from.2) ∙ at_itself (from.0).list (from.0).address)

    pub distance_is : (n : ℕ) → n < length flow.places → distance_in rows (place_in flow tree n) ≡ distance_of c n
    distance_is n lt =
        let has = has_row (place n) ((place_numbers flow tree well t).place n lt) in
        let row = found_row (place n) has.0 has.1 in
        let same : row.0 ≡ n = number_is flow tree well t row.0 n (omega (arith, row.1)) (omega arith) row.2 in
        ap (number_or_zero (λ (r : PlaceRow). r.distance)) has.1 ∙ row.3 ∙ ap (λ (m : ℕ). distance_of c m) same

    -- a place without a row has 0
    pub distance-le : (b : ℕ) (p : Place) → ((n : ℕ) → n < length flow.places → place_in flow tree n ≡ p → distance_of c n ≤ b) → distance_in rows p ≤ b
    distance-le b p low = by (find (λ x. is_at x.list x.address p) rows) refl
      where
        by : (o : Option PlaceRow) → find (λ x. is_at x.list x.address p) rows ≡ o → number_or_zero (λ (r : PlaceRow). r.distance) o ≤ b
        by None is = omega arith
        by (Some r) is = let row = found_row p r is in omega (arith, row.3, low row.0 row.1 row.2)

  -- the header's number is that of its instance's header
  same_header : (j k : ℕ) (d : Instance) (s : Span) → j < length tree.instances → k < length tree.instances → header_of (get_or tree.instances j d) ≡ header_of (get_or tree.instances k d) → (get_or tree.spans j s).header ≡ (get_or tree.spans k s).header
  same_header j k d s j_lt k_lt same =
      let x : Instance = get_or tree.instances j d in
      let y : Instance = get_or tree.instances k d in
      let u : Span = get_or tree.spans j s in
      let v : Span = get_or tree.spans k s in
      let of_x : IsSpanOf flow tree x u = t.spans_are.each j d s j_lt in
      let of_y : IsSpanOf flow tree y v = t.spans_are.each k d s k_lt in
      let shape = t.ordered.shape v (Contains-get_or tree.spans k s (omega (arith, t.spans_are.same))) in
      let inside : v.header ≤ exit = omega (arith, shape.0, shape.1) in
      let at_y : is_header y (place v.header) ≡ true = of_y.headers v.header inside ∙ eq-eqb v.header v.header refl in
      let there : place v.header ≡ At x.list x.header = header_place y (place v.header) at_y ∙ sym same in
      let at_x : is_header x (place v.header) ≡ true = ap (λ (p : Place). is_header x p) there ∙ header_itself x in
      sym (eqb-true v.header u.header (sym (of_x.headers v.header inside) ∙ at_x))

  module _ (c : Tables) (rows : List InstanceRow) (rows_are : AreInstanceRowsAt tree c rows) where
    -- what is found for an instance: a row with its span's numbers
    found_numbers : (k : ℕ) (i : Instance) (s : Span) (r : InstanceRow) → k < length tree.instances → row_of rows (get_or tree.instances k i) ≡ Some r → (r.arrival ≡ arrival_of c (get_or tree.spans k s)) × (r.round ≡ round_of c (get_or tree.spans k s))
    found_numbers k i s r lt is =
        let p : Place = header_of (get_or tree.instances k i) in
        let some : Contains rows r × (is_at r.list r.header p ≡ true) = find_some (λ (x : InstanceRow). is_at x.list x.header p) rows r is in
        let row : IsInstanceRowAt tree c r = All-contains (IsInstanceRowAt tree c) rows r rows_are.each some.0 in
        let place_is : header_of (get_or tree.instances row.number i) ≡ p = row.header_is i ∙ at_place r.list r.header p some.1 in
        let header_is : (get_or tree.spans row.number s).header ≡ (get_or tree.spans k s).header = same_header row.number k i s row.inside lt place_is in
        (row.arrival_is s ∙ ap (λ (h : ℕ). slice_index c.arrivals.items h) header_is, row.round_is s ∙ ap (λ (h : ℕ). slice_index c.rounds.items h) header_is)

    has_instance_row : (i : Instance) → Contains tree.instances i → (r : InstanceRow) × (row_of rows i ≡ Some r)
    has_instance_row i has =
        let p : Place = header_of i in
        let in_rows : Contains (map header_of_row rows) p = (rows_are.instances_are p).1 (into_map header_of tree.instances i has) in
        let from : (r : InstanceRow) × Contains rows r × (header_of_row r ≡ p) = from_map header_of_row rows p in_rows in
        let r : InstanceRow = from.0 in
        find_known (λ (x : InstanceRow). is_at x.list x.header p) rows r from.1 (ap (λ (q : Place). is_at r.list r.header q) (sym from.2) ∙ at_itself r.list r.header)

    pub arrivals_same : AgreeBy (λ i. number_or_zero (λ r. r.arrival) (row_of rows i)) (arrival_of c)
    arrivals_same k i s lt =
        let h = has_instance_row (get_or tree.instances k i) (Contains-get_or tree.instances k i lt) in
        ap (number_or_zero (λ (r : InstanceRow). r.arrival)) h.1 ∙ (found_numbers k i s h.0 lt h.1).0

    pub rounds_same : AgreeBy (λ i. number_or_zero (λ r. r.round) (row_of rows i)) (round_of c)
    rounds_same k i s lt =
        let h = has_instance_row (get_or tree.instances k i) (Contains-get_or tree.instances k i lt) in
        ap (number_or_zero (λ (r : InstanceRow). r.round)) h.1 ∙ (found_numbers k i s h.0 lt h.1).1

  -- ## The least numbers

  module _ (c : Tables) (found : AreFound (length flow.places) tree.edges tree.spans c) (bound : ℕ) (bound_is : bound ≡ c.bound) (rows : List PlaceRow) (rows_are : ArePlaceRowsAt flow tree c rows) (instances : List InstanceRow) (instances_are : AreInstanceRowsAt tree c instances) where
    rows_same : AreSame (potentials_of bound rows instances) (T.potentials_of c)
    rows_same = record {
      bound_is = bound_is;
      distances = distance_is c rows rows_are;
      arrivals = arrivals_same c instances instances_are;
      rounds = rounds_same c instances instances_are;
    }

    pub rows_hold : RowsHold flow tree (potentials_of bound rows instances)
    rows_hold = rows_up (potentials_of bound rows instances) (T.potentials_of c) rows_same found.rows_hold

    pub rows_fit : RowsFit flow tree (potentials_of bound rows instances)
    rows_fit = fit_up (potentials_of bound rows instances) (T.potentials_of c) rows_same found.rows_fit

    pub least : AreLeast flow tree (potentials_of bound rows instances)
    least other holds =
        let same : AreSame other (numbered other) = numbered_same other in
        let l = found.least (numbered other) (rows_down other (numbered other) same holds) in
        record {
          bound = omega (arith, l.bound, bound_is);
          distances = λ p some. distance-le c rows rows_are (other.distance p) p
              (λ n lt at. subst (λ (q : Place). distance_of c n ≤ other.distance q) at (l.distances n (ne_eqb n exit (λ is. omega arith))));
          arrivals = agree-le (λ i. number_or_zero (λ r. r.arrival) (row_of instances i)) other.arrival (arrival_of c) (numbered other).arrival (arrivals_same c instances instances_are) same.arrivals l.arrivals;
          rounds = agree-le (λ i. number_or_zero (λ r. r.round) (row_of instances i)) other.round (round_of c) (numbered other).round (rounds_same c instances instances_are) same.rounds l.rounds;
        }
