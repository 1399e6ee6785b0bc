-- What following a line yields: one edge, or a repeat.
use Rattle.std.proofs.Common.{◌≡◌, ◌≢◌, ◌∙◌, ℕ, ◌+◌, ◌-◌, ◌<◌, ◌≤◌, true, false, List, [], ◌∷◌, length, get_or, All, Contains, Option, Some, None, Vec, refl, sym, ap, subst, arith}
use Rattle.std.specs.Prelude.{option_map}
use Rattle.std.proofs.Math.ListN.{length-set}
use Rattle.std.proofs.lemmas.Bool.{and_parts, both_ways, eq-eqb, eqb-true}
use Rattle.std.proofs.lemmas.List.{length-map}
use Rattle.std.proofs.lemmas.List.Elements.{All-nil, All-cons, All-head, All-tail, All-weaker, Contains-get_or}
use Rattle.std.proofs.lemmas.List.Sums.{AllPass-from_list_all}
use Rattle.std.proofs.lemmas.Option.{none-some, same_Some}
use Rattle.std.specs.List.{AllPass, repeat}
use Rattle.asm_text.proofs.WordLaws.{map_is}
use Rattle.walks.specs.Walk.{Leads}
use Rattle.walks.specs.Greatest as G
use Rattle.walks.proofs.Leading.{Leads-repeated}
use Rattle.walks.proofs.RowLemmas.{find_some}
use Rattle.control_flow.specs.declared.places.Place.{Place}
use Rattle.control_flow.specs.declared.edges.Edge.{Edge}
use Rattle.control_flow.specs.Flow.{Flow, HasEdge, IsWellFormed, edge_shape}
use Rattle.numbered_walks.specs.declared.span.NumberedEdge.{NumberedEdge}
use Rattle.numbered_walks.specs.declared.span.Span.{Span}
use Rattle.numbered_walks.specs.Index.{edge_at, edges_of}
use Rattle.numbered_walks.specs.Ordered.{is_in, number_shape}
use Rattle.numbered_walks.specs.Ordered as O
use Rattle.numbered_walks.proofs.Members.{header_in, no_numbered_edge}
use Rattle.loop_bounds.specs.Instance.{is_header, is_member, place_loops}
use Rattle.loop_bounds.specs.Tree.{IsTree, NumbersEdge, Tree, place_in}
use Rattle.longest_walk.specs.Built.{step_at, steps_of}
use Rattle.longest_walk.specs.Folded.{IsCount}
use Rattle.longest_walk.specs.Longest.{AreRepeats, IsBody}
use Rattle.longest_walk.proofs.CarryKeeps.{pass_back}
use Rattle.longest_walk.proofs.CarryWalks.{agree_all, edge_same, instance_of, member_same, number_is, span_of}
use Rattle.longest_walk.proofs.Opening.{All-repeated, map-repeated}
use Rattle.certificate.specs.declared.walk.StepLine.{StepLine}
use Rattle.certificate.specs.declared.walk.CertItem.{CertItem}
use Rattle.certificate.specs.declared.walk.CertItem.TheVariants.{Repeat}
use Rattle.std.specs.declared.alloc.Global.{Global}
use Rattle.cert_check.specs.declared.walker.Round.{Round}
use Rattle.cert_check.specs.declared.index.Index.{Index}
use Rattle.cert_check.specs.declared.walker.Walker.{Walker}
use Rattle.cert_check.specs.Followed.{Followed, edge_named, follow_edge, follow_item, follow_turns, followed, is_named}
use Rattle.walk_counts.specs.Spans.{header_at}
use Rattle.walk_counts.proofs.StayLemmas.{span_there}
use Rattle.cert_check.specs.Walking.{Adds, Arrives, Begins, CanFollow, CannotBegin, EndsIn, IsRefused, IsTaken, capped_cost, gained, turns_after}
use Rattle.cert_check.proofs.WalkNamed.{named_from}
use Rattle.cert_check.proofs.WalkParts.{ends_same, leads_once, repeated-long, some_element, starts_same}
use Rattle.cert_check.proofs.WalkFollowing.{item_repeat, leads_of, some_lines}
use Rattle.cert_check.proofs.WalkerLemmas.{edge_adds, holds_whole, rounds_add, whole_in}

module _ (flow : Flow) (tree : Tree) (index : Index) (well : IsWellFormed flow) (within : Span) (levels : ℕ) (x : Walker) (can : CanFollow flow tree index within x) where
  abbrev exit : ℕ
  exit = length flow.places

  abbrev place : ℕ → Place
  place = place_in flow tree

  abbrev t : IsTree flow tree
  t = can.tree_is

  abbrev LeadsTo : Place → List Edge → Place → Type 0
  LeadsTo p v q = Leads edge_shape (HasEdge flow) p v q

  -- where a walker arrives inside the span, its walk can go on
  ready_at : (y z : Walker) (number cost turns : ℕ) → Arrives index.headers.items number cost turns y z → length y.turns.items ≡ length flow.places + 1
      → number ≤ length flow.places → is_in within number ≡ true → CanFollow flow tree index within z
  ready_at y z number cost turns goes room known inside = record {
    well_formed = well;
    tree_is = t;
    indexed = can.indexed;
    holds_inner = can.holds_inner;
    known = omega (arith, goes.number_is, known);
    inside = subst (λ (n : ℕ). is_in within n ≡ true) (sym goes.number_is) inside;
    room = ap length goes.turns_are ∙ length-set y.turns.items number turns ∙ room;
  }

  -- ## One edge

  abbrev pub by_line : StepLine → Place → Option Followed
  by_line line p = option_map follow_edge (edge_named flow p line)

  module _ (line : StepLine) where
    pub step_unnamed : None ≡ edge_named flow (place_in flow tree x.number) line → IsRefused flow tree within levels (by_line line) x.number
    step_unnamed none f q is leads ends repeats = none-some f (ap (option_map follow_edge) none ∙ is)

    module _ (k : ℕ) (lt : k < length flow.edges) (found : Some (step_at flow.edges k) ≡ edge_named flow (place_in flow tree x.number) line) where
      abbrev e : NumberedEdge
      e = edge_at tree.edges k

      here : NumbersEdge place exit (step_at flow.edges k) (edge_at tree.edges k)
      here = edge_same flow tree well t k lt

      e_in : Contains tree.edges (edge_at tree.edges k)
      e_in = Contains-get_or tree.edges k no_numbered_edge (omega (arith, lt, t.numbered.same))

      from_is : (edge_at tree.edges k).from ≡ x.number
      from_is =
          let named = find_some (is_named (place x.number) line) flow.edges (step_at flow.edges k) (sym found) in
          let low : (edge_at tree.edges k).from < exit = here.from_in in
          number_is flow tree well t (edge_at tree.edges k).from x.number (omega arith) can.known (here.from_is ∙ named_from (place x.number) line (step_at flow.edges k) named.1)

      pub step_outside : is_in within (edge_at tree.edges k).to ≡ false → IsRefused flow tree within levels (by_line line) x.number
      step_outside out f q is leads ends repeats =
          let same : follow_edge (step_at flow.edges k) ≡ f = same_Some (follow_edge (step_at flow.edges k)) f (ap (option_map follow_edge) found ∙ is) in
          let stay : All (EndsIn flow tree within) (step_at flow.edges k ∷ []) = subst (λ (g : Followed). All (EndsIn flow tree within) g.opened.walk) (sym same) ends in
          both_ways (is_in within (edge_at tree.edges k).to) out (All-head (EndsIn flow tree within) (step_at flow.edges k) [] stay (edge_at tree.edges k).to here.to_in here.to_is)

      module _ (y : Walker) (inner : is_in within (edge_at tree.edges k).to ≡ true)
          (goes : Arrives index.headers.items (edge_at tree.edges k).to (capped_cost (x.cost + (edge_at tree.edges k).cost)) (turns_after (header_at index.headers.items (edge_at tree.edges k).to) (edge_at tree.edges k).from (get_or x.turns.items (edge_at tree.edges k).to 0)) x y) where
        to_in : (edge_at tree.edges k).to ≤ length flow.places
        to_in = here.to_in

        step_ready : CanFollow flow tree index within y
        step_ready = ready_at x y _ _ _ goes can.room to_in inner

        pub step_taken : IsTaken flow tree index within levels 1 (by_line line) x y
        step_taken = record {
          walk = follow_edge (step_at flow.edges k);
          numbers = k ∷ [];
          walk_is = ap (option_map follow_edge) (sym found);
          ends = sym here.to_is ∙ ap place (sym goes.number_is);
          inside = All-cons (λ (n : ℕ). n < length flow.edges) k [] lt (All-nil (λ (n : ℕ). n < length flow.edges));
          edges_are = refl;
          leads = (e_in, from_is, sym goes.number_is);
          stays = All-cons (λ (n : NumberedEdge). is_in within n.to ≡ true) (edge_at tree.edges k) [] inner (All-nil (λ (n : NumberedEdge). is_in within n.to ≡ true));
          long = omega arith;
          repeats = record { bodies = All-nil (IsBody flow tree); counts = All-nil IsCount; shallow = omega arith };
          adds = edge_adds exit tree.edges tree.spans t.ordered index.headers.items can.indexed.headers (edge_at tree.edges k) e_in x y (sym from_is) (omega (arith, to_in, can.room)) goes;
          ready = step_ready;
        }

  -- ## A repeat

  -- the walk may go on inside the instance that begins where it is
  pub inside_ready : (span : Span) → header_at index.headers.items x.number ≡ Some span → CanFollow flow tree index span x
  inside_ready span is =
      let known = can.indexed.headers.known x.number span is in
      record {
        well_formed = well;
        tree_is = t;
        indexed = can.indexed;
        holds_inner = λ s s_in inner. holds_whole exit tree.edges tree.spans t.ordered index.headers.items can.indexed.headers span s known.0 s_in inner;
        known = can.known;
        inside = subst (λ (n : ℕ). is_in span n ≡ true) known.1 (header_in exit tree.edges tree.spans t.ordered span known.0);
        room = can.room;
      }

  module _ (k lines : ℕ) (row : Place → Option Followed) (some_edge : (f : Followed) (p : Place) → row p ≡ Some f → f.opened.walk ≢ [] → 0 < lines) where
    abbrev pub times : Place → Option Followed
    times p = option_map (follow_turns k) (row p)

    -- what a repeat that is as it has to be turns
    record TurnsIn (n : ℕ) (g : Followed) : Type 0 where
      span : Span
      in_tree : Contains tree.spans span
      header_is : span.header ≡ n
      leads : LeadsTo (place n) g.opened.walk (place n)
      ends : All (EndsIn flow tree span) g.opened.walk
      repeats : AreRepeats flow tree (levels - 1) g.opened
      some_level : 0 < levels
      count_is : IsCount k
      some_line : 0 < lines

    turns_in : (g : Followed) (q : Place) → row (place x.number) ≡ Some g → LeadsTo (place x.number) (repeat k g.opened.walk) q → AreRepeats flow tree levels (follow_turns k g).opened → TurnsIn x.number g
    turns_in g q is leads repeats =
        let v : List Edge = g.opened.walk in
        let body : IsBody flow tree v = All-head (IsBody flow tree) v g.opened.bodies repeats.bodies in
        let count : IsCount k = All-head IsCount k g.opened.counts repeats.counts in
        let once = leads_once edge_shape (HasEdge flow) (place x.number) q k v count.0 leads in
        let at : place x.number ≡ body.header = starts_same edge_shape (HasEdge flow) (place x.number) body.header once.0 body.header v body.some once.1 body.turns in
        let h = span_of flow tree well t body.instance body.in_tree in
        let span : Span = h.span in
        let is_there : is_header body.instance (place x.number) ≡ true = ap (is_header body.instance) at ∙ body.header_is in
        record {
          span = span;
          in_tree = h.in_tree;
          header_is = sym (eqb-true x.number span.header (sym (h.span_is.headers x.number can.known) ∙ is_there));
          leads = subst (λ (p : Place). LeadsTo p v p) (sym at) body.turns;
          ends = All-weaker (λ (e : Edge). G.is_inside edge_shape place_loops body.instance e ≡ true) (EndsIn flow tree span)
              (λ e in_it n le to. sym (member_same flow tree well t body.instance span h.span_is e.to n le to) ∙ (and_parts (is_member body.instance e.from) (is_member body.instance e.to) in_it).1) v body.stays;
          repeats = record {
            bodies = All-tail (IsBody flow tree) v g.opened.bodies repeats.bodies;
            counts = All-tail IsCount k g.opened.counts repeats.counts;
            shallow = omega (arith, repeats.shallow);
          };
          some_level = omega (arith, repeats.shallow);
          count_is = count;
          some_line = some_edge g (place x.number) is body.some;
        }

    -- a repeat is refused where no such turns are found
    refused_turns : ((g : Followed) → row (place x.number) ≡ Some g → TurnsIn x.number g → ⊥) → IsRefused flow tree within levels times x.number
    refused_turns none f q is leads ends repeats =
        let g = map_is (follow_turns k) (row (place x.number)) f is in
        none g.0 g.1 (turns_in g.0 q g.1 (subst (λ (h : Followed). LeadsTo (place x.number) h.opened.walk q) (sym g.2) leads) (subst (λ (h : Followed). AreRepeats flow tree levels h.opened) (sym g.2) repeats))

    pub repeat_cannot : CannotBegin index.headers.items x levels k lines → IsRefused flow tree within levels times x.number
    repeat_cannot cannot = refused_turns (λ g is turns.
        cannot turns.span (span_there exit tree.edges tree.spans t.ordered index.headers.items can.indexed.headers x.number turns.span turns.in_tree turns.header_is) turns.some_level turns.count_is turns.some_line)

    module _ (r : Round) (begins : Begins index.headers.items x levels k lines r) where
      span_known : Contains tree.spans r.span × (r.span.header ≡ x.number)
      span_known = can.indexed.headers.known x.number r.span begins.span_is

      header_is : r.span.header ≡ x.number
      header_is = span_known.1

      ready : CanFollow flow tree index r.span x
      ready = inside_ready r.span begins.span_is

      -- it is the one instance that begins there
      same_span : (s : Span) → Contains tree.spans s → s.header ≡ x.number → s ≡ r.span
      same_span s s_in is = same_Some s r.span (sym (span_there exit tree.edges tree.spans t.ordered index.headers.items can.indexed.headers x.number s s_in is) ∙ begins.span_is)

      pub repeat_refused : IsRefused flow tree r.span (levels - 1) row x.number → IsRefused flow tree within levels times x.number
      repeat_refused refused = refused_turns (λ g is turns.
          refused g (place x.number) is turns.leads (subst (λ (s : Span). All (EndsIn flow tree s) g.opened.walk) (same_span turns.span turns.in_tree turns.header_is) turns.ends) turns.repeats)

      module _ (y : Walker) (once : IsTaken flow tree index r.span (levels - 1) lines row x y) where
        pub repeat_open : (y.number ≡ r.span.header → ⊥) → IsRefused flow tree within levels times x.number
        repeat_open other = refused_turns (λ g is turns.
            let same : once.walk ≡ g = same_Some once.walk g (sym once.walk_is ∙ is) in
            let leads : LeadsTo (place x.number) g.opened.walk (place y.number) = subst (λ (h : Followed). LeadsTo (place x.number) h.opened.walk (place y.number)) same (leads_of flow tree index well r.span (levels - 1) lines row x y t once) in
            let back : place y.number ≡ place x.number = ends_same edge_shape (HasEdge flow) (place x.number) (place y.number) (place x.number) g.opened.walk leads turns.leads in
            other (number_is flow tree well t y.number x.number once.ready.known can.known back ∙ sym header_is))

        module _ (closed : y.number ≡ r.span.header) (z : Walker) (goes : Arrives index.headers.items y.number (gained r.cost y.cost k) (gained r.turns (get_or y.turns.items y.number 0) k) y z) where
          abbrev v : List NumberedEdge
          v = edges_of tree.edges once.numbers

          back : y.number ≡ x.number
          back = closed ∙ header_is

          many : edges_of tree.edges (repeat k once.numbers) ≡ repeat k (edges_of tree.edges once.numbers)
          many = map-repeated (edge_at tree.edges) k once.numbers

          body_long : 1 ≤ length once.walk.opened.walk
          body_long = let few : lines ≤ length once.walk.opened.walk = once.long in omega (arith, few, begins.some_line)

          turn : O.Leads tree.edges x.number (edges_of tree.edges once.numbers) x.number
          turn = subst (λ (n : ℕ). O.Leads tree.edges x.number (edges_of tree.edges once.numbers) n) back once.leads

          numbers_some : edges_of tree.edges once.numbers ≢ []
          numbers_some is =
              let none : length once.walk.opened.walk ≡ length (edges_of tree.edges once.numbers) = ap length once.edges_are ∙ length-map once.numbers (step_at flow.edges) ∙ sym (length-map once.numbers (edge_at tree.edges)) in
              omega (arith, none, ap length is, body_long)

          body : IsBody flow tree once.walk.opened.walk
          body =
              let i = instance_of flow tree well t r.span span_known.0 in
              let all_in : AllPass (O.is_inside r.span) (edges_of tree.edges once.numbers) =
              AllPass-from_list_all (O.is_inside r.span) (edges_of tree.edges once.numbers) (whole_in exit tree.edges tree.spans t.ordered index.headers.items can.indexed.headers r.span x.number x.number (edges_of tree.edges once.numbers) turn ready.inside once.stays) in
              let stays : AllPass (G.is_inside edge_shape place_loops i.instance) (steps_of flow.edges once.numbers) =
              pass_back (step_at flow.edges) (edge_at tree.edges) (G.is_inside edge_shape place_loops i.instance) (G.ends_at_header edge_shape place_loops i.instance) (O.is_inside r.span) (O.ends_at_header r.span) once.numbers (agree_all flow tree well t i.instance r.span i.span_is once.numbers once.inside) all_in in
              record {
                some = some_element once.walk.opened.walk body_long;
                instance = i.instance;
                in_tree = i.in_tree;
                header = place x.number;
                header_is = i.span_is.headers x.number can.known ∙ eq-eqb x.number r.span.header (sym header_is);
                turns = subst (λ (n : ℕ). LeadsTo (place x.number) once.walk.opened.walk (place n)) back (leads_of flow tree index well r.span (levels - 1) lines row x y t once);
                stays = subst (λ (w : List Edge). AllPass (G.is_inside edge_shape place_loops i.instance) w) (sym once.edges_are) stays;
              }

          repeat_ready : CanFollow flow tree index within z
          repeat_ready = ready_at y z _ _ _ goes once.ready.room (omega (arith, back, can.known)) (subst (λ (n : ℕ). is_in within n ≡ true) (sym back) can.inside)

          arrives : Arrives index.headers.items x.number (gained x.cost y.cost k) (gained (get_or x.turns.items x.number 0) (get_or y.turns.items x.number 0) k) y z
          arrives =
              subst (λ (n : ℕ). Arrives index.headers.items n (gained x.cost y.cost k) (gained (get_or x.turns.items x.number 0) (get_or y.turns.items n 0) k) y z) back
              (subst (λ (c : ℕ). Arrives index.headers.items y.number (gained c y.cost k) (gained (get_or x.turns.items x.number 0) (get_or y.turns.items y.number 0) k) y z) begins.cost_is
              (subst (λ (c : ℕ). Arrives index.headers.items y.number (gained r.cost y.cost k) (gained c (get_or y.turns.items y.number 0) k) y z) begins.turns_are goes))

          repeat_adds : Adds tree.spans x z (edges_of tree.edges (repeat k once.numbers))
          repeat_adds =
              subst (λ (w : List NumberedEdge). Adds tree.spans x z w) (sym many)
              (rounds_add exit tree.edges tree.spans t.ordered index.headers.items can.indexed.headers r.span span_known.0 x.number k header_is (edges_of tree.edges once.numbers) numbers_some turn once.stays x y z refl back (omega (arith, once.ready.room, can.known)) begins.count_is.0 arrives once.adds)

          pub repeat_taken : IsTaken flow tree index within levels 1 times x z
          repeat_taken = record {
            walk = follow_turns k once.walk;
            numbers = repeat k once.numbers;
            walk_is = ap (option_map (follow_turns k)) once.walk_is;
            ends = once.ends ∙ ap place (sym goes.number_is);
            inside = All-repeated (λ (n : ℕ). n < length flow.edges) k once.numbers once.inside;
            edges_are = ap (repeat k) once.edges_are ∙ sym (map-repeated (step_at flow.edges) k once.numbers);
            leads = subst (λ (w : List NumberedEdge). O.Leads tree.edges x.number w z.number) (sym many)
                (subst (λ (n : ℕ). O.Leads tree.edges x.number (repeat k (edges_of tree.edges once.numbers)) n) (sym (goes.number_is ∙ back)) (Leads-repeated number_shape (Contains tree.edges) k x.number (edges_of tree.edges once.numbers) turn));
            stays = subst (λ (w : List NumberedEdge). All (λ e. is_in within e.to ≡ true) w) (sym many)
                (All-repeated (λ (e : NumberedEdge). is_in within e.to ≡ true) k (edges_of tree.edges once.numbers)
                (All-weaker (λ (e : NumberedEdge). is_in r.span e.to ≡ true) (λ (e : NumberedEdge). is_in within e.to ≡ true)
                (λ e inner. can.holds_inner r.span span_known.0 (subst (λ (n : ℕ). is_in within n ≡ true) (sym header_is) can.inside) e.to inner) (edges_of tree.edges once.numbers) once.stays));
            long = repeated-long 1 k once.walk.opened.walk begins.count_is.0 body_long;
            repeats = record {
              bodies = All-cons (IsBody flow tree) once.walk.opened.walk once.walk.opened.bodies body once.repeats.bodies;
              counts = All-cons IsCount k once.walk.opened.counts begins.count_is once.repeats.counts;
              shallow = omega (arith, once.repeats.shallow, begins.some_level);
            };
            adds = repeat_adds;
            ready = repeat_ready;
          }

  -- ## A repeat as a line

  module _ (item : CertItem) (k : ℕ) (body : Vec CertItem Global) (item_is : item ≡ Repeat k body) (lines : List CertItem) (lines_are : lines ≡ body.items) where
    abbrev turns : Place → Option Followed
    turns p = option_map (follow_turns k) (followed flow body.items p)

    lines_is : (λ (p : Place). option_map (follow_turns k) (followed flow body.items p)) ≡ follow_item flow item
    lines_is = sym (ap (follow_item flow) item_is ∙ item_repeat flow k body)

    refused_item : IsRefused flow tree within levels turns x.number → IsRefused flow tree within levels (follow_item flow item) x.number
    refused_item = subst (λ (ls : Place → Option Followed). IsRefused flow tree within levels ls x.number) lines_is

    pub item_cannot : CannotBegin index.headers.items x levels k (length lines) → IsRefused flow tree within levels (follow_item flow item) x.number
    item_cannot cannot =
        refused_item (repeat_cannot k (length body.items) (followed flow body.items) (some_lines flow body.items)
        (subst (λ (xs : List CertItem). CannotBegin index.headers.items x levels k (length xs)) lines_are cannot))

    module _ (r : Round) (begins : Begins index.headers.items x levels k (length lines) r) where
      begun : Begins index.headers.items x levels k (length body.items) r
      begun = subst (λ (xs : List CertItem). Begins index.headers.items x levels k (length xs) r) lines_are begins

      module _ (again : List CertItem) (again_are : again ≡ body.items) where
        pub item_broken : IsRefused flow tree r.span (levels - 1) (followed flow again) x.number → IsRefused flow tree within levels (follow_item flow item) x.number
        item_broken refused =
            refused_item (repeat_refused k (length body.items) (followed flow body.items) (some_lines flow body.items) r begun
            (subst (λ (xs : List CertItem). IsRefused flow tree r.span (levels - 1) (followed flow xs) x.number) again_are refused))

        module _ (y : Walker) (once : IsTaken flow tree index r.span (levels - 1) (length again) (followed flow again) x y) where
          taken : IsTaken flow tree index r.span (levels - 1) (length body.items) (followed flow body.items) x y
          taken = subst (λ (xs : List CertItem). IsTaken flow tree index r.span (levels - 1) (length xs) (followed flow xs) x y) again_are once

          pub item_open : (y.number ≡ r.span.header → ⊥) → IsRefused flow tree within levels (follow_item flow item) x.number
          item_open other = refused_item (repeat_open k (length body.items) (followed flow body.items) (some_lines flow body.items) r begun y taken other)

          pub item_taken : y.number ≡ r.span.header → (z : Walker) (gs : List (Option Span)) → gs ≡ index.headers.items → Arrives gs y.number (gained r.cost y.cost k) (gained r.turns (get_or y.turns.items y.number 0) k) y z → IsTaken flow tree index within levels 1 (follow_item flow item) x z
          item_taken closed z gs gs_are goes =
              subst (λ (ls : Place → Option Followed). IsTaken flow tree index within levels 1 ls x z) lines_is
              (repeat_taken k (length body.items) (followed flow body.items) (some_lines flow body.items) r begun y taken closed z
              (subst (λ (ks : List (Option Span)). Arrives ks y.number (gained r.cost y.cost k) (gained r.turns (get_or y.turns.items y.number 0) k) y z) gs_are goes))
