-- Rounds of instances, inner ones first, and the walk that they make whole.
use Rattle.std.proofs.Common.{◌≡◌, ◌≢◌, ◌∙◌, ℕ, ◌+◌, ◌<◌, List, [], ◌∷◌, ◌++◌, ⊎_elim, Option, Some, None, Contains, length, get_or, set, map, sym, ap, subst, arith}
use Rattle.std.proofs.Math.ListN.{length-set}
use Rattle.std.proofs.lemmas.Bool.{cases_lt, both_ways}
use Rattle.std.proofs.lemmas.List.{get_or-set_same, get_or-set_other, get_or_default, map-append}
use Rattle.std.proofs.lemmas.List.Elements.{Contains-get_or}
use Rattle.std.specs.List.{repeat}
use Rattle.control_flow.specs.declared.edges.Edge.{Edge}
use Rattle.control_flow.specs.Flow.{Flow}
use Rattle.numbered_walks.specs.declared.span.Span.{Span}
use Rattle.numbered_walks.specs.declared.tables.Tables.{Tables}
use Rattle.numbered_walks.specs.declared.index.Index.{Index}
use Rattle.numbered_walks.specs.Index.{edge_at, edges_of, span_at}
use Rattle.numbered_walks.specs.Tables.{is_header_in, round_of}
use Rattle.numbered_walks.specs.Found.{IsTurning}
use Rattle.numbered_walks.specs.Reach.{AreRoundsOf, IsRoundOf}
use Rattle.numbered_walks.proofs.Passing.{header_there}
use Rattle.numbered_walks.proofs.Paths as P
use Rattle.numbered_walks.proofs.Members.{no_span}
use Rattle.loop_bounds.specs.Tree.{Tree}
use Rattle.longest_walk.specs.Folded.{Opened, joined, one_edge, open_item, open_items, turned}
use Rattle.longest_walk.specs.Built.{AreRising, IsBuilt, IsRisingBody, step_at}
use Rattle.longest_walk.specs.Ways.{AreSearched, AreRounds, HasRounds, IsAlong, IsFollowed, IsRound, IsRounds, IsWay, depth_at, opened_rounds, opened_way, rounds_at}
use Rattle.longest_walk.specs.declared.folded.Item.{Item}
use Rattle.longest_walk.specs.declared.folded.Item.TheVariants.{Step}
use Rattle.longest_walk.specs.declared.rounds.Rounds.{Rounds}
use Rattle.longest_walk.proofs.Along.{along_append, along_edge, along_none, along_repeat, along_room}
use Rattle.longest_walk.proofs.Opening.{map-repeated, open-step, opened-more}
use Rattle.longest_walk.proofs.WayLemmas.{follow_entry, follow_header, follow_way}
use Rattle.longest_walk.proofs.Levels.{before}
use Rattle.longest_walk.proofs.Rising.{round_rises, walk_rises}

not_none : (ks : List ℕ) (k : ℕ) → ks ++ k ∷ [] ≢ []
not_none [] k is = cc
not_none (x ∷ ks) k is = cc

module _ (flow : Flow) (tree : Tree) (index : Index) (c : Tables) (g : AreSearched flow tree index c) where
  abbrev exit : ℕ
  exit = length flow.places

  -- a back edge closes a round
  pub round_closed : (s : Span) → Contains tree.spans s → (k : ℕ) → IsTurning tree.edges tree.spans c s k → (items : List Opened) → IsFollowed flow tree c (Some s) (edge_at tree.edges k).from items
      → IsRisingBody flow tree (joined (items ++ one_edge (step_at flow.edges k) ∷ [])).outside → IsRound flow tree c s (items ++ one_edge (step_at flow.edges k) ∷ [])
  round_closed s s_in k by items f rising =
      let level : ℕ = depth_at tree.spans s.header + 1 in
      record {
        numbers = f.numbers ++ k ∷ [];
        some = not_none f.numbers k;
        bound_some = by.some;
        round = subst (IsRoundOf tree.edges tree.spans c s) (sym (map-append (edge_at tree.edges) f.numbers (k ∷ []))) (P.turn exit tree.edges tree.spans c g.tree_is.ordered g.found s s_in k by (edges_of tree.edges f.numbers) f.path);
        along = along_append flow tree c level f.numbers (k ∷ []) items (one_edge (step_at flow.edges k) ∷ []) f.along
            (along_edge flow tree c level k (along_room flow tree c level f.numbers (joined items) f.along) (omega (arith, by.inside, g.tree_is.numbered.same)));
        rising = rising;
      }

  -- the items of a way from the header, and a back edge
  pub round_made : (s : Span) → Contains tree.spans s → (k : ℕ) → IsTurning tree.edges tree.spans c s k → (table : List (Option Rounds)) → HasRounds flow tree c (Some s) table → (way : List ℕ) (items pushed : List Item) (e : Edge) → IsWay tree.edges tree.spans c (Some s) s.header way (edge_at tree.edges k).from
      → map open_item items ≡ opened_way flow tree table way → pushed ≡ items ++ Step e ∷ [] → e ≡ get_or flow.edges k e → IsRound flow tree c s (map open_item pushed)
  round_made s s_in k by table has way items pushed e is_way items_are pushed_is e_is =
      let step : e ≡ step_at flow.edges k = e_is ∙ get_or_default flow.edges k e _ (omega (arith, by.inside, g.tree_is.numbered.same)) in
      let followed = follow_way flow tree index c g table (Some s) s_in has s.header (edge_at tree.edges k).from way [] (follow_header flow tree index c g s s_in) is_way in
      subst (IsRound flow tree c s)
      (sym (ap (map open_item) pushed_is ∙ opened-more items (Step e) (one_edge e) (open-step e) ∙ ap (λ (os : List Opened). os ++ one_edge e ∷ []) items_are ∙ ap (λ (x : Edge). opened_way flow tree table way ++ one_edge x ∷ []) step))
      (round_closed s s_in k by (opened_way flow tree table way) followed (round_rises flow tree index c g s k by table way is_way))

  -- as many rounds as the bound says
  pub rounds_some : (s : Span) → Contains tree.spans s → (r : Rounds) → r.count ≡ s.bound → IsRound flow tree c s (map open_item r.body.value.items) → IsRounds flow tree c s (Some r)
  rounds_some s s_in r count one = record {
    numbers = repeat s.bound one.numbers;
    rounds = subst (AreRoundsOf tree.edges tree.spans c s) (sym (map-repeated (edge_at tree.edges) s.bound one.numbers)) (P.rounds exit tree.edges tree.spans c g.tree_is.ordered g.found s s_in (edges_of tree.edges one.numbers) one.round);
    along = subst (λ (n : ℕ). IsAlong flow tree c (depth_at tree.spans s.header) (repeat s.bound one.numbers) (joined (turned n (open_items r.body.value.items) ∷ []))) (sym count)
        (along_repeat flow tree c s s_in (g.tree_is.ordered.shape s s_in).2 (depth_at tree.spans s.header) one.numbers (open_items r.body.value.items) one.some one.bound_some one.round one.along one.rising);
  }

  -- no round, where one costs nothing
  pub rounds_none : (s : Span) → round_of c s ≡ 0 → IsRounds flow tree c s None
  rounds_none s none = record {
    numbers = [];
    rounds = P.no_rounds exit tree.edges tree.spans c g.tree_is.ordered g.found s none;
    along = along_none flow tree c (depth_at tree.spans s.header) (omega (arith, g.tree_is.ordered.shallow s.header));
  }

  -- ## The rounds of all instances

  pub header_inside : (n : ℕ) → n < length tree.spans → (span_at tree.spans n).header < exit + 1
  header_inside n lt = let shape = g.tree_is.ordered.shape (span_at tree.spans n) (Contains-get_or tree.spans n _ lt) in omega (arith, shape.0, shape.1)

  pub rounds_more : (done : ℕ) (table : List (Option Rounds)) (entry : Option Rounds) → done < length tree.spans → AreRounds flow tree c done table → IsRounds flow tree c (span_at tree.spans done) entry → AreRounds flow tree c (done + 1) (set table (span_at tree.spans done).header entry)
  rounds_more done table entry lt all one =
      let s = span_at tree.spans done in
      let s_in : Contains tree.spans s = Contains-get_or tree.spans done no_span lt in
      let small : s.header < length table = omega (arith, header_inside done lt, all.whole) in
      record {
        whole = length-set table s.header entry ∙ all.whole;
        known = λ n low inside. ⊎_elim
            (λ earlier.
            let differ : (span_at tree.spans n).header ≢ s.header = g.tree_is.ordered.headers_differ n done no_span earlier lt in
            subst (IsRounds flow tree c (span_at tree.spans n)) (sym (get_or-set_other table s.header (span_at tree.spans n).header entry None differ)) (all.known n earlier inside))
            (λ later.
            let same : n ≡ done = omega arith in
            subst (λ (m : ℕ). IsRounds flow tree c (span_at tree.spans m) (rounds_at (set table s.header entry) (span_at tree.spans m).header)) (sym same)
            (subst (IsRounds flow tree c s) (sym (get_or-set_same table s.header entry None small)) one))
            (cases_lt n done);
        plain = λ p no_header.
            let differ : p ≢ s.header = λ is. both_ways (is_header_in tree.spans p) no_header (header_there tree.spans p s s_in is) in
            get_or-set_other table s.header p entry None differ ∙ all.plain p no_header;
      }

  pub rounds_inside : (done : ℕ) (table : List (Option Rounds)) → done < length tree.spans → AreRounds flow tree c done table → HasRounds flow tree c (Some (span_at tree.spans done)) table
  rounds_inside done table lt all = record {
    whole = all.whole;
    known = λ s s_in inside later.
        let at = before exit tree.edges tree.spans g.tree_is.ordered done lt s s_in inside later in
        subst (λ (x : Span). IsRounds flow tree c x (rounds_at table x.header)) at.2 (all.known at.0 at.1 (omega (arith, at.1)));
    plain = all.plain;
  }

  pub rounds_known : (table : List (Option Rounds)) → AreRounds flow tree c (length tree.spans) table → (s : Span) → Contains tree.spans s → IsRounds flow tree c s (rounds_at table s.header)
  rounds_known table all s s_in =
      let at : span_at tree.spans s_in.0 ≡ s = get_or_default tree.spans s_in.0 no_span s s_in.1 ∙ s_in.2 in
      subst (λ (x : Span). IsRounds flow tree c x (rounds_at table x.header)) at (all.known s_in.0 s_in.1 s_in.1)

  pub rounds_whole : (table : List (Option Rounds)) → AreRounds flow tree c (length tree.spans) table → HasRounds flow tree c None table
  rounds_whole table all = record { whole = all.whole; known = λ s s_in inside later. rounds_known table all s s_in; plain = all.plain }

  -- ## The whole walk

  built : (items : List Item) → IsFollowed flow tree c None exit (map open_item items) → AreRising flow tree (open_items items).outside → IsBuilt flow tree c items
  built items f rising = record {
    numbers = f.numbers;
    inside = f.along.inside;
    walk_is = f.along.walk_is;
    path = f.path;
    bodies = f.along.bodies;
    counts = f.along.counts;
    shallow = omega (arith, f.along.shallow);
    all_rounds = f.along.all_rounds;
    walk_rises = rising;
    bodies_rise = f.along.bodies_rise;
  }

  -- the rounds of an instance that begins at the entry, and the items of a way to Exit
  pub walk_made : (table : List (Option Rounds)) → AreRounds flow tree c (length tree.spans) table → (way : List ℕ) (items : List Item) → IsWay tree.edges tree.spans c None 0 way exit → map open_item items ≡ opened_rounds (rounds_at table 0) ++ opened_way flow tree table way → IsBuilt flow tree c items
  walk_made table all way items is_way items_are =
      let first = follow_entry flow tree index c g table (rounds_known table all) all.plain in
      built items (subst (IsFollowed flow tree c None exit) (sym items_are) (follow_way flow tree index c g table None tt (rounds_whole table all) 0 exit way (opened_rounds (rounds_at table 0)) first is_way))
      (subst (λ (os : List Opened). AreRising flow tree (joined os).outside) (sym items_are) (walk_rises flow tree index c g exit (rounds_at table 0) table way is_way))
