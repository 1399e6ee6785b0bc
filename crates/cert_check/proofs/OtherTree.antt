-- Two trees of a graph with the same instances have the same greatest walks: what is asked of a walk and of its numbers
-- asks for the instances, in whatever order they are.
use Rattle.std.proofs.Common.{◌≡◌, ◌∙◌, ◌↔◌, ℕ, ◌+◌, ◌*◌, ◌^◌, ◌<◌, ◌≤◌, true, cond, List, length, get_or, map, sum_by, Contains, Option, Some, None, refl, sym, ap, subst, arith}
use Rattle.std.specs.List.{find}
use Rattle.std.specs.Option.{IfSome}
use Rattle.std.proofs.lemmas.List.{get_or_default, length-map, get_or-map}
use Rattle.std.proofs.lemmas.List.Elements.{All-weaker}
use Rattle.walks.specs.Rows as rows
use Rattle.control_flow.specs.declared.places.Place.{Place}
use Rattle.control_flow.specs.declared.places.Place.TheVariants.{Exit}
use Rattle.control_flow.specs.declared.edges.Edge.{Edge}
use Rattle.control_flow.specs.Flow.{Flow, edge_shape}
use Rattle.control_flow.proofs.LabelLemmas.{from_map, into_map}
use Rattle.loop_bounds.specs.Instance.{Instance, is_header, place_loops}
use Rattle.loop_bounds.specs.Tree.{IsTree, Tree}
use Rattle.loop_bounds.proofs.ExtentOf.{header_place}
use Rattle.longest_walk.specs.declared.folded.Longest.{Longest}
use Rattle.longest_walk.specs.Folded.{open_items}
use Rattle.longest_walk.specs.Longest.{AreAllRounds, IsBody, IsLongest, KeepsTree, TreeTooLarge}
use Rattle.longest_walk.specs.Rows.{RowsFit, RowsHold, header_of, is_exit, potentials_of}
use Rattle.image.proofs.ZipLemmas.{AllZip-weaker}
use Rattle.longest_walk.proofs.RowLemmas.{headers_once}
use Rattle.cert_check.proofs.SameMembers.{Differ, Within, find_same, sum_same}

-- ## The instances of one tree

module _ (flow : Flow) (tree : Tree) (t : IsTree flow tree) where
  -- those with one header are the same
  same_number : (i j : ℕ) (x y : Instance) → i < length tree.instances → j < length tree.instances → header_of (get_or tree.instances i x) ≡ header_of (get_or tree.instances j y) → i ≡ j
  same_number i j x y i_in j_in same =
      headers_once flow tree t i j Exit (omega (arith, i_in, length-map tree.instances header_of)) (omega (arith, j_in, length-map tree.instances header_of))
      (get_or-map header_of tree.instances i x Exit i_in ∙ same ∙ sym (get_or-map header_of tree.instances j y Exit j_in))

  instances_differ : Differ tree.instances
  instances_differ i j d less lt same =
      let is : i ≡ j = same_number i j d d (omega arith) lt (ap header_of same) in
      omega arith

  one_header : (p : Place) (x y : Instance) → Contains tree.instances x → Contains tree.instances y → is_header x p ≡ true → is_header y p ≡ true → x ≡ y
  one_header p x y h k at to =
      let same : header_of (get_or tree.instances h.0 x) ≡ header_of (get_or tree.instances k.0 y) = ap header_of h.2 ∙ sym (header_place x p at) ∙ header_place y p to ∙ sym (ap header_of k.2) in
      let is : h.0 ≡ k.0 = same_number h.0 k.0 x y h.1 k.1 same in
      sym h.2 ∙ ap (λ (n : ℕ). get_or tree.instances n x) is ∙ get_or_default tree.instances k.0 x y k.1 ∙ k.2

-- ## From one tree to the other

module _ (flow : Flow) (tree other : Tree) (t : IsTree flow tree) (u : IsTree flow other) (to : Within tree.instances other.instances) (from : Within other.instances tree.instances) where
  kept_over : (walk : List Edge) → KeepsTree tree walk → KeepsTree other walk
  kept_over walk kept i has = kept i (from i has)

  body_over : (body : List Edge) → IsBody flow tree body → IsBody flow other body
  body_over body b = record { some = b.some; instance = b.instance; in_tree = to b.instance b.in_tree; header = b.header; header_is = b.header_is; turns = b.turns; stays = b.stays }

  rounds_over : (count : ℕ) (body : List Edge) → AreAllRounds flow tree count body → AreAllRounds flow other count body
  unfolding body_over
  rounds_over count body a = record { body_is = body_over body a.body_is; count_is = a.count_is }

  too_large_over : TreeTooLarge flow tree → TreeTooLarge flow other
  too_large_over w = record { place = w.place; walk = w.walk; leads = w.leads; kept = kept_over w.walk w.kept; costs = w.costs }

  headers_over : (p : Place) → Contains (map header_of tree.instances) p → Contains (map header_of other.instances) p
  headers_over p has =
      let one = from_map header_of tree.instances p has in
      subst (Contains (map header_of other.instances)) one.2 (into_map header_of other.instances one.0 (to one.0 one.1))

  -- ## Rows

  module _ (c : rows.Potentials Place Instance) (e : Edge) where
    abbrev needed_in : Tree → ℕ
    needed_in tr = rows.needed edge_shape place_loops tr.instances c e

    abbrev limit_in : Tree → Option ℕ
    limit_in tr = rows.limit_of edge_shape place_loops tr.instances c is_exit e

    abbrev spent : Instance → ℕ
    spent i = cond (rows.is_left edge_shape place_loops e i) (c.arrival i + i.bound * c.round i) 0

    same_needed : needed_in tree ≡ needed_in other
    same_needed =
        let sums : sum_by spent tree.instances ≡ sum_by spent other.instances = sum_same spent tree.instances other.instances (instances_differ flow tree t) (instances_differ flow other u) to from in
        (λ k. c.distance e.from + sums k + e.cost)

    limit_alike : (o : Option Instance) → rows.limit_at edge_shape place_loops tree.instances c is_exit e o ≡ rows.limit_at edge_shape place_loops other.instances c is_exit e o
    limit_alike None = refl
    limit_alike (Some i) = refl

    same_limit : limit_in tree ≡ limit_in other
    same_limit =
        ap (rows.limit_at edge_shape place_loops tree.instances c is_exit e) (find_same (λ i. is_header i e.to) tree.instances other.instances to from (λ x y. one_header flow tree t e.to x y))
        ∙ limit_alike (find (λ i. is_header i e.to) other.instances)

    row_over : rows.RowHolds edge_shape place_loops tree.instances c is_exit e → rows.RowHolds edge_shape place_loops other.instances c is_exit e
    row_over row = subst (λ (m : ℕ). IfSome (limit_in other) (λ n. m ≤ n)) same_needed (subst (λ (o : Option ℕ). IfSome o (λ n. needed_in tree ≤ n)) same_limit row)

    fit_over : rows.RowFits edge_shape place_loops tree.instances c is_exit e → rows.RowFits edge_shape place_loops other.instances c is_exit e
    fit_over row = subst (λ (m : ℕ). IfSome (limit_in other) (λ _. m < 2 ^ 63)) same_needed (subst (λ (o : Option ℕ). IfSome o (λ _. needed_in tree < 2 ^ 63)) same_limit row)

  rows_over : (c : rows.Potentials Place Instance) → RowsHold flow tree c → RowsHold flow other c
  rows_over c hold e has = row_over c e (hold e has)

  fits_over : (c : rows.Potentials Place Instance) → RowsFit flow tree c → RowsFit flow other c
  fits_over c fit e has = fit_over c e (fit e has)

-- ## The greatest walk

module _ (flow : Flow) (tree other : Tree) (t : IsTree flow tree) (u : IsTree flow other) (same : (i : Instance) → Contains tree.instances i ↔ Contains other.instances i) where
  to : Within tree.instances other.instances
  to i has = (same i).0 has

  from : Within other.instances tree.instances
  from i has = (same i).1 has

  pub longest_by_other : (l : Longest) → IsLongest flow tree l → IsLongest flow other l
  longest_by_other l is =
      let c : rows.Potentials Place Instance = potentials_of l.bound l.potentials.places l.potentials.instances in
      let g = is.greatest in
      let w = is.walk_is in
      record {
        greatest = record {
          walk = g.walk;
          complete = g.complete;
          kept = kept_over flow tree other t u to from g.walk g.kept;
          costs = g.costs;
          upper = λ walk complete kept. g.upper walk complete (kept_over flow other tree u t from to walk kept);
        };
        walk_is = record {
          complete = w.complete;
          kept = λ i has. w.kept i (from i has);
          costs = w.costs;
          repeats = record {
            bodies = All-weaker (IsBody flow tree) (IsBody flow other) (body_over flow tree other t u to from) (open_items l.walk).bodies w.repeats.bodies;
            counts = w.repeats.counts;
            shallow = w.repeats.shallow;
          };
          folded = record {
            all_rounds = AllZip-weaker (AreAllRounds flow tree) (AreAllRounds flow other) (rounds_over flow tree other t u to from) (open_items l.walk).counts (open_items l.walk).bodies w.folded.all_rounds;
            walk_once = w.folded.walk_once;
            bodies_once = w.folded.bodies_once;
            bodies_some = w.folded.bodies_some;
          };
        };
        none_too_large = λ large. is.none_too_large (too_large_over flow other tree u t from to large);
        rows_are = record {
          places_are = is.rows_are.places_are;
          ascending = is.rows_are.ascending;
          instances_are = λ p. (
            λ has. headers_over flow tree other t u to from p ((is.rows_are.instances_are p).0 has),
            λ has. (is.rows_are.instances_are p).1 (headers_over flow other tree u t from to p has),
          );
        };
        rows_hold = rows_over flow tree other t u to from c is.rows_hold;
        rows_fit = fits_over flow tree other t u to from c is.rows_fit;
        least = λ d hold.
            let low = is.least d (rows_over flow other tree u t from to d hold) in
            record {
              bound = low.bound;
              distances = low.distances;
              arrivals = λ i has. low.arrivals i (from i has);
              rounds = λ i has. low.rounds i (from i has);
            };
        profile = is.profile;
      }
