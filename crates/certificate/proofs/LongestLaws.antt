-- What a walk that is opened says of its lines.
use Rattle.std.proofs.Common.{◌≡◌, ◌≢◌, ◌∙◌, ◌+◌, ◌<◌, ◌≤◌, ◌^◌, Bool, true, false, ℕ, zero, suc, List, [], ◌∷◌, ◌++◌, Some, None, option_and_then, map-id, map, take, nat_lt, inl, inr, refl, sym, ap, subst, arith, length, get_or, lt-ltb, if◌then◌else◌}
use Rattle.std.specs.List.{AllByRecursion, find, repeat}
use Rattle.asm_text.proofs.WordLaws.{all_join}
use Rattle.control_flow.specs.declared.edges.Edge.{Edge}
use Rattle.longest_walk.specs.Folded.{IsCount, Opened, deepest, joined, open_item, open_step, turned, unfolded}
use Rattle.longest_walk.specs.declared.folded.Item.{Item}
use Rattle.longest_walk.specs.declared.folded.Item.TheOpen.{Item-F}
use Rattle.longest_walk.specs.declared.folded.Item.TheViews.{roll-Item}
use Rattle.longest_walk.specs.declared.folded.Item.TheFolds.{fold-roll-Item, ind-Item, map-Item}
use Rattle.certificate.specs.declared.line.WalkLine.{WalkLine}
use Rattle.certificate.specs.declared.line.WalkLine.TheVariants as w
use Rattle.certificate.specs.Walk.{AreNested, Nest, follow_all, item_lines, item_step, nest_after, outside, repeated_lines, step_of, to_of, walk_lines}
use Rattle.certificate.specs.Words.{InstanceFits, IsProfile, PlaceFits, StepFits, ToFits, WalkFits}
use Rattle.std.specs.Prelude.{Contains, ◌⊎◌}
use Rattle.std.specs.List.Sorted.{IsStrictlySortedBy}
use Rattle.std.proofs.lemmas.Bool.{cases_lt, eq-eqb}
use Rattle.std.proofs.lemmas.List.Elements.{All-contains, All-from_recursion, All-weaker, Contains-get_or, recursion_from_All}
use Rattle.std.proofs.lemmas.List.Folds.{flat_map-map}
use Rattle.bus_ticks.specs.declared.profile.Profile.{Profile}
use Rattle.bus_ticks.specs.Numbers.{numbers_of}
use Rattle.bus_ticks.specs.Ranges.{IsPrice}
use Rattle.walks.specs.Walk.{Leads}
use Rattle.control_flow.specs.declared.places.Place.{Place}
use Rattle.control_flow.specs.declared.places.Place.TheVariants.{At, Exit}
use Rattle.control_flow.specs.Flow.{Flow, HasEdge, IsWellFormed, edge_shape}
use Rattle.control_flow.specs.Places.{IsInRange, place_address, place_cmp}
use Rattle.control_flow.proofs.SortedLemmas.{here, there}
use Rattle.control_flow.proofs.LabelLemmas.{from_map, into_map}
use Rattle.loop_bounds.specs.Instance.{Instance, is_header, place_loops}
use Rattle.loop_bounds.specs.Tree.{IsTree, Tree, place_in}
use Rattle.loop_bounds.proofs.ExtentOf.{header_place}
use Rattle.longest_walk.specs.Longest.{IsBody, IsLongest}
use Rattle.longest_walk.proofs.CarryWalks.{place_numbers}
use Rattle.longest_walk.specs.Rows.{distance_in, header_of, header_of_row, is_at, is_exit, number_or_zero, place_of_row, potentials_of, row_of}
use Rattle.longest_walk.specs.declared.folded.Longest.{Longest}
use Rattle.longest_walk.specs.declared.rows.InstanceRow.{InstanceRow}
use Rattle.longest_walk.specs.declared.rows.PlaceRow.{PlaceRow}
use Rattle.certificate.specs.Lines.{CanSpell, said_of}
use Rattle.certificate.proofs.FollowLaws.{follow-on}
use Rattle.certificate.proofs.LeastLaws.{AreBelow, all_found, are_below, capped, capped_holds, finds}
use Rattle.numbered_walks.proofs.Members.{no_span}

-- bodies have edges, and counts are in range
pub record IsSound (o : Opened) : Type 0 where
  pub bodies : AllByRecursion (λ b. b ≢ []) o.bodies
  pub counts : AllByRecursion IsCount o.counts

abbrev pub FineEdge : Edge → Type 0
FineEdge e = StepFits (step_of e)

abbrev nest : ℕ → Bool → Nest
nest depth some = record { opened = depth; some = some }

-- an item opened so writes lines that nest and fit
pub record Writes (o : Opened) (lines : List WalkLine) : Type 0 where
  pub nests : (depth : ℕ) (some : Bool) → o.depth + depth ≤ 16 → follow_all nest_after (nest depth some) lines ≡ Some (nest depth true)
  pub fits : AllByRecursion FineEdge o.walk → AllByRecursion WalkFits lines

abbrev Good : Item → Type 0
Good i = IsSound (open_item i) → Writes (open_item i) (item_lines i)

all_left : {A : Type 0} (P : A → Type 0) (xs ys : List A) → AllByRecursion P (xs ++ ys) → AllByRecursion P xs
all_left P [] ys f = tt
all_left P (x ∷ xs) ys f = (f.0, all_left P xs ys f.1)

all_right : {A : Type 0} (P : A → Type 0) (xs ys : List A) → AllByRecursion P (xs ++ ys) → AllByRecursion P ys
all_right P [] ys f = f
all_right P (x ∷ xs) ys f = all_right P xs ys f.1

abbrev is_some : {A : Type 0} → Bool → List A → Bool
is_some some [] = some
is_some some (x ∷ xs) = true

-- items in a row, each of which is good
module _ {Y : Type 0} (item : Y → Item) (good : (y : Y) → Good (item y)) where
  sound_head : (y : Y) (ys : List Y) → IsSound (joined (map open_item (map item (y ∷ ys)))) → IsSound (open_item (item y))
  sound_head y ys s = record { bodies = all_left _ (open_item (item y)).bodies _ s.bodies; counts = all_left _ (open_item (item y)).counts _ s.counts }

  sound_tail : (y : Y) (ys : List Y) → IsSound (joined (map open_item (map item (y ∷ ys)))) → IsSound (joined (map open_item (map item ys)))
  sound_tail y ys s = record { bodies = all_right _ (open_item (item y)).bodies _ s.bodies; counts = all_right _ (open_item (item y)).counts _ s.counts }

  row_nests : (ys : List Y) → IsSound (joined (map open_item (map item ys))) → (depth : ℕ) (some : Bool) → deepest (map open_item (map item ys)) + depth ≤ 16
      → follow_all nest_after (nest depth some) (walk_lines (map item ys)) ≡ Some (nest depth (is_some some ys))
  row_nests [] s depth some le = refl
  row_nests (y ∷ []) s depth some le =
      follow-on nest_after (nest depth some) (nest depth true) (item_lines (item y)) [] ((good y (sound_head y [] s)).nests depth some (omega arith))
  row_nests (y ∷ z ∷ ys) s depth some le =
      follow-on nest_after (nest depth some) (nest depth true) (item_lines (item y)) (walk_lines (map item (z ∷ ys))) ((good y (sound_head y (z ∷ ys) s)).nests depth some (omega arith))
      ∙ row_nests (z ∷ ys) (sound_tail y (z ∷ ys) s) depth true (omega arith)

  row_fits : (ys : List Y) → IsSound (joined (map open_item (map item ys))) → AllByRecursion FineEdge (joined (map open_item (map item ys))).walk → AllByRecursion WalkFits (walk_lines (map item ys))
  row_fits [] s f = tt
  row_fits (y ∷ ys) s f =
      all_join WalkFits (item_lines (item y)) (walk_lines (map item ys)) ((good y (sound_head y ys s)).fits (all_left FineEdge (open_item (item y)).walk _ f))
      (row_fits ys (sound_tail y ys s) (all_right FineEdge (open_item (item y)).walk _ f))

  -- a repeat of them
  around : (k : ℕ) (ys : List Y) → IsSound (turned k (joined (map open_item (map item ys)))) → Writes (turned k (joined (map open_item (map item ys)))) (repeated_lines k (walk_lines (map item ys)))
  around k [] s = absurd (s.bodies.0 refl)
  around k (y ∷ ys) s =
      let o = joined (map open_item (map item (y ∷ ys))) in
      let inner : IsSound o = record { bodies = s.bodies.1; counts = s.counts.1 } in
      let lines = walk_lines (map item (y ∷ ys)) in
      record {
        nests = λ depth some le.
            let room : nat_lt depth 16 ≡ true = lt-ltb depth 16 (omega arith) in
            ap (λ (b : Bool). option_and_then (λ t. follow_all nest_after t (lines ++ w.End ∷ [])) (if b then Some (nest (suc depth) false) else None)) room
            ∙ follow-on nest_after (nest (suc depth) false) (nest (suc depth) true) lines (w.End ∷ []) (row_nests (y ∷ ys) inner (suc depth) false (omega arith));
        fits = λ f. (s.counts.0, all_join WalkFits lines (w.End ∷ []) (row_fits (y ∷ ys) inner (once k o.walk s.counts.0.0 f)) (tt, tt));
      }
    where
      once : (n : ℕ) (xs : List Edge) → 0 < n → AllByRecursion FineEdge (repeat n xs) → AllByRecursion FineEdge xs
      once zero xs some f = absurd (omega arith)
      once (suc n) xs some f = all_left FineEdge xs (repeat n xs) f

by_layer : (y : Item-F ((i : Item) × Good i)) → Good (roll-Item (map-Item ((i : Item) × Good i) Item (λ e. e.0) y))
by_layer (Item-F.Step e) = λ s.
    let opened = fold-roll-Item Opened open_step (Item-F.Step e) in
    let lines = fold-roll-Item (List WalkLine) item_step (Item-F.Step e) in
    subst (λ o. Writes o (item_lines (roll-Item (Item-F.Step e)))) (sym opened)
    (subst (Writes (open_step (Item-F.Step e))) (sym lines) (record { nests = λ depth some le. refl; fits = λ f. (f.0, tt) }))
by_layer (Item-F.Repeat k body) = λ s.
    let x = map-Item ((i : Item) × Good i) Item (λ e. e.0) (Item-F.Repeat k body) in
    let inner : List Item = map (λ y. y.0) body.value.items in
    let opened : open_item (roll-Item x) ≡ turned k (joined (map open_item inner)) = fold-roll-Item Opened open_step x in
    let lines : item_lines (roll-Item x) ≡ repeated_lines k (walk_lines inner) = fold-roll-Item (List WalkLine) item_step x ∙ ap (repeated_lines k) (flat_map-map (λ x. x) item_lines inner) in
    subst (λ o. Writes o (item_lines (roll-Item x))) (sym opened) (subst (Writes (turned k (joined (map open_item inner)))) (sym lines) (around (λ y. y.0) (λ y. y.1) k body.value.items (subst IsSound opened s)))

pub good : (i : Item) → Good i
good = ind-Item Good (λ x y is. subst (λ (z : Item-F Item). Good (roll-Item z)) is (by_layer y))

-- ## The whole walk

pub walk_nests : (items : List Item) → IsSound (joined (map open_item items)) → deepest (map open_item items) ≤ 16 → AreNested (walk_lines items)
walk_nests items s le =
    let own : map (λ i. i) items ≡ items = map-id items in
    record {
      some = is_some false items;
      ends = subst (λ (xs : List Item). follow_all nest_after outside (walk_lines xs) ≡ Some (nest 0 (is_some false items))) own
          (row_nests (λ i. i) good items (subst (λ (xs : List Item). IsSound (joined (map open_item xs))) (sym own) s) 0 false (subst (λ (xs : List Item). deepest (map open_item xs) + 0 ≤ 16) (sym own) (omega (arith, le))));
    }

pub walk_fits : (items : List Item) → IsSound (joined (map open_item items)) → AllByRecursion FineEdge (joined (map open_item items)).walk → AllByRecursion WalkFits (walk_lines items)
walk_fits items s f =
    let own : map (λ i. i) items ≡ items = map-id items in
    subst (λ (xs : List Item). AllByRecursion WalkFits (walk_lines xs)) own
    (row_fits (λ i. i) good items (subst (λ (xs : List Item). IsSound (joined (map open_item xs))) (sym own) s) (subst (λ (xs : List Item). AllByRecursion FineEdge (joined (map open_item xs)).walk) (sym own) f))

-- ## A greatest walk

all_in : {A : Type 0} (P : A → Type 0) (xs : List A) → ((x : A) → Contains xs x → P x) → AllByRecursion P xs
all_in P [] f = tt
all_in P (x ∷ xs) f = (f x (here x xs), all_in P xs (λ z h. f z (there x xs z h)))

abbrev InRange : Place → Type 0
InRange (At calls a) = IsInRange calls a
InRange Exit = Unit {0}

pub profile_of : (p : Profile) → IsProfile (numbers_of p)
profile_of p = record {
  whole = refl;
  ranges = record { prices = All-from_recursion IsPrice (take 14 (numbers_of p)) (p.n_price, (p.s_price, (p.quad_price, (p.rom_0_price, (p.rom_1_price, (p.rom_2_price, (p.rom_3_price, (p.slow_price, (p.medium_price, (p.fast_price, (p.synchronous_price, (p.control_price, (p.unfitted_price, (p.internal_price, tt)))))))))))))); burst = p.burst_price };
  ordered = record { s_first = p.s_first; quad_second = p.quad_second; n_below = p.n_below; rom_below = p.rom_below; control_below = p.control_below };
}

module _ (flow : Flow) (formed : IsWellFormed flow) where
  in_range : (p : Place) → Contains flow.places p → InRange p
  in_range (At calls a) h = formed.small calls a h
  in_range Exit h = tt

  from_small : (p : Place) → Contains flow.places p → place_address p < 2 ^ 26
  from_small (At calls a) h = (formed.small calls a h).0
  from_small Exit h = omega arith

  to_small : (p : Place) → (p ≡ Exit) ⊎ Contains flow.places p → ToFits (to_of p)
  to_small (At calls a) (inl e) = absurd (cc e)
  to_small (At calls a) (inr h) = (formed.small calls a h).0
  to_small Exit h = tt

  fine : (e : Edge) → HasEdge flow e → FineEdge e
  fine e h = record { address = from_small e.from (formed.starts e h); to = to_small e.to (formed.ends e h); some = formed.costs_some e h; cost = let small : e.cost < 2 ^ 32 = formed.costs_fit e h in omega (arith, small) }

  fine_walk : (p q : Place) (walk : List Edge) → Leads edge_shape (HasEdge flow) p walk q → AllByRecursion FineEdge walk
  fine_walk p q [] leads = tt
  fine_walk p q (e ∷ walk) leads = (fine e leads.0, fine_walk e.to q walk leads.2)

  places_fit : (rows : List PlaceRow) → AllByRecursion InRange (map place_of_row rows) → AllByRecursion (λ r. r.distance < 2 ^ 63) rows → AllByRecursion PlaceFits rows
  places_fit [] f g = tt
  places_fit (r ∷ rows) f g = (record { place = f.0; distance = g.0 }, places_fit rows f.1 g.1)

  -- what is spelled of a greatest walk, where its rows are in range
  pub can_spell : (tree : Tree) (g : Longest) → IsLongest flow tree g → AllByRecursion (λ r. r.distance < 2 ^ 63) g.potentials.places → AllByRecursion InstanceFits g.potentials.instances → CanSpell (said_of g)
  can_spell tree g is distances instances =
      let repeats = is.walk_is.repeats in
      let sound : IsSound (joined (map open_item g.walk)) = record {
        bodies = recursion_from_All (λ b. b ≢ []) (joined (map open_item g.walk)).bodies (All-weaker (IsBody flow tree) (λ b. b ≢ []) (λ b body. body.some) (joined (map open_item g.walk)).bodies repeats.bodies);
        counts = recursion_from_All IsCount (joined (map open_item g.walk)).counts repeats.counts;
      } in
      record {
        profile = profile_of g.profile;
        bound = below;
        steps = walk_fits g.walk sound (fine_walk flow.entry Exit (unfolded g.walk) is.walk_is.complete);
        nested = walk_nests g.walk sound repeats.shallow;
        places = places_fit g.potentials.places (subst (AllByRecursion InRange) (sym is.rows_are.places_are) (all_in InRange flow.places in_range)) distances;
        places_ascend = subst (IsStrictlySortedBy place_cmp) (sym is.rows_are.places_are) formed.ordered;
        instances = instances;
        instances_ascend = is.rows_are.ascending;
      }
    where
      below : g.bound < 2 ^ 63
      below =
          elim (cases_lt g.bound (2 ^ 63)) [
            | inl lt ↦ lt
            | inr le ↦ absurd (is.none_too_large (record { place = Exit; walk = is.greatest.walk; leads = is.greatest.complete; kept = is.greatest.kept; costs = omega (arith, le, is.greatest.costs) }))
          ]

  -- what is spelled of a greatest walk, where the headers of the tree's instances are places of the graph
  pub spelled_of : (tree : Tree) (g : Longest) → IsLongest flow tree g → ((i : Instance) → Contains tree.instances i → Contains flow.places (header_of i)) → CanSpell (said_of g)
  spelled_of tree g is headers = can_spell tree g is (all_in (λ r. r.distance < 2 ^ 63) g.potentials.places each_place) (all_in InstanceFits g.potentials.instances each_instance)
    where
      below : AreBelow edge_shape place_loops tree.instances (potentials_of g.bound g.potentials.places g.potentials.instances) is_exit
      below = are_below edge_shape place_loops tree.instances (potentials_of g.bound g.potentials.places g.potentials.instances) is_exit
          (is.least (capped (potentials_of g.bound g.potentials.places g.potentials.instances))
          (capped_holds edge_shape place_loops tree.instances (potentials_of g.bound g.potentials.places g.potentials.instances) is_exit (HasEdge flow) is.rows_hold is.rows_fit))

      ordered : IsStrictlySortedBy place_cmp (map place_of_row g.potentials.places)
      ordered = subst (IsStrictlySortedBy place_cmp) (sym is.rows_are.places_are) formed.ordered

      each_place : (r : PlaceRow) → Contains g.potentials.places r → r.distance < 2 ^ 63
      each_place r h =
          let found = All-contains (finds (λ x. x.list) (λ x. x.address) g.potentials.places) g.potentials.places r (All-from_recursion (finds (λ x. x.list) (λ x. x.address) g.potentials.places) g.potentials.places (all_found (λ x. x.list) (λ x. x.address) g.potentials.places ordered)) h in
          let number : distance_in g.potentials.places (place_of_row r) ≡ r.distance = ap (number_or_zero (λ x. x.distance)) found in
          subst (λ n. n < 2 ^ 63) number (below.distances (place_of_row r) refl)

      each_instance : (r : InstanceRow) → Contains g.potentials.instances r → InstanceFits r
      each_instance r h =
          let found = All-contains (finds (λ x. x.list) (λ x. x.header) g.potentials.instances) g.potentials.instances r (All-from_recursion (finds (λ x. x.list) (λ x. x.header) g.potentials.instances) g.potentials.instances (all_found (λ x. x.list) (λ x. x.header) g.potentials.instances is.rows_are.ascending)) h in
          let there = from_map header_of tree.instances (header_of_row r) ((is.rows_are.instances_are (header_of_row r)).0 (into_map header_of_row g.potentials.instances r h)) in
          let row : row_of g.potentials.instances there.0 ≡ Some r = ap (λ (p : Place). find (λ x. is_at x.list x.header p) g.potentials.instances) there.2 ∙ found in
          record {
            header = subst InRange there.2 (in_range (header_of there.0) (headers there.0 there.1));
            arrival = subst (λ n. n < 2 ^ 63) (ap (number_or_zero (λ x. x.arrival)) row) (below.arrivals there.0 there.1);
            round = subst (λ n. n < 2 ^ 63) (ap (number_or_zero (λ x. x.round)) row) (below.rounds there.0 there.1);
          }

  -- the header of an instance of a tree is a place of the graph
  header_in : (tree : Tree) → IsTree flow tree → (i : Instance) → Contains tree.instances i → Contains flow.places (header_of i)
  header_in tree t i has =
      let s = get_or tree.spans has.0 no_span in
      let shape = t.ordered.shape s (Contains-get_or tree.spans has.0 no_span (omega (arith, has.1, t.spans_are.same))) in
      let inside : s.header < length flow.places = omega (arith, shape.0, shape.1) in
      let place : Place = place_in flow tree s.header in
      let is : is_header (get_or tree.instances has.0 i) place ≡ true = (t.spans_are.each has.0 i no_span has.1).headers s.header (omega (arith, inside)) ∙ eq-eqb s.header s.header refl in
      let here : place ≡ header_of i = header_place i place (subst (λ (x : Instance). is_header x place ≡ true) has.2 is) in
      subst (Contains flow.places) here ((place_numbers flow tree formed t).place s.header inside)

  -- so what the certificate of a greatest walk says can be spelled
  pub longest_is_spelled : (tree : Tree) → IsTree flow tree → (g : Longest) → IsLongest flow tree g → CanSpell (said_of g)
  longest_is_spelled tree t g is = spelled_of tree g is (header_in tree t)
