-- The stretches by numbers are those of the graph.
use Rattle.std.proofs.Common.{◌≡◌, ◌∙◌, ℕ, zero, suc, ◌+◌, ◌-◌, ◌<◌, ◌≤◌, inl, inr, ⊎_elim, Bool, true, false, ◌&&◌, not, cond, eqb, if◌then◌else◌, List, [], ◌∷◌, length, map, get_or, refl, sym, ap, subst, arith}
use Rattle.std.specs.Prelude.{Contains, count_by, nat_lt, Option, Some, None}
use Rattle.std.specs.Bool.{beq}
use Rattle.std.specs.Cmp.{booleans_Decides}
use Rattle.std.specs.Cmp.Lexicographic.{pointwise}
use Rattle.std.specs.List.{list_all}
use Rattle.std.proofs.Math.ListN.{get_or-map}
use Rattle.std.proofs.lemmas.Bool.{and_from, and_parts, cases_Bool, cases_lt, eq-eqb, eqb-true, ne_eqb, not_from_false}
use Rattle.std.proofs.lemmas.Bool.Decides.{nat_tests}
use Rattle.std.proofs.lemmas.List.{get_or_default, length-map}
use Rattle.std.proofs.lemmas.List.Elements.{All-from_get_or, All-get_or, Contains-get_or}
use Rattle.std.proofs.lemmas.List.Sums.{AllPass-from_list_all, list_all-from_AllPass, sum_by-cons}
use Rattle.control_flow.specs.Flow.{Flow, IsWellFormed}
use Rattle.control_flow.specs.Places.{place_at}
use Rattle.control_flow.specs.declared.edges.Edge.{Edge}
use Rattle.control_flow.specs.declared.places.Place.{Place}
use Rattle.control_flow.specs.declared.places.Place.TheVariants.{Exit}
use Rattle.control_flow.proofs.Firsts.{no_edge, part_fits, range_at, whole_range}
use Rattle.longest_walk.proofs.CarryWalks.{edge_same, number_is, place_numbers}
use Rattle.loop_bounds.specs.Instance.{Instance, is_member}
use Rattle.loop_bounds.specs.Tree.{ArePlaceNumbers, IsTree, Tree, end_edge, first_edge, place_in}
use Rattle.loop_bounds.proofs.ExtentOf.{list_itself, same_list}
use Rattle.numbered_walks.specs.Index.{edge_at}
use Rattle.numbered_walks.specs.Ordered.{is_in}
use Rattle.numbered_walks.specs.declared.span.NumberedEdge.{NumberedEdge}
use Rattle.numbered_walks.specs.declared.span.Span.{Span}
use Rattle.text_graph.specs.Chains.{last_in}
use Rattle.text_graph.specs.Straight.{IsStretch, LeadsOn}
use Rattle.text_graph.specs.Stretches.{are_together, arrivals, calls_in, end_of, is_begin, is_only_way, leads_on, next_of, stretch_from}
use Rattle.text_graph.proofs.ChainLaws.{begin_of_none, chain_below, chain_first, chain_goes_on, chain_some}
use Rattle.text_graph.proofs.NodeLaws.{at_place, edge_in, last_ends, led_alone, up, way}

-- ## One alone

count_none : {X : Type 0} (p : X → Bool) (xs : List X) (d : X) → ((j : ℕ) → j < length xs → p (get_or xs j d) ≡ true → ⊥) → count_by p xs ≡ 0
count_none p [] d none = refl
count_none p (x ∷ xs) d none = elim (cases_Bool (p x)) [
  | inl on ↦ absurd (none 0 (omega arith) on)
  | inr off ↦ sum_by-cons (λ y. cond (p y) 1 0) x xs ∙ ap (λ b. cond b 1 0 + count_by p xs) off ∙ ap (λ c. 0 + c) (count_none p xs d (λ j lt. none (suc j) (omega (arith, lt))))
]

count_alone : {X : Type 0} (p : X → Bool) (xs : List X) (d : X) (k : ℕ) → k < length xs → p (get_or xs k d) ≡ true → ((j : ℕ) → j < length xs → p (get_or xs j d) ≡ true → j ≡ k) → count_by p xs ≡ 1
count_alone p [] d k lt is alone = absurd (omega (arith, lt))
count_alone p (x ∷ xs) d zero lt is alone =
    sum_by-cons (λ y. cond (p y) 1 0) x xs ∙ ap (λ b. cond b 1 0 + count_by p xs) is
    ∙ ap (λ c. 1 + c) (count_none p xs d (λ j j_lt on. absurd (omega (arith, alone (suc j) (omega (arith, j_lt)) on))))
count_alone p (x ∷ xs) d (suc k) lt is alone = elim (cases_Bool (p x)) [
  | inl on ↦ absurd (omega (arith, alone 0 (omega arith) on))
  | inr off ↦ sum_by-cons (λ y. cond (p y) 1 0) x xs ∙ ap (λ b. cond b 1 0 + count_by p xs) off
      ∙ ap (λ c. 0 + c) (count_alone p xs d k (omega (arith, lt)) is (λ j j_lt on. omega (arith, alone (suc j) (omega (arith, j_lt)) on)))
]

-- ## What it is to go on

pub next_is : (flow : Flow) (tree : Tree) (m n : ℕ) → leads_on flow tree m ≡ true → end_of flow tree m ≡ n → next_of flow tree m ≡ Some n
next_is flow tree m n on is = ap (λ b. if b then Some (end_of flow tree m) else None) on ∙ ap (λ k. Some k) is

some_same : (a b : ℕ) → Some a ≡ Some b → a ≡ b
some_same a b is = cc

none_or_some : (o : Option ℕ) (n : ℕ) → o ≡ None → o ≡ Some n → ⊥
none_or_some o n none some = let no : Some n ≡ None = sym some ∙ none in cc

pub next_parts : (flow : Flow) (tree : Tree) (m n : ℕ) → next_of flow tree m ≡ Some n → (leads_on flow tree m ≡ true) × (end_of flow tree m ≡ n)
next_parts flow tree m n is = elim (cases_Bool (leads_on flow tree m)) [
  | inl on ↦ (on, some_same (end_of flow tree m) n (sym (ap (λ b. if b then Some (end_of flow tree m) else None) on) ∙ is))
  | inr off ↦
      absurd (none_or_some (next_of flow tree m) n (ap (λ b. if b then Some (end_of flow tree m) else None) off) is)
]

some_or_none : (o : Option ℕ) (n : ℕ) → o ≡ Some n → o ≡ None → ⊥
some_or_none o n some none = none_or_some o n none some

pub next_none : (flow : Flow) (tree : Tree) (m : ℕ) → next_of flow tree m ≡ None → leads_on flow tree m ≡ false
next_none flow tree m is = elim (cases_Bool (leads_on flow tree m)) [
  | inl on ↦ absurd (some_or_none (next_of flow tree m) (end_of flow tree m) (ap (λ b. if b then Some (end_of flow tree m) else None) on) is)
  | inr off ↦ off
]

module _ (flow : Flow) (tree : Tree) (well : IsWellFormed flow) (t : IsTree flow tree) where
  abbrev exit : ℕ
  exit = length flow.places

  numbers : ArePlaceNumbers flow (place_in flow tree)
  numbers = place_numbers flow tree well t

  -- an edge leads to a number where it leads to its place
  to_number : (k n : ℕ) (d : Edge) → k < length flow.edges → n < exit → (get_or flow.edges k d).to ≡ place_in flow tree n → (edge_at tree.edges k).to ≡ n
  to_number k n d k_in n_in is =
      let e = t.numbered.each k d (record { from = 0; to = 0; cost = 0 }) k_in in
      number_is flow tree well t (edge_at tree.edges k).to n e.to_in (omega (arith, n_in)) (e.to_is ∙ is)

  from_range : (k n : ℕ) (d : Edge) → k < length flow.edges → n < exit → (get_or flow.edges k d).from ≡ place_in flow tree n → (first_edge flow tree n ≤ k) × (k < end_edge flow tree n)
  from_range k n d k_in n_in is =
      let v = get_or tree.order n 0 in
      whole_range flow (place_at flow.places v) (get_or flow.firsts v 0) (get_or flow.firsts (v + 1) 0) (range_at flow well v (t.inside n n_in)) k d k_in (is ∙ at_place flow tree well t n n_in)

  -- ## Loops

  module _ (m n : ℕ) (m_in : m < length flow.places) (n_in : n < length flow.places) where
    same_at : (k : ℕ) (i : Instance) (s : Span) → k < length tree.instances → is_in (get_or tree.spans k s) m ≡ is_in (get_or tree.spans k s) n → is_member (get_or tree.instances k i) (place_in flow tree m) ≡ is_member (get_or tree.instances k i) (place_in flow tree n)
    same_at k i s lt same =
        let span = t.spans_are.each k i s lt in
        span.members m (omega (arith, m_in)) ∙ same ∙ sym (span.members n (omega (arith, n_in)))

    spans_alike : list_all (λ s. beq (is_in s m) (is_in s n)) tree.spans ≡ true → (i : Instance) → Contains tree.instances i → is_member i (place_in flow tree m) ≡ is_member i (place_in flow tree n)
    spans_alike all i has =
        let s : Span = record { header = 0; last = 0; bound = 0 } in
        let many : length tree.spans ≡ length tree.instances = t.spans_are.same in
        let one : beq (is_in (get_or tree.spans has.0 s) m) (is_in (get_or tree.spans has.0 s) n) ≡ true =
        All-get_or (λ (x : Span). beq (is_in x m) (is_in x n) ≡ true) tree.spans has.0 s (omega (arith, has.1, many)) (AllPass-from_list_all (λ (x : Span). beq (is_in x m) (is_in x n)) tree.spans all) in
        let m_in_it = is_in (get_or tree.spans has.0 s) m in
        let n_in_it = is_in (get_or tree.spans has.0 s) n in
        let alike = same_at has.0 i s has.1 ((booleans_Decides m_in_it n_in_it).0 one) in
        subst (λ (x : Instance). is_member x (place_in flow tree m) ≡ is_member x (place_in flow tree n)) has.2 alike

    alike_spans : ((i : Instance) → Contains tree.instances i → is_member i (place_in flow tree m) ≡ is_member i (place_in flow tree n)) → list_all (λ s. beq (is_in s m) (is_in s n)) tree.spans ≡ true
    alike_spans alike =
        let s : Span = record { header = 0; last = 0; bound = 0 } in
        let i : Instance = record { list = []; header = 0; first = 0; last = 0; bound = 0; apart = [] } in
        let many : length tree.spans ≡ length tree.instances = t.spans_are.same in
        list_all-from_AllPass (λ (x : Span). beq (is_in x m) (is_in x n)) tree.spans
        (All-from_get_or (λ (x : Span). beq (is_in x m) (is_in x n) ≡ true) tree.spans s
        (λ k lt.
        let few : k < length tree.instances = omega (arith, lt, many) in
        let span = t.spans_are.each k i s few in
        (booleans_Decides (is_in (get_or tree.spans k s) m) (is_in (get_or tree.spans k s) n)).1
        (sym (span.members m (omega (arith, m_in))) ∙ alike (get_or tree.instances k i) (Contains-get_or tree.instances k i few) ∙ span.members n (omega (arith, n_in)))))

    -- ## Both ways

    pub next_leads : next_of flow tree m ≡ Some n → LeadsOn flow tree (place_in flow tree m) (place_in flow tree n)
    next_leads is =
        let parts = next_parts flow tree m n is in
        let w = way flow tree m parts.0 in
        let k = first_edge flow tree m in
        let high : k < end_edge flow tree m = omega (arith, w.one) in
        let k_in_tree = edge_in flow tree well t m k m_in high in
        let same : length tree.edges ≡ length flow.edges = t.numbered.same in
        let k_in : k < length flow.edges = omega (arith, k_in_tree, same) in
        let e = edge_same flow tree well t k k_in in
        let alone : arrivals flow tree n ≡ 1 = ap (arrivals flow tree) (sym parts.1) ∙ w.alone in
        let together : are_together flow tree m n ≡ true = ap (are_together flow tree m) (sym parts.1) ∙ w.together in
        let both = and_parts (pointwise eqb (calls_in flow tree m) (calls_in flow tree n)) (list_all (λ s. beq (is_in s m) (is_in s n)) tree.spans) together in
        record {
          edge = get_or flow.edges k no_edge;
          is_edge = Contains-get_or flow.edges k no_edge k_in;
          from = well.part (get_or tree.order m 0) k no_edge (t.inside m m_in) (omega arith) high ∙ sym (at_place flow tree well t m m_in);
          to = sym e.to_is ∙ ap (place_in flow tree) parts.1;
          one_leaves = λ i j d i_lt j_lt i_from j_from.
              let a = from_range i m d i_lt m_in i_from in
              let b = from_range j m d j_lt m_in j_from in
              omega (arith, w.one, a.0, a.1, b.0, b.1);
          one_arrives = λ i j d i_lt j_lt i_to j_to.
              led_alone flow tree well t n i j alone (omega (arith, i_lt, same)) (omega (arith, j_lt, same)) (to_number i n d i_lt n_in i_to) (to_number j n d j_lt n_in j_to);
          is_place = numbers.place n n_in;
          is_no_entry = λ entry. w.no_entry (parts.1 ∙ number_is flow tree well t n 0 (omega (arith, n_in)) (omega arith) (entry ∙ sym t.entry_first));
          same_calls = same_list (calls_in flow tree m) (calls_in flow tree n) both.0;
          same_loops = spans_alike both.1;
        }

    pub next_from : LeadsOn flow tree (place_in flow tree m) (place_in flow tree n) → next_of flow tree m ≡ Some n
    next_from l =
        let first = first_edge flow tree m in
        let end = end_edge flow tree m in
        let v = get_or tree.order m 0 in
        let k = l.is_edge.0 in
        let k_in : k < length flow.edges = l.is_edge.1 in
        let k_is : get_or flow.edges k l.edge ≡ l.edge = l.is_edge.2 in
        let same : length tree.edges ≡ length flow.edges = t.numbered.same in
        let range = from_range k m l.edge k_in m_in (ap (λ (x : Edge). x.from) k_is ∙ l.from) in
        let fits : end ≤ length flow.edges = part_fits flow well v (t.inside m m_in) in
        let own : (j : ℕ) → first ≤ j → j < end → (get_or flow.edges j no_edge).from ≡ place_in flow tree m =
        λ j low high. well.part v j no_edge (t.inside m m_in) low high ∙ sym (at_place flow tree well t m m_in) in
        let one : end - first ≡ 1 = ⊎_elim
        (λ (two : first + 1 < end).
        let is = l.one_leaves first (first + 1) no_edge (omega (arith, fits, two)) (omega (arith, fits, two)) (own first (omega arith) (omega (arith, two))) (own (first + 1) (omega arith) two) in
        absurd (omega (arith, is)))
        (λ (few : end ≤ first + 1). omega (arith, range.0, range.1, few))
        (cases_lt (first + 1) end) in
        let at : k ≡ first = omega (arith, range.0, range.1, one) in
        let end_is : end_of flow tree m ≡ n = ap (λ j. (edge_at tree.edges j).to) (sym at) ∙ to_number k n l.edge k_in n_in (ap (λ (x : Edge). x.to) k_is ∙ l.to) in
        let to_place : (j : ℕ) → j < length tree.edges → eqb (edge_at tree.edges j).to n ≡ true → (get_or flow.edges j l.edge).to ≡ place_in flow tree n =
        λ j j_lt on.
        let e = t.numbered.each j l.edge (record { from = 0; to = 0; cost = 0 }) (omega (arith, j_lt, same)) in
        sym e.to_is ∙ ap (place_in flow tree) (eqb-true (edge_at tree.edges j).to n on) in
        let first_in : first < length tree.edges = omega (arith, k_in, same, at) in
        let alone : arrivals flow tree n ≡ 1 =
        count_alone (λ (e : NumberedEdge). eqb e.to n) tree.edges (record { from = 0; to = 0; cost = 0 }) first first_in (eq-eqb (edge_at tree.edges first).to n end_is)
        (λ j j_lt on. l.one_arrives j first l.edge (omega (arith, j_lt, same)) (omega (arith, first_in, same)) (to_place j j_lt on) (to_place first first_in (eq-eqb (edge_at tree.edges first).to n end_is))) in
        let no_entry : eqb n 0 ≡ false = ne_eqb n 0 (λ is. l.is_no_entry (ap (place_in flow tree) is ∙ t.entry_first)) in
        let inside : nat_lt n (length flow.places) ≡ true = grind (arith, nat_tests, n_in) in
        let calls : pointwise eqb (calls_in flow tree m) (calls_in flow tree n) ≡ true = ap (pointwise eqb (calls_in flow tree m)) (sym l.same_calls) ∙ list_itself (calls_in flow tree m) in
        let loops : list_all (λ s. beq (is_in s m) (is_in s n)) tree.spans ≡ true = alike_spans l.same_loops in
        let ends : (eqb (arrivals flow tree n) 1 && (not (eqb n 0) && nat_lt n (length flow.places))) ≡ true =
        and_from (eqb (arrivals flow tree n) 1) (not (eqb n 0) && nat_lt n (length flow.places)) (eq-eqb (arrivals flow tree n) 1 alone)
        (and_from (not (eqb n 0)) (nat_lt n (length flow.places)) (not_from_false (eqb n 0) no_entry) inside) in
        let way_on : is_only_way flow tree m ≡ true =
        and_from (eqb (end - first) 1) (eqb (arrivals flow tree (end_of flow tree m)) 1 && (not (eqb (end_of flow tree m) 0) && nat_lt (end_of flow tree m) (length flow.places))) (eq-eqb (end - first) 1 one)
        (ap (λ j. eqb (arrivals flow tree j) 1 && (not (eqb j 0) && nat_lt j (length flow.places))) end_is ∙ ends) in
        let together : are_together flow tree m (end_of flow tree m) ≡ true =
        ap (are_together flow tree m) end_is ∙ and_from (pointwise eqb (calls_in flow tree m) (calls_in flow tree n)) (list_all (λ s. beq (is_in s m) (is_in s n)) tree.spans) calls loops in
        next_is flow tree m n (and_from (is_only_way flow tree m) (are_together flow tree m (end_of flow tree m)) way_on together) end_is

  -- ## Whole stretches

  module _ (n : ℕ) (n_in : n < length flow.places) (first : is_begin flow tree n ≡ true) where
    abbrev ns : List ℕ
    ns = stretch_from flow tree n

    abbrev ps : List Place
    ps = map (place_in flow tree) ns

    number_in : (i : ℕ) → i < length ns → get_or ns i 0 < exit
    number_in i lt = All-get_or (λ j. j < exit) ns i 0 lt (chain_below (leads_on flow tree) (end_of flow tree) exit (up flow tree well t) exit n n_in)

    place_is : (i : ℕ) → i < length ns → place_at ps i ≡ place_in flow tree (get_or ns i 0)
    place_is i lt = get_or_default ps i Exit (place_in flow tree 0) (omega (arith, lt, length-map ns (place_in flow tree))) ∙ get_or-map (place_in flow tree) ns i 0

    as_long : length ps ≡ length ns
    as_long = length-map ns (place_in flow tree)

    no_before : (p : Place) → LeadsOn flow tree p (place_at ps 0) → ⊥
    no_before p l =
        let some = chain_some (leads_on flow tree) (end_of flow tree) exit n (omega (arith, n_in)) in
        let at : place_at ps 0 ≡ place_in flow tree n = place_is 0 some ∙ ap (place_in flow tree) (chain_first (leads_on flow tree) (end_of flow tree) exit n (omega (arith, n_in))) in
        let known = numbers.number p (subst (Contains flow.places) l.from (well.starts l.edge l.is_edge)) in
        let m = known.0 in
        let here = subst (λ (x : Place). LeadsOn flow tree x (place_in flow tree n)) (sym known.2) (subst (LeadsOn flow tree p) at l) in
        let parts = next_parts flow tree m n (next_from m n known.1 n_in here) in
        begin_of_none (leads_on flow tree) (end_of flow tree) exit n first m known.1 parts.0 parts.1

    each_next : (i : ℕ) → i + 1 < length ps → LeadsOn flow tree (place_at ps i) (place_at ps (i + 1))
    each_next i lt =
        let few : i + 1 < length ns = omega (arith, lt, as_long) in
        let here : i < length ns = omega (arith, few) in
        let goes = chain_goes_on (leads_on flow tree) (end_of flow tree) exit n i few in
        let a = get_or ns i 0 in
        let b = get_or ns (i + 1) 0 in
        let l = next_leads a b (number_in i here) (number_in (i + 1) few) (next_is flow tree a b goes.0 goes.1) in
        subst (λ (x : Place). LeadsOn flow tree x (place_at ps (i + 1))) (sym (place_is i here)) (subst (LeadsOn flow tree (place_in flow tree a)) (sym (place_is (i + 1) few)) l)

    none_after : (i : ℕ) (q : Place) → i + 1 ≡ length ps → LeadsOn flow tree (place_at ps i) q → ⊥
    none_after i q is l =
        let here : i < length ns = omega (arith, is, as_long) in
        let last : length ns - 1 ≡ i = omega (arith, is, as_long) in
        let a = last_in ns in
        let at : place_at ps i ≡ place_in flow tree a = place_is i here ∙ ap (λ j. place_in flow tree (get_or ns j 0)) (sym last) in
        let ends = last_ends flow tree well t n n_in in
        let known = numbers.number q l.is_place in
        let there = subst (LeadsOn flow tree (place_in flow tree a)) (sym known.2) (subst (λ (x : Place). LeadsOn flow tree x q) at l) in
        let parts = next_parts flow tree a known.0 (next_from a known.0 ends.1 known.1 there) in
        let no : false ≡ true = sym ends.0 ∙ parts.0 in
        absurd cc

    pub is_stretch : IsStretch flow tree ps
    is_stretch = record {
      some = omega (arith, chain_some (leads_on flow tree) (end_of flow tree) exit n (omega (arith, n_in)), as_long);
      begins = no_before;
      goes_on = each_next;
      ends = none_after;
    }
