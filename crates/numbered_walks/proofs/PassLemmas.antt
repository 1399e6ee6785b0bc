-- The steps of the pass over the places.
use Rattle.std.proofs.Common.{◌≡◌, ◌≢◌, ℕ, ◌+◌, ◌^◌, ◌<◌, ◌≤◌, max, Bool, true, false, cond, not, ◌&&◌, List, [], ◌∷◌, ◌++◌, ◌⊎◌, ⊎_elim, inl, inr, length, length-append, get_or, slice_index, Contains, sum_by, refl, sym, ap, ◌∙◌, subst, arith}
use Rattle.std.proofs.Common.{◌↔◌, take}
use Rattle.std.proofs.lemmas.List.{get_or_append_left, get_or_default, take_more, map-append}
use Rattle.std.specs.List.{filter}
use Rattle.std.proofs.lemmas.Bool.{false≢true, cases_lt, cases_eq, and_parts}
use Rattle.std.proofs.lemmas.List.Sums.{sum_by-cons}
use Rattle.std.proofs.lemmas.List.Elements.{All-push, All-weaker, All-contains, Contains-get_or, Contains-push}
use Rattle.numbered_walks.specs.declared.span.NumberedEdge.{NumberedEdge}
use Rattle.numbered_walks.specs.declared.span.Span.{Span}
use Rattle.numbered_walks.specs.declared.tables.Tables.{Tables}
use Rattle.numbered_walks.specs.Ordered.{is_in}
use Rattle.numbered_walks.specs.Tables.{is_left, stay_of, needed, distance_of, arrival_of, round_of}
use Rattle.numbered_walks.specs.Ordered.{IsOrdered}
use Rattle.numbered_walks.specs.Tables.{IsPassed, IsHeaviest, IsPlaceWritten, IsRoundWritten, EntersBy, TurnsBy, found_at, is_header_in}
use Rattle.walks.proofs.SumLe.{sum_by-same_all}
use Rattle.numbered_walks.specs.Ordered.{IsOrdered}
use Rattle.numbered_walks.specs.Tables.{AllEntered}
use Rattle.numbered_walks.specs.Index.{edge_at, edges_of, span_at}
use Rattle.numbered_walks.proofs.Members.{member_from, member_header, member_last, no_span}
use Rattle.numbered_walks.proofs.Nesting.{same_header}

Contains-front : {X : Type 0} (xs : List X) (y x : X) → Contains xs x → Contains (xs ++ y ∷ []) x
Contains-front xs y x at = (at.0, omega (arith, at.1, length-append xs (y ∷ [])), get_or_append_left xs (y ∷ []) x at.0 at.1 ∙ at.2)

sum_by-filter_and : {X : Type 0} (p r : X → Bool) (f : X → ℕ) (xs : List X) → sum_by (λ x. cond (p x && r x) (f x) 0) (filter p xs) ≡ sum_by (λ x. cond (p x && r x) (f x) 0) xs
sum_by-filter_and p r f [] = refl
sum_by-filter_and {X} p r f (x ∷ xs) =
    let rest : sum_by (λ y. cond (p y && r y) (f y) 0) (filter p xs) ≡ sum_by (λ y. cond (p y && r y) (f y) 0) xs = sum_by-filter_and p r f xs in
    elim (p x) as (λ v. p x ≡ v → sum_by (λ y. cond (p y && r y) (f y) 0) (cond v (x ∷ filter p xs) (filter p xs)) ≡ sum_by (λ y. cond (p y && r y) (f y) 0) (x ∷ xs)) [
      | true ↦ λ is. omega (arith, sum_by-cons (λ y. cond (p y && r y) (f y) 0) x (filter p xs), sum_by-cons (λ y. cond (p y && r y) (f y) 0) x xs)
      | false ↦ λ is.
          let none : cond {A = ℕ} (p x && r x) (f x) 0 ≡ 0 = rw is refl in
          omega (arith, none, sum_by-cons (λ y. cond (p y && r y) (f y) 0) x xs)
    ] refl

-- the instances that hold the place are enough
pub needed-held : (tree held : List Span) (c : Tables) (e : NumberedEdge) → held ≡ filter (λ i. is_in i e.from) tree → needed held c e ≡ needed tree c e
needed-held tree held c e is =
    let sums : sum_by (λ i. cond (is_left e i) (stay_of c i) 0) (filter (λ i. is_in i e.from) tree) ≡ sum_by (λ i. cond (is_left e i) (stay_of c i) 0) tree =
    sum_by-filter_and (λ i. is_in i e.from) (λ i. not (is_in i e.to)) (λ i. stay_of c i) tree in
    rw is (omega (arith, sums))

pub heaviest_more : (tree : List Span) (c : Tables) (xs : List NumberedEdge) (e : NumberedEdge) (n m : ℕ) → IsHeaviest tree c xs n → needed tree c e < 2 ^ 63 → m ≡ max n (needed tree c e) → IsHeaviest tree c (xs ++ e ∷ []) m
heaviest_more tree c xs e n m h fits is = record {
  most = All-push (λ x. (needed tree c x ≤ m) × (needed tree c x < 2 ^ 63)) xs e
      (All-weaker (λ x. (needed tree c x ≤ n) × (needed tree c x < 2 ^ 63)) (λ x. (needed tree c x ≤ m) × (needed tree c x < 2 ^ 63)) (λ x both. (omega (arith, both.0), both.1)) xs h.most)
      (omega arith, fits);
  attained = ⊎_elim
      (λ none. inr (e, Contains-push xs e, omega (arith, none.0)))
      (λ by. ⊎_elim
      (λ more. inr (e, Contains-push xs e, omega arith))
      (λ less. inr (by.0, Contains-front xs e by.0 by.1, omega (arith, by.2)))
      (cases_lt n (needed tree c e)))
      h.attained;
}

pub heaviest_take : (tree : List Span) (c : Tables) (edges : List NumberedEdge) (xs : List ℕ) (k d n value m : ℕ) → k < length xs → IsHeaviest tree c (edges_of edges (take k xs)) n → value ≡ needed tree c (edge_at edges (get_or xs k d)) → value < 2 ^ 63 → m ≡ max n value → IsHeaviest tree c (edges_of edges (take (k + 1) xs)) m
heaviest_take tree c edges xs k d n value m inside h is fits most =
    subst (λ (l : List ℕ). IsHeaviest tree c (edges_of edges l) m) (sym (take_more xs k d inside))
    (subst (λ (l : List NumberedEdge). IsHeaviest tree c l m) (sym (map-append (edge_at edges) (take k xs) (get_or xs k d ∷ [])))
    (heaviest_more tree c (edges_of edges (take k xs)) (edge_at edges (get_or xs k d)) n m h (omega arith) (most ∙ ap (λ x. max n x) is)))

-- ## A place

left_same : (b : Bool) (s t : ℕ) → (b ≡ true → s ≡ t) → cond {A = ℕ} b s 0 ≡ cond b t 0
left_same true s t same = same refl
left_same false s t same = refl

-- what an edge needs is the same where all that it reads is the same
needed-same : (tree : List Span) (c new : Tables) (e : NumberedEdge) → distance_of new e.from ≡ distance_of c e.from → ((i : Span) → Contains tree i → is_left e i ≡ true → stay_of new i ≡ stay_of c i) → needed tree new e ≡ needed tree c e
needed-same tree c new e same stays =
    let sums : sum_by (λ i. cond (is_left e i) (stay_of new i) 0) tree ≡ sum_by (λ i. cond (is_left e i) (stay_of c i) 0) tree =
    sum_by-same_all (λ i. cond (is_left e i) (stay_of new i) 0) (λ i. cond (is_left e i) (stay_of c i) 0) tree (λ i here. left_same (is_left e i) (stay_of new i) (stay_of c i) (stays i here)) in
    omega (arith, same, sums)

pub left_member : (e : NumberedEdge) (i : Span) → is_left e i ≡ true → is_in i e.from ≡ true
left_member e i is = (and_parts (is_in i e.from) (not (is_in i e.to)) is).0

not_true : (b : Bool) → not b ≡ true → b ≡ true → ⊥
not_true true is _ = false≢true is
not_true false _ holds = false≢true holds

pub left_not : (e : NumberedEdge) (i : Span) → is_left e i ≡ true → is_in i e.to ≡ true → ⊥
left_not e i is = not_true (is_in i e.to) (and_parts (is_in i e.from) (not (is_in i e.to)) is).1

needed-place : (tree : List Span) (q v : ℕ) (c new : Tables) → IsPlaceWritten tree q v c new → (e : NumberedEdge) → e.from < q → needed tree new e ≡ needed tree c e
needed-place tree q v c new w e before =
    needed-same tree c new e (w.distances e.from (λ same. absurd (omega arith)))
    (λ i here is.
    let low : i.header ≤ e.from = member_header i e.from (left_member e i is) in
    let arrives : arrival_of new i ≡ arrival_of c i = w.arrivals i.header (λ same. absurd (omega arith)) in
    let turns : round_of new i ≡ round_of c i = w.rounds i.header in
    rw (arrives, turns) refl)

number_same : (b : Bool) (m n m' n' : ℕ) → m ≡ m' → n ≡ n' → cond {A = ℕ} b m n ≡ cond b m' n'
number_same true m n m' n' one two = one
number_same false m n m' n' one two = two

number-place : (tree : List Span) (q v : ℕ) (c new : Tables) → IsPlaceWritten tree q v c new → (p : ℕ) → p ≢ q → found_at tree new p ≡ found_at tree c p
number-place tree q v c new w p other = number_same (is_header_in tree p) (slice_index new.arrivals.items p) (slice_index new.distances.items p) (slice_index c.arrivals.items p) (slice_index c.distances.items p) (w.arrivals p other) (w.distances p other)

pub place_step : (exit : ℕ) (edges : List NumberedEdge) (tree : List Span) (k q v : ℕ) (c new : Tables) (into : List NumberedEdge) → AllEntered edges (exit + 1) → q < (exit + 1) → ((e : NumberedEdge) → Contains into e ↔ (Contains edges e × (e.to ≡ q) × (e.from < q))) → IsHeaviest tree c into v → IsPlaceWritten tree q v c new → IsPassed edges tree k q c → IsPassed edges tree k (q + 1) new
place_step exit edges tree k q v c new into entered below in_list heavy w pass = record {
  closed = λ n small. omega (arith, pass.closed n small);
  later_distance = λ p later. omega (arith, w.distances p (λ same. absurd (omega arith)), pass.later_distance p (omega arith));
  header_distance = λ p header. ⊎_elim
      (λ same. subst (λ (x : ℕ). distance_of new x ≡ 0) (sym same) (w.header_zero (subst (λ (x : ℕ). is_header_in tree x ≡ true) same header) ∙ pass.header_distance q (subst (λ (x : ℕ). is_header_in tree x ≡ true) same header)))
      (λ other. w.distances p other ∙ pass.header_distance p header)
      (cases_eq p q);
  later_round = λ n later inside. w.rounds (span_at tree n).header ∙ pass.later_round n later inside;
  rows = λ e in_graph up small. ⊎_elim
      (λ same.
      let row : (needed tree c e ≤ v) × (needed tree c e < 2 ^ 63) = All-contains (λ x. (needed tree c x ≤ v) × (needed tree c x < 2 ^ 63)) into e heavy.most ((in_list e).1 (in_graph, same, omega arith)) in
      let number : found_at tree new e.to ≡ v = subst (λ (x : ℕ). found_at tree new x ≡ v) (sym same) w.here in
      (omega (arith, row.0, number, needed-place tree q v c new w e (omega arith)), omega (arith, row.1, needed-place tree q v c new w e (omega arith))))
      (λ other.
      let row = pass.rows e in_graph up (omega arith) in
      (omega (arith, row.0, number-place tree q v c new w e.to other, needed-place tree q v c new w e (omega arith)), omega (arith, row.1, needed-place tree q v c new w e (omega arith))))
      (cases_eq e.to q);
  round_rows = λ n small some e in_graph to_header back.
      let row = pass.round_rows n small some e in_graph to_header back in
      let same : needed tree new e ≡ needed tree c e = needed-place tree q v c new w e (omega (arith, row.0, pass.closed n small)) in
      (row.0, omega (arith, row.1, same, w.rounds (span_at tree n).header), omega (arith, row.2, same));
  round_zero = λ n small none. w.rounds (span_at tree n).header ∙ pass.round_zero n small none;
  attained = λ p small. ⊎_elim
      (λ same. subst (λ (x : ℕ). ((x ≡ 0) × (found_at tree new x ≡ 0)) ⊎ EntersBy edges tree new x) (sym same)
      (⊎_elim
      (λ none. ⊎_elim
      (λ first. inl (first, w.here ∙ none.0))
      (λ later.
      let by = entered q (omega arith) below in
      let has : Contains [] by.0 = subst (λ (xs : List NumberedEdge). Contains xs by.0) none.1 ((in_list by.0).1 (by.1, by.2, by.3)) in
      absurd (omega (arith, has.1)))
      (cases_eq q 0))
      (λ by.
      let at = (in_list by.0).0 by.1 in
      inr (by.0, at.0, at.1, at.2, w.here ∙ by.2 ∙ sym (needed-place tree q v c new w by.0 at.2)))
      heavy.attained))
      (λ other. ⊎_elim
      (λ start. inl (start.0, number-place tree q v c new w p other ∙ start.1))
      (λ by. inr (by.0, by.1, by.2, by.3, number-place tree q v c new w p other ∙ by.4 ∙ sym (needed-place tree q v c new w by.0 (omega (arith, by.3)))))
      (pass.attained p (omega arith)))
      (cases_eq p q);
  round_attained = λ n small. ⊎_elim
      (λ none. inl (w.rounds (span_at tree n).header ∙ none))
      (λ by. inr (by.0, by.1, by.2, by.3, by.4, w.rounds (span_at tree n).header ∙ by.5 ∙ sym (needed-place tree q v c new w by.0 (omega (arith, by.4, pass.closed n small)))))
      (pass.round_attained n small);
}

-- ## An instance

span_is : (tree : List Span) (n : ℕ) (d : Span) → n < length tree → get_or tree n d ≡ span_at tree n
span_is tree n d inside = get_or_default tree n d no_span inside

pub span_in : (tree : List Span) (n : ℕ) → n < length tree → Contains tree (span_at tree n)
span_in tree n inside = Contains-get_or tree n no_span inside

needed-round : (exit : ℕ) (edges : List NumberedEdge) (tree : List Span) (i : Span) (v : ℕ) (c new : Tables) → IsOrdered exit edges tree → Contains tree i → IsRoundWritten i.header v c new → (e : NumberedEdge) → (is_left e i ≡ true → ⊥) → needed tree new e ≡ needed tree c e
needed-round exit edges tree i v c new order i_in w e stays =
    needed-same tree c new e (w.distances e.from)
    (λ j here is.
    let arrives : arrival_of new j ≡ arrival_of c j = w.arrivals j.header in
    let turns : round_of new j ≡ round_of c j = w.rounds j.header (λ same. stays (subst (λ (x : Span). is_left e x ≡ true) (same_header tree order.headers_differ j i here i_in same) is)) in
    rw (arrives, turns) refl)

number-round : (tree : List Span) (h v : ℕ) (c new : Tables) → IsRoundWritten h v c new → (p : ℕ) → found_at tree new p ≡ found_at tree c p
number-round tree h v c new w p = number_same (is_header_in tree p) (slice_index new.arrivals.items p) (slice_index new.distances.items p) (slice_index c.arrivals.items p) (slice_index c.distances.items p) (w.arrivals p) (w.distances p)

-- an edge up to a member or below the instance's end does not leave it
stays_up : (i : Span) (e : NumberedEdge) → e.from < e.to → e.to ≤ i.last → is_left e i ≡ true → ⊥
stays_up i e up low is = left_not e i is (member_from i e.to (omega (arith, member_header i e.from (left_member e i is))) low)

-- nor does a back edge of an instance that was closed before
pub stays_back : (exit : ℕ) (edges : List NumberedEdge) (tree : List Span) (i j : Span) → IsOrdered exit edges tree → Contains tree i → Contains tree j → ((j.last < i.last) ⊎ ((j.last ≡ i.last) × (i.header < j.header))) → (e : NumberedEdge) → e.to ≡ j.header → e.to ≤ e.from → e.from ≤ j.last → is_left e i ≡ true → ⊥
stays_back exit edges tree i j order i_in j_in before e to_header back low is =
    let from_i : is_in i e.from ≡ true = left_member e i is in
    let header_low : i.header ≤ e.from = member_header i e.from from_i in
    let last_high : e.from ≤ i.last = member_last i e.from from_i in
    let from_j : is_in j e.from ≡ true = member_from j e.from (omega arith) low in
    ⊎_elim
    (λ within_j.
    let j_end : i.last ≤ j.last = member_last j i.last (within_j i.last (member_from i i.last (omega arith) (omega arith))) in
    let j_start : j.header ≤ i.header = member_header j i.header (within_j i.header (member_from i i.header (omega arith) (omega arith))) in
    ⊎_elim (λ less. absurd (omega arith)) (λ same. absurd (omega (arith, same.0, same.1))) before)
    (λ within_i.
    left_not e i is (subst (λ (p : ℕ). is_in i p ≡ true) (sym to_header) (within_i j.header (member_from j j.header (omega arith) (omega arith)))))
    (order.nested i j i_in j_in e.from from_i from_j)

pub turn_low : (exit : ℕ) (edges : List NumberedEdge) (tree : List Span) (i : Span) → IsOrdered exit edges tree → Contains tree i → (e : NumberedEdge) → Contains edges e → e.to ≡ i.header → e.to ≤ e.from → e.from ≤ i.last
turn_low exit edges tree i order i_in e in_graph to_header goes_back = ⊎_elim
    (λ up. absurd (omega arith))
    (λ b. let same : b.0 ≡ i = same_header tree order.headers_differ b.0 i b.1 i_in (sym b.3 ∙ to_header) in member_last i e.from (subst (λ (x : Span). is_in x e.from ≡ true) same b.2))
    (order.goes_up e in_graph)

close_with : (exit : ℕ) (edges : List NumberedEdge) (tree : List Span) (k q v : ℕ) (i : Span) (c new : Tables) (back : List NumberedEdge) → IsOrdered exit edges tree → k < length tree → i ≡ span_at tree k → q ≡ i.last + 1 → ((i.bound ≡ 0) × (v ≡ 0)) ⊎ (((e : NumberedEdge) → Contains back e ↔ (Contains edges e × (e.to ≡ i.header) × (i.header ≤ e.from))) × IsHeaviest tree c back v × (0 < i.bound)) → IsRoundWritten i.header v c new → IsPassed edges tree k q c → IsPassed edges tree (k + 1) q new
close_with exit edges tree k q v i c new back order below at_k ends heavy w pass =
    let i_in : Contains tree i = subst (λ (x : Span). Contains tree x) (sym at_k) (span_in tree k below) in
    let before = λ (n : ℕ) (small : n < k). subst (λ (x : Span). ((span_at tree n).last < x.last) ⊎ (((span_at tree n).last ≡ x.last) × (x.header < (span_at tree n).header))) (sym at_k) (order.closing n k no_span small below) in
    let turns_at : (e : NumberedEdge) → Contains edges e → e.to ≡ i.header → e.to ≤ e.from → e.from ≤ i.last = turn_low exit edges tree i order i_in in
    let own : (e : NumberedEdge) → e.to ≡ i.header → e.to ≤ e.from → e.from ≤ i.last → needed tree new e ≡ needed tree c e =
    λ e to_header goes_back low. needed-round exit edges tree i v c new order i_in w e (λ is. left_not e i is (member_from i e.to (omega arith) (omega arith))) in
    record {
      closed = λ n small. ⊎_elim (λ same. subst (λ (x : ℕ). (span_at tree x).last < q) (sym same) (subst (λ (x : Span). x.last < q) at_k (omega arith))) (λ other. pass.closed n (omega arith)) (cases_eq n k);
      later_distance = λ p later. w.distances p ∙ pass.later_distance p later;
      header_distance = λ p header. w.distances p ∙ pass.header_distance p header;
      later_round = λ n later inside. w.rounds (span_at tree n).header (λ same. order.headers_differ k n no_span (omega arith) inside (sym (same ∙ ap (λ (x : Span). x.header) at_k))) ∙ pass.later_round n (omega arith) inside;
      rows = λ e in_graph up small.
          let row = pass.rows e in_graph up small in
          let same : needed tree new e ≡ needed tree c e = needed-round exit edges tree i v c new order i_in w e (stays_up i e up (omega arith)) in
          (omega (arith, row.0, same, number-round tree i.header v c new w e.to), omega (arith, row.1, same));
      round_rows = λ n small some e in_graph to_header goes_back. ⊎_elim
          (λ is_k.
          let is_i : span_at tree n ≡ i = ap (λ (x : ℕ). span_at tree x) is_k ∙ sym at_k in
          let to_i : e.to ≡ i.header = to_header ∙ ap (λ (x : Span). x.header) is_i in
          let some_i : 0 < i.bound = subst (λ (x : Span). 0 < x.bound) is_i some in
          let low : e.from ≤ i.last = turns_at e in_graph to_i goes_back in
          let same : needed tree new e ≡ needed tree c e = own e to_i goes_back low in
          let at_i : round_of new i ≡ v = w.here in
          let row : (needed tree c e ≤ v) × (needed tree c e < 2 ^ 63) = ⊎_elim (λ no_rounds. absurd (omega (arith, no_rounds.0))) (λ h. All-contains (λ x. (needed tree c x ≤ v) × (needed tree c x < 2 ^ 63)) back e h.1.most ((h.0 e).1 (in_graph, to_i, omega arith))) heavy in
          subst (λ (x : Span). (e.from ≤ x.last) × (needed tree new e ≤ round_of new x) × (needed tree new e < 2 ^ 63)) (sym is_i) (low, omega (arith, row.0), omega (arith, row.1)))
          (λ other.
          let row = pass.round_rows n (omega arith) some e in_graph to_header goes_back in
          let same : needed tree new e ≡ needed tree c e = needed-round exit edges tree i v c new order i_in w e (stays_back exit edges tree i (span_at tree n) order i_in (span_in tree n (omega arith)) (before n (omega arith)) e to_header goes_back row.0) in
          let number : round_of new (span_at tree n) ≡ round_of c (span_at tree n) = w.rounds (span_at tree n).header (λ is. order.headers_differ n k no_span (omega arith) below (is ∙ ap (λ (x : Span). x.header) at_k)) in
          (row.0, omega (arith, row.1), omega (arith, row.2)))
          (cases_eq n k);
      round_zero = λ n small no_bound. ⊎_elim
          (λ is_k.
          let is_i : span_at tree n ≡ i = ap (λ (x : ℕ). span_at tree x) is_k ∙ sym at_k in
          let at_i : round_of new i ≡ v = w.here in
          subst (λ (x : Span). round_of new x ≡ 0) (sym is_i)
          (⊎_elim (λ no_rounds. at_i ∙ no_rounds.1) (λ h. absurd (omega (arith, h.2, subst (λ (x : Span). x.bound ≡ 0) is_i no_bound))) heavy))
          (λ differ. w.rounds (span_at tree n).header (λ is. order.headers_differ n k no_span (omega arith) below (is ∙ ap (λ (x : Span). x.header) at_k)) ∙ pass.round_zero n (omega arith) no_bound)
          (cases_eq n k);
      attained = λ p small. ⊎_elim
          (λ start. inl (start.0, number-round tree i.header v c new w p ∙ start.1))
          (λ by. inr (by.0, by.1, by.2, by.3, number-round tree i.header v c new w p ∙ by.4 ∙ sym (needed-round exit edges tree i v c new order i_in w by.0 (stays_up i by.0 (omega (arith, by.2, by.3)) (omega (arith, by.2))))))
          (pass.attained p small);
      round_attained = λ n small. ⊎_elim
          (λ is_k.
          let is_i : span_at tree n ≡ i = ap (λ (x : ℕ). span_at tree x) is_k ∙ sym at_k in
          let at_i : round_of new i ≡ v = w.here in
          subst (λ (x : Span). (round_of new x ≡ 0) ⊎ TurnsBy edges tree new x) (sym is_i)
          (⊎_elim (λ no_rounds. inl (at_i ∙ no_rounds.1))
          (λ h. ⊎_elim (λ nothing. inl (at_i ∙ nothing.0))
          (λ by.
          let in_graph = (h.0 by.0).0 by.1 in
          let goes_back : by.0.to ≤ by.0.from = omega (arith, in_graph.1, in_graph.2) in
          let low : by.0.from ≤ i.last = turns_at by.0 in_graph.0 in_graph.1 goes_back in
          inr (by.0, in_graph.0, in_graph.1, goes_back, low, at_i ∙ by.2 ∙ sym (own by.0 in_graph.1 goes_back low)))
          h.1.attained)
          heavy))
          (λ other.
          let number : round_of new (span_at tree n) ≡ round_of c (span_at tree n) = w.rounds (span_at tree n).header (λ is. order.headers_differ n k no_span (omega arith) below (is ∙ ap (λ (x : Span). x.header) at_k)) in
          ⊎_elim (λ zero_is. inl (number ∙ zero_is))
          (λ by. inr (by.0, by.1, by.2, by.3, by.4, number ∙ by.5 ∙ sym (needed-round exit edges tree i v c new order i_in w by.0 (stays_back exit edges tree i (span_at tree n) order i_in (span_in tree n (omega arith)) (before n (omega arith)) by.0 by.2 by.3 by.4))))
          (pass.round_attained n (omega arith)))
          (cases_eq n k);
    }

pub close_step : (exit : ℕ) (edges : List NumberedEdge) (tree : List Span) (k q v : ℕ) (i : Span) (c new : Tables) (back : List NumberedEdge) → IsOrdered exit edges tree → k < length tree → i ≡ span_at tree k → q ≡ i.last + 1 → ((e : NumberedEdge) → Contains back e ↔ (Contains edges e × (e.to ≡ i.header) × (i.header ≤ e.from))) → IsHeaviest tree c back v → 0 < i.bound → IsRoundWritten i.header v c new → IsPassed edges tree k q c → IsPassed edges tree (k + 1) q new
close_step exit edges tree k q v i c new back order below at_k ends in_list heavy some w pass = close_with exit edges tree k q v i c new back order below at_k ends (inr (in_list, heavy, some)) w pass

pub close_zero : (exit : ℕ) (edges : List NumberedEdge) (tree : List Span) (k q : ℕ) (i : Span) (c new : Tables) → IsOrdered exit edges tree → k < length tree → i ≡ span_at tree k → q ≡ i.last + 1 → i.bound ≡ 0 → IsRoundWritten i.header 0 c new → IsPassed edges tree k q c → IsPassed edges tree (k + 1) q new
close_zero exit edges tree k q i c new order below at_k ends none w pass = close_with exit edges tree k q 0 i c new [] order below at_k ends (inl (none, refl)) w pass

pub later_last : (exit : ℕ) (edges : List NumberedEdge) (tree : List Span) (k n : ℕ) → IsOrdered exit edges tree → k < n → n < length tree → (span_at tree k).last + 1 ≤ (span_at tree n).last + 1
later_last exit edges tree k n order before inside =
    ⊎_elim (λ less. omega arith) (λ same. omega (arith, same.0)) (order.closing k n no_span before inside)
