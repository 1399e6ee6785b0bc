-- The numbers that the pass finds are the least that meet the rows.
use Rattle.std.proofs.Common.{◌≡◌, ◌≢◌, ℕ, zero, suc, ◌+◌, ◌*◌, ◌<◌, ◌≤◌, Bool, true, false, cond, eqb, List, ⊎_elim, length, get_or, slice_index, Option, Some, None, Contains, sum_by, refl, sym, ap, ◌∙◌, subst, arith}
use Rattle.std.specs.List.{find}
use Rattle.std.specs.Option.{IfSome}
use Rattle.std.proofs.lemmas.List.{get_or_default}
use Rattle.std.proofs.Math.Nat.{mul-le-mul_left}
use Rattle.std.proofs.lemmas.Bool.{true≢false, cases_Bool, cases_lt, cases_eq, cases_order, both_ways, eqb-true, eq-eqb, ne_eqb}
use Rattle.std.proofs.lemmas.List.Elements.{Contains-get_or}
use Rattle.walks.specs.Rows.{Potentials, limit_at, IsAtMost}
use Rattle.walks.specs.Rows as W
use Rattle.walks.proofs.SumLe.{sum_by-le_all}
use Rattle.walks.proofs.RowLemmas.{find_some, back_row, enter_row}
use Rattle.numbered_walks.specs.declared.span.NumberedEdge.{NumberedEdge}
use Rattle.numbered_walks.specs.declared.span.Span.{Span}
use Rattle.numbered_walks.specs.declared.tables.Tables.{Tables}
use Rattle.numbered_walks.specs.Ordered.{IsOrdered, number_shape, span_loops, is_in}
use Rattle.numbered_walks.specs.Tables.{potentials_of, is_left, stay_of, needed, distance_of, arrival_of, round_of, IsPassed, found_at, is_header_in, is_exit, RowsHold}
use Rattle.numbered_walks.specs.Index.{span_at}
use Rattle.numbered_walks.proofs.Members.{member_from, member_header, member_last, no_span}
use Rattle.numbered_walks.proofs.Nesting.{same_header}
use Rattle.numbered_walks.proofs.PassLemmas.{left_member, left_not, stays_back, span_in}
use Rattle.numbered_walks.proofs.Passing.{header_found, header_there}
use Rattle.numbered_walks.proofs.Finishing.{header_find}

left_le : (b : Bool) (s t : ℕ) → (b ≡ true → s ≤ t) → cond {A = ℕ} b s 0 ≤ cond b t 0
left_le true s t le = le refl
left_le false s t le = omega arith

module _ (exit : ℕ) (edges : List NumberedEdge) (tree : List Span) (c : Tables) (other : Potentials ℕ Span) (order : IsOrdered exit edges tree) (pass : IsPassed edges tree (length tree) (exit + 1) c) (closes : c.bound ≡ distance_of c exit) (rows : RowsHold exit edges tree other) where
  -- what the other numbers ask, and what they have for a stay
  abbrev pub asks : NumberedEdge → ℕ
  asks e = W.needed number_shape span_loops tree other e

  abbrev pub other_stay : Span → ℕ
  other_stay i = W.stay_of number_shape span_loops tree other i

  -- the other distance, and its bound at Exit
  abbrev pub value_of : ℕ → ℕ
  value_of p = cond (eqb p exit) other.bound (other.distance p)

  find_of : (e : NumberedEdge) (i : Span) → Contains tree i → e.to ≡ i.header → (o : Option Span) → find (λ j. eqb e.to j.header) tree ≡ o → o ≡ Some i
  find_of e i i_in to_header None is = absurd (header_find tree e (header_there tree e.to i i_in to_header) is)
  find_of e i i_in to_header (Some j) is =
      let found = find_some (λ x. eqb e.to x.header) tree j is in
      ap Some (same_header tree order.headers_differ j i found.0 i_in (sym (eqb-true e.to j.header found.1) ∙ to_header))

  row_to : (e : NumberedEdge) → Contains edges e → (i : Span) → Contains tree i → e.to ≡ i.header → IfSome (limit_at number_shape span_loops tree other (is_exit exit) e (Some i)) (λ n. asks e ≤ n)
  row_to e in_graph i i_in to_header =
      let is : find (λ j. eqb e.to j.header) tree ≡ Some i = find_of e i i_in to_header (find (λ j. eqb e.to j.header) tree) refl in
      subst (λ (o : Option Span). IfSome (limit_at number_shape span_loops tree other (is_exit exit) e o) (λ n. asks e ≤ n)) is (rows e in_graph)

  none_found : (o : Option Span) → (e : NumberedEdge) → find (λ j. eqb e.to j.header) tree ≡ o → is_header_in tree e.to ≡ false → o ≡ None
  none_found None e is plain = refl
  none_found (Some j) e is plain =
      let found = find_some (λ x. eqb e.to x.header) tree j is in
      absurd (both_ways (is_header_in tree e.to) plain (header_there tree e.to j found.0 (eqb-true e.to j.header found.1)))

  enter_asks : (e : NumberedEdge) → Contains edges e → e.from < e.to → (i : Span) → Contains tree i → e.to ≡ i.header → asks e ≤ other.arrival i
  enter_asks e in_graph up i i_in to_header =
      let outside : is_in i e.from ≡ false = ⊎_elim (λ holds. absurd (omega (arith, member_header i e.from holds, to_header))) (λ out. out) (cases_Bool (is_in i e.from)) in
      enter_row (is_in i e.from) i.bound (other.round i) (other.arrival i) (asks e) outside (row_to e in_graph i i_in to_header)

  plain_asks : (e : NumberedEdge) → Contains edges e → is_header_in tree e.to ≡ false → asks e ≤ value_of e.to
  plain_asks e in_graph plain =
      let none : find (λ j. eqb e.to j.header) tree ≡ None = none_found (find (λ j. eqb e.to j.header) tree) e refl plain in
      subst (λ (o : Option Span). IfSome (limit_at number_shape span_loops tree other (is_exit exit) e o) (λ n. asks e ≤ n)) none (rows e in_graph)

  turn_asks : (e : NumberedEdge) → Contains edges e → (i : Span) → Contains tree i → e.to ≡ i.header → is_in i e.from ≡ true → 0 < i.bound → asks e ≤ other.round i
  turn_asks e in_graph i i_in to_header inside some = back_row (is_in i e.from) i.bound (other.round i) (other.arrival i) (asks e) inside some (row_to e in_graph i i_in to_header)

  -- the number's distance, or the arrival of its instance, is at most the other one
  abbrev pub IsLow : ℕ → Type 0
  IsLow p = (is_header_in tree p ≡ false → distance_of c p ≤ value_of p) × ((i : Span) → Contains tree i → p ≡ i.header → arrival_of c i ≤ other.arrival i)

  abbrev Places : ℕ → Type 0
  Places q = (p : ℕ) → p < q → p < exit + 1 → IsLow p

  abbrev Stays : ℕ → Type 0
  Stays q = (n : ℕ) → n < length tree → (span_at tree n).last < q → stay_of c (span_at tree n) ≤ other_stay (span_at tree n)

  abbrev StaysTo : ℕ → ℕ → Type 0
  StaysTo q k = (n : ℕ) → n < k → n < length tree → (span_at tree n).last < q → stay_of c (span_at tree n) ≤ other_stay (span_at tree n)

  pub distance-le : (q : ℕ) → Places q → (p : ℕ) → p < q → p < exit + 1 → p ≢ exit → distance_of c p ≤ other.distance p
  distance-le q places p small placed inside = ⊎_elim
      (λ header. omega (arith, pass.header_distance p header))
      (λ plain.
      let inner : value_of p ≡ other.distance p = rw (ne_eqb p exit inside) refl in
      omega (arith, inner, (places p small placed).0 plain))
      (cases_Bool (is_header_in tree p))

  needed-le : (q : ℕ) → Places q → (e : NumberedEdge) → Contains edges e → e.from < q → ((j : Span) → Contains tree j → is_left e j ≡ true → stay_of c j ≤ other_stay j) → needed tree c e ≤ asks e
  needed-le q places e in_graph before stays =
      let from_in : e.from < exit = (order.places e in_graph).0 in
      let here : distance_of c e.from ≤ other.distance e.from = distance-le q places e.from before (omega arith) (λ is. absurd (omega arith)) in
      let sums : sum_by (λ i. cond (is_left e i) (stay_of c i) 0) tree ≤ sum_by (λ i. cond (is_left e i) (other_stay i) 0) tree =
      sum_by-le_all (λ i. cond (is_left e i) (stay_of c i) 0) (λ i. cond (is_left e i) (other_stay i) 0) tree
      (λ n d inside. let j = get_or tree n d in left_le (is_left e j) (stay_of c j) (other_stay j) (λ is. stays j (Contains-get_or tree n d inside) is)) in
      omega arith

  span_of : (j : Span) (in_tree : Contains tree j) → span_at tree in_tree.0 ≡ j
  span_of j in_tree = sym (get_or_default tree in_tree.0 j no_span in_tree.1) ∙ in_tree.2

  number_plain : (p : ℕ) → is_header_in tree p ≡ false → found_at tree c p ≡ distance_of c p
  number_plain p plain = rw plain refl

  number_header : (p : ℕ) (i : Span) → Contains tree i → p ≡ i.header → found_at tree c p ≡ arrival_of c i
  number_header p i i_in is = rw (header_there tree p i i_in is) (ap (λ (x : ℕ). slice_index c.arrivals.items x) is)

  place-le : (q : ℕ) → Places q → Stays q → Places (q + 1)
  place-le q places stays p small placed = ⊎_elim
      (λ same. ⊎_elim
      (λ start. (λ plain. omega (arith, start.1, number_plain p plain), λ i i_in is. omega (arith, start.1, number_header p i i_in is)))
      (λ by.
      let e = by.0 in
      let less : needed tree c e ≤ asks e = needed-le q places e by.1 (omega (arith, by.3, same))
      (λ j j_in is.
      let ended : j.last < q = ⊎_elim (λ less. less) (λ more. absurd (left_not e j is (member_from j e.to (omega (arith, member_header j e.from (left_member e j is), by.2, by.3)) (omega (arith, by.2, same))))) (cases_lt j.last q) in
      subst (λ (x : Span). stay_of c x ≤ other_stay x) (span_of j j_in) (stays j_in.0 j_in.1 (subst (λ (x : Span). x.last < q) (sym (span_of j j_in)) ended))) in (
        λ plain. omega (arith, less, by.4, number_plain p plain, subst (λ (x : ℕ). asks e ≤ value_of x) by.2 (plain_asks e by.1 (subst (λ (x : ℕ). is_header_in tree x ≡ false) (sym by.2) plain))),
        λ i i_in is. omega (arith, less, by.4, number_header p i i_in is, enter_asks e by.1 (omega (arith, by.2, by.3)) i i_in (by.2 ∙ is)),
      ))
      (pass.attained p placed))
      (λ differ. places p (omega arith) placed)
      (cases_eq p q)

  -- an instance that a back edge of another leaves comes before it
  left_before : (m n : ℕ) → m < length tree → n < length tree → (e : NumberedEdge) → e.to ≡ (span_at tree n).header → e.to ≤ e.from → e.from ≤ (span_at tree n).last → is_left e (span_at tree m) ≡ true → (m < n) × ((span_at tree m).last ≤ (span_at tree n).last)
  left_before m n m_below n_below e to_header back low is =
      let i = span_at tree m in
      let j = span_at tree n in
      let before : m < n = ⊎_elim (λ same. absurd (left_not e i is (member_from i e.to (omega (arith, to_header, ap (λ (x : ℕ). (span_at tree x).header) same)) (omega (arith, member_last i e.from (left_member e i is))))))
      (λ differ. ⊎_elim (λ less. less) (λ more. absurd (stays_back exit edges tree i j order (span_in tree m m_below) (span_in tree n n_below) (order.closing n m no_span more m_below) e to_header back low is)) differ)
      (cases_order m n) in
      (before, ⊎_elim (λ less. omega arith) (λ same. omega (arith, same.0)) (order.closing m n no_span before n_below))

  stay-le : (q : ℕ) → Places (q + 1) → (k : ℕ) → StaysTo (q + 1) k → k < length tree → (span_at tree k).last < q + 1 → (arrival_of c (span_at tree k) ≤ other.arrival (span_at tree k)) × (0 < (span_at tree k).bound → round_of c (span_at tree k) ≤ other.round (span_at tree k))
  stay-le q places k stays below ended =
      let i = span_at tree k in
      let i_in : Contains tree i = span_in tree k below in
      let shape = order.shape i i_in in (
        (places i.header (omega (arith, shape.0)) (omega (arith, shape.0, shape.1))).1 i i_in refl,
        λ some. ⊎_elim
            (λ zero_is. omega (arith, zero_is))
            (λ by.
            let e = by.0 in
            let less : needed tree c e ≤ asks e = needed-le (q + 1) places e by.1 (omega (arith, by.4))
            (λ j j_in is.
            let is_m : is_left e (span_at tree j_in.0) ≡ true = subst (λ (x : Span). is_left e x ≡ true) (sym (span_of j j_in)) is in
            let before = left_before j_in.0 k j_in.1 below e by.2 by.3 by.4 is_m in
            subst (λ (x : Span). stay_of c x ≤ other_stay x) (span_of j j_in) (stays j_in.0 before.0 j_in.1 (omega (arith, before.1)))) in
            let row : asks e ≤ other.round i = turn_asks e by.1 i i_in by.2 (member_from i e.from (omega (arith, by.2, by.3)) by.4) some in
            omega (arith, less, row, by.5))
            (pass.round_attained k below),
      )

  rounds-le : (b r s : ℕ) → (0 < b → r ≤ s) → b * r ≤ b * s
  rounds-le zero r s le = omega arith
  rounds-le (suc b) r s le = mul-le-mul_left (suc b) (le (omega arith))

  stays_to : (q : ℕ) → Places (q + 1) → (k : ℕ) → StaysTo (q + 1) k
  stays_to q places zero n small below ended = absurd (omega arith)
  stays_to q places (suc k) n small below ended = ⊎_elim
      (λ same.
      let parts = stay-le q places k (stays_to q places k) (omega arith) (subst (λ (x : ℕ). (span_at tree x).last < q + 1) same ended) in
      let i = span_at tree k in
      let product : i.bound * round_of c i ≤ i.bound * other.round i = rounds-le i.bound (round_of c i) (other.round i) parts.1 in
      subst (λ (x : ℕ). stay_of c (span_at tree x) ≤ other_stay (span_at tree x)) (sym same) (omega (arith, parts.0, product)))
      (λ differ. stays_to q places k n (omega arith) below ended)
      (cases_eq n k)

  all_places : (q : ℕ) → Places q × Stays q
  all_places zero = (λ p small placed. absurd (omega arith), λ n below ended. absurd (omega arith))
  all_places (suc q) =
      let before = all_places q in
      let places : Places (q + 1) = place-le q before.0 before.1 in
      (λ p small placed. places p (omega arith) placed, λ n below ended. stays_to q places (suc n) n (omega arith) below (omega arith))

  exit_plain : is_header_in tree exit ≡ false
  exit_plain = ⊎_elim (λ header. let found = header_found tree exit header in absurd (omega (arith, found.2, order.shape found.0 found.1))) (λ out. out) (cases_Bool (is_header_in tree exit))

  last_stay : (n : ℕ) → n < length tree → (arrival_of c (span_at tree n) ≤ other.arrival (span_at tree n)) × (0 < (span_at tree n).bound → round_of c (span_at tree n) ≤ other.round (span_at tree n))
  last_stay n below =
      let places : Places (exit + 1) = (all_places (exit + 1)).0 in
      let ended : (span_at tree n).last < exit + 1 = omega (arith, (order.shape (span_at tree n) (span_in tree n below)).1) in
      stay-le exit places n (stays_to exit places n) below ended

  pub is_least : IsAtMost (is_exit exit) tree (potentials_of c) other
  is_least =
      let all : Places (exit + 1) × Stays (exit + 1) = all_places (exit + 1) in
      record {
        bound =
            let inner : value_of exit ≡ other.bound = rw (eq-eqb exit exit refl) refl in
            omega (arith, inner, closes, (all.0 exit (omega arith) (omega arith)).0 exit_plain);
        distances = λ p apart. ⊎_elim
            (λ placed. distance-le (exit + 1) all.0 p placed placed (λ same. true≢false (sym (eq-eqb p exit same) ∙ apart)))
            (λ later. omega (arith, pass.later_distance p later))
            (cases_lt p (exit + 1));
        arrivals = λ i i_in. subst (λ (x : Span). arrival_of c x ≤ other.arrival x) (span_of i i_in) (last_stay i_in.0 i_in.1).0;
        rounds = λ i i_in. subst (λ (x : Span). round_of c x ≤ other.round x) (span_of i i_in)
            (⊎_elim (λ some. (last_stay i_in.0 i_in.1).1 some)
            (λ none. omega (arith, pass.round_zero i_in.0 i_in.1 (omega arith)))
            (cases_lt 0 (span_at tree i_in.0).bound));
      }
