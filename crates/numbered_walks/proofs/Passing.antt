-- What a pass has found so far is attained, so an edge that needs too much shows a walk that costs too much.
use Rattle.std.proofs.Common.{◌≡◌, ℕ, zero, suc, ◌+◌, ◌*◌, ◌^◌, ◌<◌, ◌≤◌, Bool, true, false, cond, not, ◌&&◌, eqb, List, [], ◌∷◌, ◌⊎◌, ⊎_elim, inl, inr, length, None, Contains, sum_by, refl, sym, ap, ◌∙◌, subst, arith}
use Rattle.std.proofs.lemmas.List.{get_or_default}
use Rattle.std.proofs.lemmas.Bool.{false≢true, cases_Bool, cases_lt, both_ways, and_parts, eqb-true, eq-eqb}
use Rattle.std.proofs.lemmas.List.Elements.{Contains-get_or}
use Rattle.numbered_walks.specs.declared.span.NumberedEdge.{NumberedEdge}
use Rattle.numbered_walks.specs.declared.span.Span.{Span}
use Rattle.numbered_walks.specs.declared.tables.Tables.{Tables}
use Rattle.numbered_walks.specs.Ordered.{is_in, is_inside, ends_at_header}
use Rattle.numbered_walks.specs.Tables.{stay_of, needed, distance_of, arrival_of, round_of}
use Rattle.numbered_walks.specs.Ordered.{IsOrdered, TooLarge}
use Rattle.numbered_walks.specs.Tables.{IsPassed, TurnsBy, found_at, is_header_in}
use Rattle.numbered_walks.specs.Index.{span_at}
use Rattle.walks.proofs.SumLe.{sum_by-same_all}
use Rattle.numbered_walks.proofs.Nesting.{same_header, structure, level, level_lower}
use Rattle.walks.proofs.Joins.{keeps_from_most}
use Rattle.numbered_walks.proofs.Reaching as R
use Rattle.numbered_walks.proofs.Overflow.{WalkOver, walk_over}
use Rattle.numbered_walks.specs.Ordered.{IsOrdered}
use Rattle.numbered_walks.proofs.Members.{member_from, member_header, no_span}

pub header_found : (tree : List Span) (p : ℕ) → is_header_in tree p ≡ true → (i : Span) × Contains tree i × (p ≡ i.header)
header_found [] p is = absurd (false≢true is)
header_found (i ∷ tree) p is =
    elim (eqb i.header p) as (λ v. eqb i.header p ≡ v → cond v true (is_header_in tree p) ≡ true → (j : Span) × Contains (i ∷ tree) j × (p ≡ j.header)) [
      | true ↦ λ same all. (i, (0, omega arith, refl), sym (eqb-true i.header p same))
      | false ↦ λ other rest. let found = header_found tree p rest in (found.0, (suc found.1.0, omega (arith, found.1.1), found.1.2), found.2)
    ] refl is

pub header_there : (tree : List Span) (p : ℕ) (j : Span) → Contains tree j → p ≡ j.header → is_header_in tree p ≡ true
header_there [] p j (n, below, at) is = absurd (omega arith)
header_there (i ∷ tree) p j (zero, below, at) is = rw (eq-eqb i.header p (ap (λ (x : Span). x.header) at ∙ sym is)) refl
header_there (i ∷ tree) p j (suc n, below, at) is =
    let rest : is_header_in tree p ≡ true = header_there tree p j (n, omega arith, at) is in
    elim (eqb i.header p) as (λ v. cond v true (is_header_in tree p) ≡ true) [ true ↦ refl | false ↦ rest ]

mul_none : (a b : ℕ) → b ≡ 0 → a * b ≡ 0
mul_none a b is = rw is (omega arith)

module _ (exit : ℕ) (edges : List NumberedEdge) (tree : List Span) (k q : ℕ) (c : Tables) (order : IsOrdered exit edges tree) (pass : IsPassed edges tree k q c) (few : k ≤ length tree) (taken : Span → ℕ) (dist : ℕ → ℕ) (same : (p : ℕ) → dist p ≡ distance_of c p) (needs : (e : NumberedEdge) → R.needed edges tree taken dist (arrival_of c) (round_of c) e ≡ needed tree c e) where
  abbrev pub Placed : ℕ → Type 0
  Placed p = p < q

  abbrev pub rank : ℕ → ℕ
  rank p = p

  header_of : (p : ℕ) → Placed p → (i : Span) → Contains tree i → p ≡ i.header → is_header_in tree p ≡ true → R.HeaderAt edges tree taken dist (arrival_of c) (round_of c) Placed rank p
  header_of p placed i i_in is header =
      let number : found_at tree c p ≡ arrival_of c i = rw (header, is) refl in
      record {
        instance = i;
        in_tree = i_in;
        is = is;
        zero_here = same p ∙ pass.header_distance p header;
        by = ⊎_elim
            (λ start. inr (start.0 ∙ sym refl, sym number ∙ start.1))
            (λ by. inl (record {
              edge = by.0;
              in_graph = by.1;
              ends = by.2;
              outside = ⊎_elim (λ holds. absurd (omega (arith, member_header i by.0.from holds, by.3))) (λ out. out) (cases_Bool (is_in i by.0.from));
              attained = sym number ∙ by.4 ∙ sym (needs by.0);
              place = omega (arith, by.3);
              earlier = by.3;
            }))
            (pass.attained p placed);
      }

  place_of : (p : ℕ) → Placed p → R.StartAt edges tree taken dist (arrival_of c) (round_of c) Placed rank p ⊎ (R.StepTo edges tree taken dist (arrival_of c) (round_of c) Placed rank p ⊎ R.HeaderAt edges tree taken dist (arrival_of c) (round_of c) Placed rank p)
  place_of p placed = ⊎_elim
      (λ header. let found = header_found tree p header in inr (inr (header_of p placed found.0 found.1 found.2 header)))
      (λ other.
      let number : found_at tree c p ≡ dist p = rw other (sym (same p)) in
      let none : (j : Span) → Contains tree j → p ≡ j.header → ⊥ = λ j j_in is. both_ways (is_header_in tree p) other (header_there tree p j j_in is) in
      ⊎_elim
      (λ start. inl (record { is = start.0 ∙ sym refl; no_header = none; zero_here = sym number ∙ start.1 }))
      (λ by. inr (inl (record { edge = by.0; in_graph = by.1; ends = by.2; no_header = none; attained = sym number ∙ by.4 ∙ sym (needs by.0); place = omega (arith, by.3); earlier = by.3 })))
      (pass.attained p placed))
      (cases_Bool (is_header_in tree p))

  turn_of : (i : Span) → Contains tree i → (taken i * round_of c i ≡ 0) ⊎ R.BackEdge edges tree taken dist (arrival_of c) (round_of c) Placed rank i
  turn_of i i_in =
      let n = i_in.0 in
      let is : span_at tree n ≡ i = sym (get_or_default tree n i no_span i_in.1) ∙ i_in.2 in
      ⊎_elim
      (λ closed.
      let last_done : i.last < q = subst (λ (x : Span). x.last < q) is (pass.closed n closed) in
      ⊎_elim (λ none. inl (mul_none (taken i) (round_of c i) none))
      (λ by. inr (record {
        edge = by.0;
        in_graph = by.1;
        from_in = member_from i by.0.from (omega (arith, by.2, by.3)) by.4;
        ends = by.2;
        attained = by.5 ∙ sym (needs by.0);
        place = omega (arith, by.4);
      }))
      (subst (λ (x : Span). (round_of c x ≡ 0) ⊎ TurnsBy edges tree c x) is (pass.round_attained n closed)))
      (λ later. inl (mul_none (taken i) (round_of c i) (subst (λ (x : Span). round_of c x ≡ 0) is (pass.later_round n later i_in.1))))
      (cases_lt n k)

  pub attains : R.Attained edges tree taken dist (arrival_of c) (round_of c) Placed rank
  attains = record { places = place_of; rounds = turn_of }

  pub reached : (p : ℕ) → p < q → R.Reach edges tree taken dist (arrival_of c) (round_of c) None p
  reached p placed =
      let st = structure exit edges tree order taken dist (arrival_of c) (round_of c) in
      let lv = level exit edges tree order taken dist (arrival_of c) (round_of c) in
      R.reach edges tree taken dist (arrival_of c) (round_of c) Placed rank st attains lv q (λ x px. px)
      (λ o i here i_in is_below. level_lower exit edges tree order taken dist (arrival_of c) (round_of c) o i here i_in is_below)
      (suc (lv None * q + p)) None tt p placed refl (omega arith)

  pub too_large : (e : NumberedEdge) → Contains edges e → e.from < q → ((j : Span) → Contains tree j → taken j ≤ j.bound) → ((j : Span) → Contains tree j → is_inside j e ≡ true → ends_at_header j e ≡ true → taken j < j.bound) → 2 ^ 63 ≤ needed tree c e → TooLarge exit edges tree
  too_large e in_graph before within room over =
      let w : WalkOver edges tree taken dist (arrival_of c) (round_of c) e = walk_over edges tree taken dist (arrival_of c) (round_of c) e in_graph within room (reached e.from before) in
      record {
        place = e.to;
        walk = w.walk;
        leads = w.leads;
        kept = λ i i_in. keeps_from_most (is_inside i) (ends_at_header i) i.bound w.walk (w.kept i i_in);
        costs = omega (arith, w.cost, needs e);
      }

-- an edge up that needs too much
pub place_over : (exit : ℕ) (edges : List NumberedEdge) (tree : List Span) (k q : ℕ) (c : Tables) → IsOrdered exit edges tree → IsPassed edges tree k q c → k ≤ length tree → (e : NumberedEdge) → Contains edges e → e.from < e.to → e.from < q → 2 ^ 63 ≤ needed tree c e → TooLarge exit edges tree
place_over exit edges tree k q c order pass few e in_graph up before over =
    too_large exit edges tree k q c order pass few (λ i. i.bound) (distance_of c) (λ p. refl) (λ x. refl) e in_graph before (λ j j_in. omega arith)
    (λ j j_in inside turns.
    let parts : (is_in j e.from ≡ true) × (is_in j e.to ≡ true) = and_parts (is_in j e.from) (is_in j e.to) inside in
    absurd (omega (arith, member_header j e.from parts.0, eqb-true e.to j.header turns)))
    over

-- the rounds taken, with none of this instance
without : Span → Span → ℕ
without i j = cond (eqb j.header i.header) 0 j.bound

without_le : (b : Bool) (n : ℕ) → cond {A = ℕ} b 0 n ≤ n
without_le true n = omega arith
without_le false n = omega arith

without_stay : (b : Bool) (a n r : ℕ) → (b ≡ true → r ≡ 0) → a + cond {A = ℕ} b 0 n * r ≡ a + n * r
without_stay true a n r none = rw (none refl) (omega arith)
without_stay false a n r none = refl

-- a back edge that needs too much
pub round_over : (exit : ℕ) (edges : List NumberedEdge) (tree : List Span) (k q : ℕ) (i : Span) (c : Tables) → IsOrdered exit edges tree → IsPassed edges tree k q c → k < length tree → i ≡ span_at tree k → (e : NumberedEdge) → Contains edges e → e.to ≡ i.header → e.from < q → 0 < i.bound → 2 ^ 63 ≤ needed tree c e → TooLarge exit edges tree
unfolding without
round_over exit edges tree k q i c order pass few at_k e in_graph to_header before some over =
    let i_in : Contains tree i = subst (λ (x : Span). Contains tree x) (sym at_k) (Contains-get_or tree k no_span few) in
    let none : round_of c i ≡ 0 = subst (λ (x : Span). round_of c x ≡ 0) (sym at_k) (pass.later_round k (omega arith) few) in
    too_large exit edges tree k q c order pass (omega arith) (λ j. cond (eqb j.header i.header) 0 j.bound) (distance_of c) (λ p. refl)
    (λ x.
    let one = λ (j : Span). cond (is_in j x.from && not (is_in j x.to)) (arrival_of c j + cond (eqb j.header i.header) 0 j.bound * round_of c j) 0 in
    let two = λ (j : Span). cond (is_in j x.from && not (is_in j x.to)) (stay_of c j) 0 in
    let sums : sum_by one tree ≡ sum_by two tree = sum_by-same_all one two tree
    (λ j j_in. ap (λ (n : ℕ). cond (is_in j x.from && not (is_in j x.to)) n 0) (without_stay (eqb j.header i.header) (arrival_of c j) j.bound (round_of c j)
    (λ is. subst (λ (y : Span). round_of c y ≡ 0) (sym (same_header tree order.headers_differ j i j_in i_in (eqb-true j.header i.header is))) none))) in
    omega (arith, sums))
    e in_graph before
    (λ j j_in. without_le (eqb j.header i.header) j.bound)
    (λ j j_in inside turns.
    let is : j.header ≡ i.header = sym (eqb-true e.to j.header turns) ∙ to_header in
    let same : i ≡ j = sym (same_header tree order.headers_differ j i j_in i_in is) in
    rw (eq-eqb j.header i.header is) (subst (λ (x : Span). 0 < x.bound) same some))
    over
