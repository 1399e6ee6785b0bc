-- A walk over numbers along which a mask is set costs no more than the greatest of all along the edges that
-- count.
use Rattle.std.proofs.Common.{◌≡◌, ◌∙◌, ℕ, ◌+◌, ◌<◌, ◌≤◌, ◌⊎◌, Bool, true, false, cond, List, [], ◌∷◌, ◌++◌, map, All, Contains, ⊎_elim, inl, inr, refl, sym, ap, subst, arith}
use Rattle.std.proofs.lemmas.Bool.{and_parts, and_right, cases_Bool, ne_eqb}
use Rattle.std.proofs.lemmas.List.Elements.{All-head, All-tail}
use Rattle.std.proofs.lemmas.List.Sums.{sum_by-cons}
use Rattle.walks.specs.Segments.{head, most}
use Rattle.walks.proofs.Joins.{head-le-most, keeps_from_most, most-append, most_from_keeps}
use Rattle.numbered_walks.specs.declared.span.NumberedEdge.{NumberedEdge}
use Rattle.numbered_walks.specs.declared.span.Span.{Span}
use Rattle.numbered_walks.specs.Ordered.{IsOrdered, KeepsBounds, Leads, cost_of, ends_at_header, is_in, is_inside}
use Rattle.numbered_walks.proofs.Members.{member_last}
use Rattle.text_masked.specs.declared.marked.MarkedEdge.{MarkedEdge}
use Rattle.text_masked.specs.declared.shown.Shown.TheVariants.{Clears}
use Rattle.text_masked.specs.Held.{AreHeld, AreTurned, GoesOnRound, IsGreatestOfAll, carries, charged, flag_at, held_edges, is_set, is_set_after, turned_spans}
use Rattle.text_masked.proofs.OrderLemmas as O
use Rattle.text_masked.proofs.OrderLemmas.{after_held, cases_clears, set_after}
use Rattle.text_masked.proofs.TurnLemmas.{kept_of}

-- no edge clears the mask, but perhaps the last
abbrev pub NoneClears : List MarkedEdge → Type 0
NoneClears [] = Unit {0}
NoneClears (m ∷ []) = Unit {0}
NoneClears (m ∷ (next ∷ ms)) = (m.shown ≡ Clears → ⊥) × NoneClears (next ∷ ms)

abbrev pub plain : List MarkedEdge → List NumberedEdge
plain ms = map (λ (m : MarkedEdge). m.edge) ms

cond_up : (b : Bool) (t h k : ℕ) → h ≤ k → cond b (t + h) 0 ≤ cond b (t + k) 0
cond_up b t h k le = elim b as (λ (c : Bool). cond c (t + h) 0 ≤ cond c (t + k) 0) [ true ↦ omega (arith, le) | false ↦ omega arith ]

-- an edge in place of another, that lies in no span where the other does, or is the same
head_up : (s : Span) (x e : NumberedEdge) (v w : List NumberedEdge) → (is_inside s x ≡ false) ⊎ (x ≡ e) → head (is_inside s) (ends_at_header s) v ≤ head (is_inside s) (ends_at_header s) w
    → head (is_inside s) (ends_at_header s) (x ∷ v) ≤ head (is_inside s) (ends_at_header s) (e ∷ w)
head_up s x e v w near le = ⊎_elim
    (λ (out : is_inside s x ≡ false).
    let none : head (is_inside s) (ends_at_header s) (x ∷ v) ≡ 0 = ap (λ (b : Bool). cond {A = ℕ} b (cond {A = ℕ} (ends_at_header s x) 1 0 + head (is_inside s) (ends_at_header s) v) 0) out in
    omega (arith, none))
    (λ (is : x ≡ e). subst (λ (y : NumberedEdge). head (is_inside s) (ends_at_header s) (x ∷ v) ≤ head (is_inside s) (ends_at_header s) (y ∷ w)) is
    (cond_up (is_inside s x) (cond {A = ℕ} (ends_at_header s x) 1 0) (head (is_inside s) (ends_at_header s) v) (head (is_inside s) (ends_at_header s) w) le))
    near

after_front : (edges front w : List NumberedEdge) (e : NumberedEdge) (p q : ℕ) → Leads edges p (front ++ e ∷ w) q → Leads edges e.to w q
after_front edges [] w e p q h = h.2
after_front edges (x ∷ front) w e p q h = after_front edges front w e x.to q h.2

module _ (exit : ℕ) (edges : List NumberedEdge) (spans : List Span) (order : IsOrdered exit edges spans) (marked : List MarkedEdge) (same : map (λ (m : MarkedEdge). m.edge) marked ≡ edges) (held : List Bool) (are_held : AreHeld marked exit held) (turned : List Bool) (are_turned : AreTurned marked held (exit + 1) turned) (none : GoesOnRound marked held turned spans → ⊥) where
  abbrev counted : List NumberedEdge
  counted = held_edges exit held marked

  abbrev charge : List MarkedEdge → List NumberedEdge
  charge ms = map (charged exit held) ms

  abbrev head_in : Span → List NumberedEdge → ℕ
  head_in s w = head (is_inside s) (ends_at_header s) w

  abbrev most_in : Span → List NumberedEdge → ℕ
  most_in s w = most (is_inside s) (ends_at_header s) w

  in_order : IsOrdered exit (held_edges exit held marked) (turned_spans turned spans)
  in_order = O.ordered exit edges spans order marked same held are_held turned are_turned none

  -- the walk along the edges that count
  record Forth (ms : List MarkedEdge) (p : ℕ) : Type 0 where
    last : ℕ
    last_in : last < exit + 1
    leads : Leads (held_edges exit held marked) p (map (charged exit held) ms) last
    cost : cost_of (map (charged exit held) ms) ≡ cost_of (plain ms)
    heads : (s : Span) → Contains spans s → head (is_inside s) (ends_at_header s) (map (charged exit held) ms) ≤ head (is_inside s) (ends_at_header s) (plain ms)
    mosts : (s : Span) → Contains spans s → most (is_inside s) (ends_at_header s) (map (charged exit held) ms) ≤ most (is_inside s) (ends_at_header s) (plain ms)

  nothing : (p : ℕ) → p < exit + 1 → Forth [] p
  nothing p lt = record { last = p; last_in = lt; leads = refl; cost = refl; heads = λ s has. omega arith; mosts = λ s has. omega arith }

  -- ## One edge

  out_of : (s : Span) → Contains spans s → is_in s exit ≡ false
  out_of s has = ⊎_elim
      (λ (inside : is_in s exit ≡ true). absurd (omega (arith, member_last s exit inside, (order.shape s has).1)))
      (λ (out : is_in s exit ≡ false). out)
      (cases_Bool (is_in s exit))

  abbrev Near : MarkedEdge → NumberedEdge → Type 0
  Near m x = (x.from ≡ m.edge.from) × (x.cost ≡ m.edge.cost) × ((s : Span) → Contains spans s → (is_inside s x ≡ false) ⊎ (x ≡ m.edge))

  is_near : (m : MarkedEdge) → flag_at held m.edge.from ≡ true → Near m (charged exit held m)
  is_near m on = ⊎_elim
      (λ (clears : m.shown ≡ Clears).
      let x : NumberedEdge = record { from = m.edge.from; to = exit; cost = m.edge.cost } in
      let is : charged exit held m ≡ x = O.charged_out exit edges spans order marked same held are_held turned are_turned none m on clears in
      subst (λ (y : NumberedEdge). Near m y) (sym is) (refl, refl, λ s has. inl (and_right (is_in s x.from) (is_in s exit) (out_of s has))))
      (λ (unlike : m.shown ≡ Clears → ⊥).
      let is : charged exit held m ≡ m.edge = O.charged_as exit edges spans order marked same held are_held turned are_turned none m on unlike in
      subst (λ (y : NumberedEdge). Near m y) (sym is) (refl, refl, λ s has. inr refl))
      (cases_clears m.shown)

  step : (m : MarkedEdge) (ms : List MarkedEdge) (p : ℕ) → Contains marked m → flag_at held m.edge.from ≡ true → m.edge.from ≡ p → Forth ms (charged exit held m).to → Forth (m ∷ ms) p
  step m ms p has on starts rest =
      let x : NumberedEdge = charged exit held m in
      let near : Near m x = is_near m on in
      record {
        last = rest.last;
        last_in = rest.last_in;
        leads = (O.charged_in exit edges spans order marked same held are_held turned are_turned none m has, near.0 ∙ starts, rest.leads);
        cost = omega (arith, near.1, rest.cost, sum_by-cons (λ (e : NumberedEdge). e.cost) x (map (charged exit held) ms), sum_by-cons (λ (e : NumberedEdge). e.cost) m.edge (plain ms));
        heads = λ s in_spans. head_up s x m.edge (map (charged exit held) ms) (plain ms) (near.2 s in_spans) (rest.heads s in_spans);
        mosts = λ s in_spans.
            let first : head (is_inside s) (ends_at_header s) (x ∷ map (charged exit held) ms) ≤ head (is_inside s) (ends_at_header s) (m.edge ∷ plain ms) = head_up s x m.edge (map (charged exit held) ms) (plain ms) (near.2 s in_spans) (rest.heads s in_spans) in
            omega (arith, first, rest.mosts s in_spans);
      }

  -- ## The walk

  forth : (ms : List MarkedEdge) (p q : ℕ) → All (Contains marked) ms → NoneClears ms → Leads edges p (plain ms) q → flag_at held p ≡ true → Forth ms p
  forth [] p q all stays leads on = nothing p (omega (arith, O.held_low exit edges spans order marked same held are_held turned are_turned none p on))
  forth (m ∷ []) p q all stays leads on =
      let has : Contains marked m = All-head (Contains marked) m [] all in
      let here : flag_at held m.edge.from ≡ true = ap (flag_at held) leads.1 ∙ on in
      let there = in_order.places (charged exit held m) (O.charged_in exit edges spans order marked same held are_held turned are_turned none m has) in
      step m [] p has here leads.1 (nothing (charged exit held m).to (omega (arith, there.1)))
  forth (m ∷ (next ∷ ms)) p q all stays leads on =
      let has : Contains marked m = All-head (Contains marked) m (next ∷ ms) all in
      let here : flag_at held m.edge.from ≡ true = ap (flag_at held) leads.1 ∙ on in
      let as_is : charged exit held m ≡ m.edge = O.charged_as exit edges spans order marked same held are_held turned are_turned none m here stays.0 in
      let after : carries held m ≡ true = ap (λ (b : Bool). is_set_after b m.shown) here ∙ after_held m.shown stays.0 in
      let low : m.edge.to < exit = omega (arith, leads.2.1, (order.places next.edge leads.2.0).0) in
      let held_next : flag_at held m.edge.to ≡ true = O.carried exit edges spans order marked same held are_held turned are_turned none m has after low in
      let rest : Forth (next ∷ ms) m.edge.to = forth (next ∷ ms) m.edge.to q (All-tail (Contains marked) m (next ∷ ms) all) stays.1 leads.2 held_next in
      step m (next ∷ ms) p has here leads.1 (subst (λ (e : NumberedEdge). Forth (next ∷ ms) e.to) (sym as_is) rest)

  -- ## The bound

  start_head : (before : MarkedEdge) (w : List NumberedEdge) (s : Span) → Contains spans s → 0 < before.edge.to
      → head (is_inside s) (ends_at_header s) (record { from = 0; to = before.edge.to; cost = 0 } ∷ w) ≤ head (is_inside s) (ends_at_header s) w
  start_head before w s has some =
      let x : NumberedEdge = record { from = 0; to = before.edge.to; cost = 0 } in
      ⊎_elim
      (λ (inside : is_inside s x ≡ true).
      let zero_in : is_in s 0 ≡ true = (and_parts (is_in s 0) (is_in s before.edge.to) inside).0 in
      let header : 0 ≡ s.header = order.entry_at_header s has zero_in in
      let no_turn : ends_at_header s x ≡ false = ne_eqb before.edge.to s.header (λ same. absurd (omega arith)) in
      let is : head (is_inside s) (ends_at_header s) (x ∷ w) ≡ cond {A = ℕ} (ends_at_header s x) 1 0 + head (is_inside s) (ends_at_header s) w =
      ap (λ (b : Bool). cond {A = ℕ} b (cond {A = ℕ} (ends_at_header s x) 1 0 + head (is_inside s) (ends_at_header s) w) 0) inside in
      let turn : cond {A = ℕ} (ends_at_header s x) 1 0 ≡ 0 = ap (λ (b : Bool). cond {A = ℕ} b 1 0) no_turn in
      omega (arith, is, turn))
      (λ (out : is_inside s x ≡ false).
      let is : head (is_inside s) (ends_at_header s) (x ∷ w) ≡ 0 = ap (λ (b : Bool). cond {A = ℕ} b (cond {A = ℕ} (ends_at_header s x) 1 0 + head (is_inside s) (ends_at_header s) w) 0) out in
      omega (arith, is))
      (cases_Bool (is_inside s x))

  pub bounded : (before : MarkedEdge) (ms : List MarkedEdge) (front : List NumberedEdge) (q n : ℕ) → Contains marked before → is_set before.shown ≡ true → All (Contains marked) ms → NoneClears ms
      → Leads edges 0 (front ++ before.edge ∷ plain ms) q → KeepsBounds spans (front ++ before.edge ∷ plain ms) → IsGreatestOfAll (held_edges exit held marked) (turned_spans turned spans) (exit + 1) n → cost_of (plain ms) ≤ n
  bounded before [] front q n has sets all stays leads kept is = omega arith
  bounded before (m ∷ ms) front q n has sets all stays leads kept is =
      let after = after_front edges front (plain (m ∷ ms)) before.edge 0 q leads in
      let low : before.edge.to < exit = omega (arith, after.1, (order.places m.edge after.0).0) in
      let on : flag_at held before.edge.to ≡ true =
      O.carried exit edges spans order marked same held are_held turned are_turned none before has (set_after (flag_at held before.edge.from) before.shown sets) low in
      let some : 0 < before.edge.to = O.held_above exit edges spans order marked same held are_held turned are_turned none before.edge.to on in
      let f : Forth (m ∷ ms) before.edge.to = forth (m ∷ ms) before.edge.to q all stays after on in
      let x : NumberedEdge = record { from = 0; to = before.edge.to; cost = 0 } in
      let w : List NumberedEdge = map (charged exit held) (m ∷ ms) in
      let there : Contains counted x = subst (λ (e : NumberedEdge). Contains counted e) (O.starts_as exit edges spans order marked same held are_held turned are_turned none before sets) (O.free_in exit edges spans order marked same held are_held turned are_turned none before has) in
      let keeps : KeepsBounds (turned_spans turned spans) (x ∷ w) = λ s s_in.
      let in_spans : Contains spans s = (kept_of (λ (t : Span). flag_at turned t.header) spans s s_in).0 in
      let few : most_in s (front ++ before.edge ∷ plain (m ∷ ms)) ≤ s.bound = most_from_keeps (is_inside s) (ends_at_header s) s.bound (front ++ before.edge ∷ plain (m ∷ ms)) (kept s in_spans) in
      let parts = most-append (is_inside s) (ends_at_header s) front (before.edge ∷ plain (m ∷ ms)) in
      let first = start_head before w s in_spans some in
      keeps_from_most (is_inside s) (ends_at_header s) s.bound (x ∷ w) (omega (arith, few, parts, first, f.heads s in_spans, f.mosts s in_spans, head-le-most (is_inside s) (ends_at_header s) w, head-le-most (is_inside s) (ends_at_header s) (plain (m ∷ ms)))) in
      let top = is.most f.last f.last_in in
      let least = top.1.upper (x ∷ w) (there, refl, f.leads) keeps in
      omega (arith, least, top.2, f.cost, sum_by-cons (λ (e : NumberedEdge). e.cost) x w)
