-- What is said of a walk, with an edge more.
use Rattle.std.proofs.Common.{◌≡◌, ◌≢◌, ◌∙◌, ℕ, ◌+◌, ◌<◌, ◌≤◌, max, Bool, true, false, cond, List, [], ◌∷◌, ◌++◌, length, get_or, slice_set, Contains, Option, Some, None, ⊎_elim, refl, sym, ap, subst, arith, get_or-set_same, get_or-set_other}
use Rattle.std.proofs.lemmas.Bool.{cases_Bool, cases_eq}
use Rattle.walks.proofs.Joins as J
use Rattle.numbered_walks.specs.declared.span.NumberedEdge.{NumberedEdge}
use Rattle.numbered_walks.specs.declared.span.Span.{Span}
use Rattle.numbered_walks.specs.Index.{AreHeaders}
use Rattle.numbered_walks.specs.Ordered.{IsOrdered, ends_at_header, is_in, is_inside}
use Rattle.numbered_walks.specs.Reach.{most_in}
use Rattle.walk_counts.specs.Spans.{header_at, turns_at_end}
use Rattle.walk_counts.proofs.StayLemmas.{edge_back, edge_elsewhere, edge_from_outside, edge_in_stay, span_there}
use Rattle.kept_runs.specs.Stays.{IsOver, MayTurn, AreTurnsAfter, Turns, turned}

module _ (exit : ℕ) (edges : List NumberedEdge) (spans : List Span) (order : IsOrdered exit edges spans) (headers : List (Option Span)) (all : AreHeaders spans headers) where
  module _ (e : NumberedEdge) (in_graph : Contains edges e) (w : List NumberedEdge) (old new : List ℕ) (room : e.to < length old) (stepped : AreTurnsAfter spans old e.from w) where
    back : (s : Span) → Contains spans s → s.header ≡ e.to → is_in s e.from ≡ true → (most_in s (w ++ e ∷ []) ≡ max (most_in s w) (turns_at_end s w + 1)) × (turns_at_end s (w ++ e ∷ []) ≡ turns_at_end s w + 1)
    back s has = edge_back exit edges spans order e in_graph w s has

    -- what is counted of an instance where the edge begins
    counted : (s : Span) → Contains spans s → s.header ≡ e.to → is_in s e.from ≡ true → get_or old e.to 0 ≡ turns_at_end s w
    counted s has is from_in = ap (λ (n : ℕ). get_or old n 0) (sym is) ∙ stepped.turns_are s has from_in

    -- one back edge too many
    pub over : (s : Span) → IsOver headers e old s → ((x : Span) → Contains spans x → most_in x (w ++ e ∷ []) ≤ x.bound) → ⊥
    over s h keeps =
        let known = all.known e.to s h.header in
        let b = back s known.0 known.1 h.from_in in
        let few : most_in s (w ++ e ∷ []) ≤ s.bound = keeps s known.0 in
        omega (arith, few, b.0, counted s known.0 known.1 h.from_in, h.many)

    module _ (t : Turns headers e old new) where
      turned_by : (o : Option Span) (s : Span) → o ≡ Some s → turned o e old ≡ slice_set old e.to (cond (is_in s e.from) (get_or old e.to 0 + 1) 0)
      turned_by o s is = ap (λ (x : Option Span). turned x e old) is

      may_by : (o : Option Span) (s : Span) → o ≡ Some s → MayTurn o e old → is_in s e.from ≡ true → get_or old e.to 0 < s.bound
      may_by o s is may = subst (λ (x : Option Span). MayTurn x e old) is may

      -- what is counted at the header where the edge ends
      at_header : (s : Span) → Contains spans s → s.header ≡ e.to → get_or new s.header 0 ≡ cond (is_in s e.from) (get_or old e.to 0 + 1) 0
      at_header s has is =
          ap (λ (xs : List ℕ). get_or xs s.header 0) (t.turns_are ∙ turned_by (header_at headers e.to) s (span_there exit edges spans order headers all e.to s has is))
          ∙ ap (λ (k : ℕ). get_or (slice_set old e.to (cond (is_in s e.from) (get_or old e.to 0 + 1) 0)) k 0) is
          ∙ get_or-set_same old e.to (cond (is_in s e.from) (get_or old e.to 0 + 1) 0) 0 room

      -- elsewhere nothing changes
      kept_by : (o : Option Span) (k : ℕ) → k ≢ e.to → get_or (turned o e old) k 0 ≡ get_or old k 0
      kept_by None k other = refl
      kept_by (Some s) k other = get_or-set_other old e.to k (cond (is_in s e.from) (get_or old e.to 0 + 1) 0) 0 other

      turns_after_edge : (s : Span) → Contains spans s → is_in s e.to ≡ true → get_or new s.header 0 ≡ turns_at_end s (w ++ e ∷ [])
      turns_after_edge s has here = ⊎_elim
          (λ (is : s.header ≡ e.to). at_header s has is ∙ ⊎_elim
          (λ (from_in : is_in s e.from ≡ true).
          let b = back s has is from_in in
          let more : get_or old e.to 0 + 1 ≡ turns_at_end s (w ++ e ∷ []) = omega (arith, counted s has is from_in, b.1) in
          ap (λ (b : Bool). cond b (get_or old e.to 0 + 1) 0) from_in ∙ more)
          (λ (out : is_in s e.from ≡ false).
          let none = (edge_from_outside exit edges spans order e in_graph w s has out).1 in
          ap (λ (b : Bool). cond b (get_or old e.to 0 + 1) 0) out ∙ sym none)
          (cases_Bool (is_in s e.from)))
          (λ (other : s.header ≢ e.to).
          let stay = edge_in_stay exit edges spans order e in_graph w s has other here in
          ap (λ (xs : List ℕ). get_or xs s.header 0) t.turns_are ∙ kept_by (header_at headers e.to) s.header other ∙ stepped.turns_are s has stay.0 ∙ sym stay.1)
          (cases_eq s.header e.to)

      kept_after_edge : (s : Span) → Contains spans s → most_in s (w ++ e ∷ []) ≤ s.bound
      kept_after_edge s has =
          let before : most_in s w ≤ s.bound = stepped.kept s has in
          ⊎_elim
          (λ (is : s.header ≡ e.to). ⊎_elim
          (λ (from_in : is_in s e.from ≡ true).
          let b = back s has is from_in in
          let may : get_or old e.to 0 < s.bound = may_by (header_at headers e.to) s (span_there exit edges spans order headers all e.to s has is) t.may from_in in
          omega (arith, before, b.0, counted s has is from_in, may))
          (λ (out : is_in s e.from ≡ false).
          let same = (edge_from_outside exit edges spans order e in_graph w s has out).0 in
          omega (arith, before, same))
          (cases_Bool (is_in s e.from)))
          (λ (other : s.header ≢ e.to). omega (arith, before, edge_elsewhere exit edges spans order e in_graph w s has other))
          (cases_eq s.header e.to)

      pub turns_on : AreTurnsAfter spans new e.to (w ++ e ∷ [])
      turns_on = record { turns_are = turns_after_edge; kept = kept_after_edge }

-- a walk's front keeps what the walk keeps
pub front_keeps : (s : Span) (v w : List NumberedEdge) → most_in s (v ++ w) ≤ s.bound → most_in s v ≤ s.bound
front_keeps s v w keeps = omega (arith, keeps, J.most-append (is_inside s) (ends_at_header s) v w)
