-- Members of spans, and which numbers walks reach.
use Rattle.std.proofs.Common.{◌≡◌, ℕ, zero, suc, ◌<◌, ◌≤◌, true, leb, List, [], ◌∷◌, ◌++◌, Option, Some, None, ⊎_elim, Contains, refl, arith}
use Rattle.std.proofs.lemmas.Bool.{cases_Bool, cases_lt, le-leb, leb-true, and_from, and_parts}
use Rattle.walks.proofs.Leading.{Leads-append}
use Rattle.numbered_walks.specs.declared.span.NumberedEdge.{NumberedEdge}
use Rattle.numbered_walks.specs.declared.span.Span.{Span}
use Rattle.numbered_walks.specs.Ordered.{IsOrdered, Leads, is_in, number_shape}
use Rattle.numbered_walks.specs.Reach.{InTree, holds_in, start_of}

-- what a list has past its end
abbrev pub no_span : Span
no_span = record { header = 0; last = 0; bound = 0 }

abbrev pub no_numbered_edge : NumberedEdge
no_numbered_edge = record { from = 0; to = 0; cost = 0 }

pub member_header : (i : Span) (p : ℕ) → is_in i p ≡ true → i.header ≤ p
member_header i p is = leb-true i.header p (and_parts (leb i.header p) (leb p i.last) is).0

pub member_last : (i : Span) (p : ℕ) → is_in i p ≡ true → p ≤ i.last
member_last i p is = leb-true p i.last (and_parts (leb i.header p) (leb p i.last) is).1

pub member_from : (i : Span) (p : ℕ) → i.header ≤ p → p ≤ i.last → is_in i p ≡ true
member_from i p low high = and_from (leb i.header p) (leb p i.last) (le-leb i.header p low) (le-leb p i.last high)

-- some walk from the entry leads to the number
abbrev pub IsReachable : List NumberedEdge → ℕ → Type 0
IsReachable edges p = (walk : List NumberedEdge) × Leads edges 0 walk p

module _ (exit : ℕ) (edges : List NumberedEdge) (tree : List Span) (order : IsOrdered exit edges tree) where
  pub header_in : (i : Span) → Contains tree i → is_in i i.header ≡ true
  header_in i i_in = member_from i i.header (omega arith) (order.shape i i_in).0

  -- an edge to a later number of a context begins in it
  pub begins_in : (context : Option Span) → InTree tree context → (e : NumberedEdge) → Contains edges e → holds_in context e.to ≡ true → start_of context < e.to → holds_in context e.from ≡ true
  begins_in None here e in_graph goes_in later = refl
  begins_in (Some k) here e in_graph goes_in later =
      ⊎_elim (λ inside. inside) (λ out. absurd (omega (arith, order.entered e in_graph k here out goes_in))) (cases_Bool (is_in k e.from))

  reach_place : (n p : ℕ) → p < n → p < exit → IsReachable edges p
  reach_place zero p small placed = absurd (omega arith)
  reach_place (suc n) p small placed =
      ⊎_elim
      (λ some.
      let by = order.entered_up p some placed in
      let before : IsReachable edges by.0.from = reach_place n by.0.from (omega (arith, by.3)) (omega (arith, by.3)) in
      (before.0 ++ by.0 ∷ [], Leads-append number_shape (Contains edges) 0 by.0.from p before.0 (by.0 ∷ []) before.1 (by.1, refl, by.2)))
      (λ first. ([], omega arith))
      (cases_lt 0 p)

  pub reachable : (p : ℕ) → p < exit → IsReachable edges p
  reachable p placed = reach_place (suc p) p (omega arith) placed

  pub header_reached : (i : Span) → Contains tree i → IsReachable edges i.header
  header_reached i i_in = let shape = order.shape i i_in in reachable i.header (omega (arith, shape.0, shape.1))
