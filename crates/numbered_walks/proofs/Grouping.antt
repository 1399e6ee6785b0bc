-- Edges put into groups by the number that they lead to.
use Rattle.std.proofs.Common.{◌≡◌, ℕ, ◌+◌, ◌<◌, ◌≤◌, ◌↔◌, Bool, true, false, List, [], ◌∷◌, ◌++◌, ⊎_elim, length, get_or, set, All, Contains, Vec, sym, ap, ◌∙◌, subst, arith}
use Rattle.std.specs.Global.{Global}
use Rattle.std.proofs.lemmas.Bool.{cases_eq, cases_lt, lt-ltb, ltb-true, ltb-false, le-ltb}
use Rattle.std.proofs.lemmas.List.{get_or-set_same, get_or-set_other, get_or_default, get_or-map, length-map}
use Rattle.std.proofs.Math.ListN.{length-set}
use Rattle.std.proofs.lemmas.List.Elements.{Contains-push, Contains-push_cases, Contains-append_left, Contains-get_or}
use Rattle.numbered_walks.specs.declared.span.NumberedEdge.{NumberedEdge}
use Rattle.numbered_walks.specs.declared.span.Span.{Span}
use Rattle.numbered_walks.specs.Ordered.{IsOrdered}
use Rattle.numbered_walks.specs.Index.{AreGrouped, edge_at, edges_of, is_up}
use Rattle.numbered_walks.proofs.Members.{no_numbered_edge}

-- what a group has to hold
abbrev Belongs : List NumberedEdge → ℕ → Bool → ℕ → ℕ → Type 0
Belongs edges limit up p k = (k < limit) × ((edge_at edges k).to ≡ p) × (is_up (edge_at edges k) ≡ up)

module _ (edges : List NumberedEdge) (n : ℕ) (up : Bool) (groups : List (Vec ℕ Global)) where
  pub group_more : (old new : Vec ℕ Global) → (edge_at edges n).to < length groups → old ≡ get_or groups (edge_at edges n).to old → new.items ≡ old.items ++ n ∷ [] → is_up (edge_at edges n) ≡ up → AreGrouped edges n up groups → AreGrouped edges (n + 1) up (set groups (edge_at edges n).to new)
  group_more old new inside at_old grown is_side all = λ p d small k. ⊎_elim
      (λ same.
      let t = (edge_at edges n).to in
      let here : get_or (set groups t new) p d ≡ new = ap (λ (m : ℕ). get_or (set groups t new) m d) same ∙ get_or-set_same groups t new d inside in
      let items : (get_or (set groups t new) p d).items ≡ old.items ++ n ∷ [] = ap (λ (v : Vec ℕ Global). v.items) here ∙ grown in
      let before : Contains old.items k ↔ Belongs edges n up t k = subst (λ (v : Vec ℕ Global). Contains v.items k ↔ Belongs edges n up t k) (sym at_old) (all t old inside k) in (
        λ at. ⊎_elim
            (λ earlier. let known = before.0 earlier in (omega (arith, known.0), known.1 ∙ sym same, known.2))
            (λ now_is. subst (λ (m : ℕ). Belongs edges (n + 1) up p m) now_is (omega arith, sym same, is_side))
            (Contains-push_cases old.items n k (subst (λ (l : List ℕ). Contains l k) items at)),
        λ known. subst (λ (l : List ℕ). Contains l k) (sym items)
            (⊎_elim
            (λ earlier. Contains-append_left old.items (n ∷ []) k (before.1 (earlier, known.1 ∙ same, known.2)))
            (λ later. subst (λ (m : ℕ). Contains (old.items ++ n ∷ []) m) (omega (arith, known.0)) (Contains-push old.items n))
            (cases_lt k n)),
      ))
      (λ other.
      let t = (edge_at edges n).to in
      let there : get_or (set groups t new) p d ≡ get_or groups p d = get_or-set_other groups t p new d other in
      let before = all p d (omega (arith, length-set {A = Vec ℕ Global})) k in (
        λ at. let known = before.0 (subst (λ (v : Vec ℕ Global). Contains v.items k) there at) in (omega (arith, known.0), known.1, known.2),
        λ known. subst (λ (v : Vec ℕ Global). Contains v.items k) (sym there)
            (⊎_elim
            (λ earlier. before.1 (earlier, known.1, known.2))
            (λ later. absurd (other (sym known.1 ∙ ap (λ (m : ℕ). (edge_at edges m).to) (omega (arith, known.0)))))
            (cases_lt k n)),
      ))
      (cases_eq p (edge_at edges n).to)

  pub group_skip : (is_up (edge_at edges n) ≡ up → ⊥) → AreGrouped edges n up groups → AreGrouped edges (n + 1) up groups
  group_skip other all = λ p d small k.
      let before = all p d small k in (
        λ at. let known = before.0 at in (omega (arith, known.0), known.1, known.2),
        λ known. ⊎_elim
            (λ earlier. before.1 (earlier, known.1, known.2))
            (λ later. absurd (other (ap (λ (m : ℕ). is_up (edge_at edges m)) (omega (arith, known.0)) ∙ known.2)))
            (cases_lt k n),
      )

pub none_grouped : (edges : List NumberedEdge) (up : Bool) (groups : List (Vec ℕ Global)) → All (λ v. v.items ≡ []) groups → AreGrouped edges 0 up groups
none_grouped edges up groups all = λ p d small k. (
  λ at. let none : Contains [] k = subst (λ (l : List ℕ). Contains l k) (all p d small) at in absurd (omega (arith, none.1)),
  λ known. absurd (omega (arith, known.0)),
)

-- an edge of a group, and its place in the list
pub edge_in : (edges : List NumberedEdge) (group : List ℕ) (e : NumberedEdge) → Contains (edges_of edges group) e → (k : ℕ) × Contains group k × (edge_at edges k ≡ e)
edge_in edges group e (n, below, at) =
    let inside : n < length group = omega (arith, below, length-map group (edge_at edges)) in
    let k = get_or group n 0 in
    (k, Contains-get_or group n 0 inside, sym (get_or-map (edge_at edges) group n 0 e inside) ∙ at)

pub edge_of : (edges : List NumberedEdge) (group : List ℕ) (k : ℕ) → Contains group k → Contains (edges_of edges group) (edge_at edges k)
edge_of edges group k (n, below, at) =
    (n, omega (arith, length-map group (edge_at edges)), get_or-map (edge_at edges) group n k (edge_at edges k) below ∙ ap (edge_at edges) at)

pub edge_at-in : (edges : List NumberedEdge) (k : ℕ) → k < length edges → Contains edges (edge_at edges k)
edge_at-in edges k inside = Contains-get_or edges k no_numbered_edge inside

-- an edge of the list leaves a number before that of Exit
pub from_low : (exit : ℕ) (edges : List NumberedEdge) (spans : List Span) → IsOrdered exit edges spans → (k : ℕ) → k < length edges → (edge_at edges k).from ≤ exit
from_low exit edges spans order k inside = omega (arith, (order.places (edge_at edges k) (edge_at-in edges k inside)).0)

-- a group has places of the list alone
pub group_known : (edges : List NumberedEdge) (up : Bool) (groups : List (Vec ℕ Global)) (p : ℕ) (d : Vec ℕ Global) → p < length groups → AreGrouped edges (length edges) up groups → (group : List ℕ) → group ≡ (get_or groups p d).items → All (λ k. k < length edges) group
group_known edges up groups p d small all group is = λ n e inside.
    let k = get_or group n e in
    ((all p d small k).0 (subst (λ (l : List ℕ). Contains l k) is (Contains-get_or group n e inside))).0

numbered : (edges : List NumberedEdge) (e : NumberedEdge) (at : Contains edges e) → edge_at edges at.0 ≡ e
numbered edges e at = get_or_default edges at.0 no_numbered_edge e at.1 ∙ at.2

module _ (edges : List NumberedEdge) (groups : List (Vec ℕ Global)) (p : ℕ) (d : Vec ℕ Global) (small : p < length groups) where
  -- the edges of a group, by whether they go up
  group_edges : (up : Bool) → AreGrouped edges (length edges) up groups → (e : NumberedEdge)
      → Contains (edges_of edges (get_or groups p d).items) e ↔ (Contains edges e × (e.to ≡ p) × (is_up e ≡ up))
  group_edges up all e = (
    λ at.
        let by = edge_in edges (get_or groups p d).items e at in
        let known = (all p d small by.0).0 by.1 in
        subst (λ (x : NumberedEdge). Contains edges x × (x.to ≡ p) × (is_up x ≡ up)) by.2 (edge_at-in edges by.0 known.0, known.1, known.2),
    λ known.
        let k = known.0.0 in
        let is : edge_at edges k ≡ e = numbered edges e known.0 in
        subst (λ (x : NumberedEdge). Contains (edges_of edges (get_or groups p d).items) x) is
        (edge_of edges (get_or groups p d).items k ((all p d small k).1 (known.0.1, ap (λ (x : NumberedEdge). x.to) is ∙ known.1, ap is_up is ∙ known.2))),
  )

  pub entering_edges : AreGrouped edges (length edges) true groups → (e : NumberedEdge) → Contains (edges_of edges (get_or groups p d).items) e ↔ (Contains edges e × (e.to ≡ p) × (e.from < p))
  entering_edges all e =
      let group = group_edges true all e in (
        λ at. let known = group.0 at in (known.0, known.1, omega (arith, known.1, ltb-true e.from e.to known.2)),
        λ known. group.1 (known.0, known.1, lt-ltb e.from e.to (omega (arith, known.1, known.2))),
      )

  pub turning_edges : AreGrouped edges (length edges) false groups → (e : NumberedEdge) → Contains (edges_of edges (get_or groups p d).items) e ↔ (Contains edges e × (e.to ≡ p) × (p ≤ e.from))
  turning_edges all e =
      let group = group_edges false all e in (
        λ at. let known = group.0 at in (known.0, known.1, omega (arith, known.1, ltb-false e.from e.to known.2)),
        λ known. group.1 (known.0, known.1, le-ltb e.from e.to (omega (arith, known.1, known.2))),
      )
