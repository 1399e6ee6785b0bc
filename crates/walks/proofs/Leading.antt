-- Walks joined and repeated, and what they cost.
use Rattle.std.proofs.Common.{◌≡◌, ℕ, zero, suc, ◌+◌, ◌*◌, List, [], ◌∷◌, ◌++◌, refl, sym, subst, arith}
use Rattle.std.proofs.lemmas.List.Sums.{sum_by-append}
use Rattle.std.specs.List.{repeat}
use Rattle.walks.specs.Walk.{Shape, Leads, cost_of}

module _ {P E : Type 0} (shape : Shape P E) where
  pub cost-append : (v w : List E) → cost_of shape (v ++ w) ≡ cost_of shape v + cost_of shape w
  cost-append v w = sum_by-append shape.cost v w

  pub cost-repeated : (k : ℕ) (w : List E) → cost_of shape (repeat k w) ≡ k * cost_of shape w
  cost-repeated zero w = omega arith
  cost-repeated (suc k) w = omega (arith, cost-append w (repeat k w), cost-repeated k w)

module _ {P E : Type 0} (shape : Shape P E) (is_edge : E → Type 0) where
  pub Leads-append : (p m q : P) (v w : List E) → Leads shape is_edge p v m → Leads shape is_edge m w q → Leads shape is_edge p (v ++ w) q
  Leads-append p m q [] w is more = subst (λ (x : P). Leads shape is_edge x w q) (sym is) more
  Leads-append p m q (e ∷ v) w (in_graph, starts, leads) more = (in_graph, starts, Leads-append (shape.to e) m q v w leads more)

  pub Leads-repeated : (k : ℕ) (p : P) (w : List E) → Leads shape is_edge p w p → Leads shape is_edge p (repeat k w) p
  Leads-repeated zero p w leads = refl
  Leads-repeated (suc k) p w leads = Leads-append p p p w (repeat k w) leads (Leads-repeated k p w leads)
