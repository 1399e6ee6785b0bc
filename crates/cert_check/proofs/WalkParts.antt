-- Parts of walks that are in a row or are repeated.
use Rattle.std.proofs.Common.{◌≡◌, ◌≢◌, ◌∙◌, ℕ, zero, suc, ◌<◌, ◌≤◌, List, [], ◌∷◌, ◌++◌, length, All, refl, sym, ap, subst, arith, length-append}
use Rattle.std.proofs.lemmas.List.Elements.{All-nil, All-cons, All-head, All-tail}
use Rattle.std.specs.List.{repeat}
use Rattle.walks.specs.Walk.{Leads, Shape}

-- ## Lists

pub All-left : {X : Type 0} (P : X → Type 0) (xs ys : List X) → All P (xs ++ ys) → All P xs
All-left P [] ys all = All-nil P
All-left P (x ∷ xs) ys all = All-cons P x xs (All-head P x (xs ++ ys) all) (All-left P xs ys (All-tail P x (xs ++ ys) all))

pub All-right : {X : Type 0} (P : X → Type 0) (xs ys : List X) → All P (xs ++ ys) → All P ys
All-right P [] ys all = all
All-right P (x ∷ xs) ys all = All-right P xs ys (All-tail P x (xs ++ ys) all)

pub repeated-long : {X : Type 0} (n k : ℕ) (xs : List X) → 0 < k → n ≤ length xs → n ≤ length (repeat k xs)
repeated-long n zero xs some long = absurd (omega arith)
repeated-long n (suc k) xs some long = omega (arith, long, length-append xs (repeat k xs))

pub some_element : {X : Type 0} (xs : List X) → 0 < length xs → xs ≢ []
some_element xs some is = omega (arith, some, ap length is)

-- ## Walks

module _ {P E : Type 0} (shape : Shape P E) (is_edge : E → Type 0) where
  pub leads_left : (p q : P) (v w : List E) → Leads shape is_edge p (v ++ w) q → (m : P) × Leads shape is_edge p v m
  leads_left p q [] w leads = (p, refl)
  leads_left p q (e ∷ v) w (in_graph, starts, leads) = let rest = leads_left (shape.to e) q v w leads in (rest.0, (in_graph, starts, rest.1))

  pub leads_right : (p m q : P) (v w : List E) → Leads shape is_edge p (v ++ w) q → Leads shape is_edge p v m → Leads shape is_edge m w q
  leads_right p m q [] w leads is = subst (λ (x : P). Leads shape is_edge x w q) is leads
  leads_right p m q (e ∷ v) w (in_graph, starts, leads) (also, begins, there) = leads_right (shape.to e) m q v w leads there

  pub ends_same : (p a b : P) (v : List E) → Leads shape is_edge p v a → Leads shape is_edge p v b → a ≡ b
  ends_same p a b [] one other = sym one ∙ other
  ends_same p a b (e ∷ v) (in_graph, starts, one) (also, begins, other) = ends_same (shape.to e) a b v one other

  pub starts_same : (p q a b : P) (v : List E) → v ≢ [] → Leads shape is_edge p v a → Leads shape is_edge q v b → p ≡ q
  starts_same p q a b [] some one other = absurd (some refl)
  starts_same p q a b (e ∷ v) some (in_graph, starts, one) (also, begins, other) = sym starts ∙ begins

  pub leads_once : (p q : P) (k : ℕ) (v : List E) → 0 < k → Leads shape is_edge p (repeat k v) q → (m : P) × Leads shape is_edge p v m
  leads_once p q zero v some leads = absurd (omega arith)
  leads_once p q (suc k) v some leads = leads_left p q v (repeat k v) leads
