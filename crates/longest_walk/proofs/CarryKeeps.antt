-- Two walks along the same numbers: tests that agree at each number find the same stretches.
use Rattle.std.proofs.Common.{◌≡◌, ℕ, ◌+◌, ◌<◌, ◌≤◌, max, Bool, true, cond, List, [], ◌∷◌, length, get_or, map, All, Contains, refl, ◌∙◌, arith}
use Rattle.std.specs.List.{AllPass}
use Rattle.std.proofs.lemmas.List.{get_or_default}
use Rattle.std.proofs.lemmas.List.Elements.{All-nil, All-cons, All-head, All-tail}
use Rattle.walks.specs.Walk.{Shape, Leads}
use Rattle.walks.specs.Stretch.{Keeps}
use Rattle.walks.specs.Segments.{head, most}
use Rattle.walks.proofs.Joins.{keeps_from_most, most_from_keeps}

module _ {A B : Type 0} (f : ℕ → A) (g : ℕ → B) (in_a turns_a : A → Bool) (in_b turns_b : B → Bool) where
  -- both tests say the same at this number
  abbrev pub Agree : ℕ → Type 0
  Agree k = (in_a (f k) ≡ in_b (g k)) × (turns_a (f k) ≡ turns_b (g k))

  head_same : (ks : List ℕ) → All Agree ks → head in_a turns_a (map f ks) ≡ head in_b turns_b (map g ks)
  head_same [] all = refl
  head_same (k ∷ ks) all =
      let here : Agree k = All-head Agree k ks all in
      let rest : head in_a turns_a (map f ks) ≡ head in_b turns_b (map g ks) = head_same ks (All-tail Agree k ks all) in
      (λ i. cond {A = ℕ} (here.0 i) (cond {A = ℕ} (here.1 i) 1 0 + rest i) 0)

  most_same : (ks : List ℕ) → All Agree ks → most in_a turns_a (map f ks) ≡ most in_b turns_b (map g ks)
  most_same [] all = refl
  most_same (k ∷ ks) all =
      let first : head in_a turns_a (map f (k ∷ ks)) ≡ head in_b turns_b (map g (k ∷ ks)) = head_same (k ∷ ks) all in
      let rest : most in_a turns_a (map f ks) ≡ most in_b turns_b (map g ks) = most_same ks (All-tail Agree k ks all) in
      (λ i. max (first i) (rest i))

  -- so a bound that the one walk keeps, the other keeps
  pub keeps_there : (b c : ℕ) → b ≡ c → (ks : List ℕ) → All Agree ks → Keeps in_a turns_a b (map f ks) → Keeps in_b turns_b c (map g ks)
  keeps_there b c same ks all keeps =
      let few : most in_a turns_a (map f ks) ≤ b = most_from_keeps in_a turns_a b (map f ks) keeps in
      keeps_from_most in_b turns_b c (map g ks) (omega (arith, most_same ks all))

  pub keeps_back : (b c : ℕ) → b ≡ c → (ks : List ℕ) → All Agree ks → Keeps in_b turns_b c (map g ks) → Keeps in_a turns_a b (map f ks)
  keeps_back b c same ks all keeps =
      let few : most in_b turns_b (map g ks) ≤ c = most_from_keeps in_b turns_b c (map g ks) keeps in
      keeps_from_most in_a turns_a b (map f ks) (omega (arith, most_same ks all))

  -- and where the one lies inside, the other does
  pub pass_back : (ks : List ℕ) → All Agree ks → AllPass in_b (map g ks) → AllPass in_a (map f ks)
  pass_back [] all pass = All-nil (λ x. in_a x ≡ true)
  pass_back (k ∷ ks) all pass =
      let here : Agree k = All-head Agree k ks all in
      All-cons (λ x. in_a x ≡ true) (f k) (map f ks)
      (here.0 ∙ All-head (λ x. in_b x ≡ true) (g k) (map g ks) pass)
      (pass_back ks (All-tail Agree k ks all) (All-tail (λ x. in_b x ≡ true) (g k) (map g ks) pass))

-- a walk along edges of a list is named by their numbers in it
pub record IsNamed {E : Type 0} (edges : List E) (d : E) (walk : List E) : Type 0 where
  pub numbers : List ℕ
  pub inside : All (λ k. k < length edges) numbers
  pub same : map (λ k. get_or edges k d) numbers ≡ walk

pub named : {P E : Type 0} (shape : Shape P E) (edges : List E) (d : E) (walk : List E) (p q : P) → Leads shape (Contains edges) p walk q → IsNamed edges d walk
named shape edges d [] p q leads = record { numbers = []; inside = All-nil (λ k. k < length edges); same = refl }
named {E = E} shape edges d (e ∷ walk) p q (in_graph, starts, leads) =
    let rest : IsNamed edges d walk = named shape edges d walk (shape.to e) q leads in
    let here : get_or edges in_graph.0 d ≡ e = get_or_default edges in_graph.0 d e in_graph.1 ∙ in_graph.2 in
    record {
      numbers = in_graph.0 ∷ rest.numbers;
      inside = All-cons (λ k. k < length edges) in_graph.0 rest.numbers in_graph.1 rest.inside;
      same = (λ i. here i ∷ rest.same i);
    }
