-- A walk of edges, and what follows it from place to place.
use Rattle.std.proofs.Common.{◌≡◌, ◌≢◌, ◌∙◌, ℕ, zero, suc, ◌<◌, List, [], ◌∷◌, ◌++◌, append-nil, Option, Some, option_and_then, refl, sym, ap, subst, arith}
use Rattle.std.specs.Prelude.{Contains, max, option_map}
use Rattle.std.proofs.lemmas.List.Elements.{Contains-append_left, Contains-append_right}
use Rattle.std.specs.List.{repeat}
use Rattle.walks.specs.Walk.{Leads, Shape}
use Rattle.walks.proofs.Leading.{Leads-repeated}
use Rattle.control_flow.specs.declared.places.Place.{Place}
use Rattle.control_flow.specs.declared.edges.Edge.{Edge}
use Rattle.control_flow.specs.Flow.{Flow, HasEdge, edge_shape}
use Rattle.control_flow.proofs.SortedLemmas.{here, there}
use Rattle.loop_bounds.specs.Tree.{Tree}
use Rattle.longest_walk.specs.Folded.{Opened, deepest, joined, one_edge, turned}
use Rattle.longest_walk.specs.Longest.{IsBody}
use Rattle.certificate.specs.Walk.{step_of}
use Rattle.cert_check.specs.Followed.{Followed, edge_named, follow_both, follow_edge, follow_row, follow_turns}
use Rattle.cert_check.proofs.WalkParts.{ends_same}

-- ## Where walks lead

module _ {P E : Type 0} (shape : Shape P E) (is_edge : E → Type 0) where
  pub record Halves (p q : P) (v w : List E) : Type 0 where
    pub middle : P
    pub first : Leads shape is_edge p v middle
    pub second : Leads shape is_edge middle w q

  pub halves : (p q : P) (v w : List E) → Leads shape is_edge p (v ++ w) q → Halves p q v w
  halves p q [] w leads = record { middle = p; first = refl; second = leads }
  halves p q (e ∷ v) w leads =
      let h = halves (shape.to e) q v w leads.2 in
      record { middle = h.middle; first = (leads.0, leads.1, h.first); second = h.second }

  pub one_start : (p q r s : P) (v w : List E) → v ≢ [] → Leads shape is_edge p (v ++ w) q → Leads shape is_edge r v s → p ≡ r
  one_start p q r s [] w some h k = absurd (some refl)
  one_start p q r s (e ∷ v) w some h k = sym h.1 ∙ k.1

-- ## What follows them

abbrev pub arrived : Place → Opened → Followed
arrived q o = record { at = q; opened = o }

module _ (flow : Flow) (tree : Tree) where
  -- each repeat is rounds of an instance, taken at least once
  pub record IsSound (o : Opened) : Type 0 where
    pub bodies : (body : List Edge) → Contains o.bodies body → IsBody flow tree body
    pub counts : (k : ℕ) → Contains o.counts k → 0 < k

  -- it goes wherever the walk leads
  abbrev pub Follows : (Place → Option Followed) → Opened → Type 0
  Follows follow o = (p q : Place) → IsSound o → Leads edge_shape (HasEdge flow) p o.walk q → follow p ≡ Some (arrived q o)

  pub followed_edge : ((e : Edge) → HasEdge flow e → edge_named flow e.from (step_of e) ≡ Some e) → (e : Edge) → Follows (λ p. option_map follow_edge (edge_named flow p (step_of e))) (one_edge e)
  followed_edge named e p q sound leads =
      ap (λ x. option_map follow_edge (edge_named flow x (step_of e))) (sym leads.1) ∙ ap (option_map follow_edge) (named e leads.0) ∙ ap (λ x. Some (arrived x (one_edge e))) leads.2

  once_from : (k : ℕ) (body : List Edge) (p q r : Place) → 0 < k → body ≢ [] → Leads edge_shape (HasEdge flow) p (repeat k body) q → Leads edge_shape (HasEdge flow) r body r → p ≡ r
  once_from zero body p q r some edges leads turns = absurd (omega arith)
  once_from (suc k) body p q r some edges leads turns = one_start edge_shape (HasEdge flow) p q r r body (repeat k body) edges leads turns

  -- rounds lead from where they begin back there, so once along the body is enough
  pub followed_turns : (k : ℕ) (follow : Place → Option Followed) (o : Opened) → Follows follow o → Follows (λ p. option_map (follow_turns k) (follow p)) (turned k o)
  followed_turns k follow o once p q sound leads =
      let body = sound.bodies o.walk (here o.walk o.bodies) in
      let h : Place = body.header in
      let from : p ≡ h = once_from k o.walk p q h (sound.counts k (here k o.counts)) body.some leads body.turns in
      let back : q ≡ h = ends_same edge_shape (HasEdge flow) h q h (repeat k o.walk) (subst (λ x. Leads edge_shape (HasEdge flow) x (repeat k o.walk) q) from leads) (Leads-repeated edge_shape (HasEdge flow) k h o.walk body.turns) in
      let inner : IsSound o = record { bodies = λ b has. sound.bodies b (there o.walk o.bodies b has); counts = λ n has. sound.counts n (there k o.counts n has) } in
      ap (λ x. option_map (follow_turns k) (follow x)) from ∙ ap (option_map (follow_turns k)) (once h h inner body.turns) ∙ ap (λ x. Some (arrived x (turned k o))) (sym back)

  -- ## In a row

  pub followed_none : Follows (follow_row []) (joined [])
  followed_none p q sound leads = ap (λ x. Some (arrived x (joined []))) leads

  max_zero : (n : ℕ) → max n 0 ≡ n
  max_zero n = omega arith

  joined_both : (o : Opened) (os : List Opened) → joined (o ∷ joined os ∷ []) ≡ joined (o ∷ os)
  joined_both o os = λ i.
      record {
        walk = o.walk ++ append-nil (joined os).walk i;
        outside = o.outside ++ append-nil (joined os).outside i;
        counts = o.counts ++ append-nil (joined os).counts i;
        bodies = o.bodies ++ append-nil (joined os).bodies i;
        bodies_outside = o.bodies_outside ++ append-nil (joined os).bodies_outside i;
        depth = max o.depth (max_zero (deepest os) i);
      }

  pub followed_both : (f : Place → Option Followed) (fs : List (Place → Option Followed)) (o : Opened) (os : List Opened) → Follows f o → Follows (follow_row fs) (joined os) → Follows (follow_row (f ∷ fs)) (joined (o ∷ os))
  followed_both f fs o os one others p q sound leads =
      let h = halves edge_shape (HasEdge flow) p q o.walk (joined os).walk leads in
      let left : IsSound o = record { bodies = λ b has. sound.bodies b (Contains-append_left o.bodies (joined os).bodies b has); counts = λ n has. sound.counts n (Contains-append_left o.counts (joined os).counts n has) } in
      let right : IsSound (joined os) = record { bodies = λ b has. sound.bodies b (Contains-append_right o.bodies (joined os).bodies b has); counts = λ n has. sound.counts n (Contains-append_right o.counts (joined os).counts n has) } in
      ap (λ x. option_and_then (λ first. option_map (follow_both first.opened) (follow_row fs first.at)) x) (one p h.middle left h.first)
      ∙ ap (option_map (follow_both o)) (others h.middle q right h.second)
      ∙ ap (λ x. Some (arrived q x)) (joined_both o os)
