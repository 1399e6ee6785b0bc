-- An edge is fixed by the place that it leaves, its label, and the address that it leads to.
use Rattle.std.proofs.Common.{◌≡◌, ℕ, ◌<◌, ◌≤◌, List, [], ◌∷◌, length, get_or, ⊎_elim, sym, ap, ◌∙◌, subst, arith}
use Rattle.std.specs.Prelude.{Contains}
use Rattle.std.specs.Cmp.{tied_itself}
use Rattle.std.specs.declared.cmp.Ordering.TheVariants.{Less, Equal}
use Rattle.std.proofs.lemmas.Bool.{cases_lt}
use Rattle.std.proofs.lemmas.Map.Keys.{Less-from_sorted}
use Rattle.bus_ticks.specs.declared.profile.Profile.{Profile}
use Rattle.image.specs.Image.{Words}
use Rattle.control_flow.specs.Edges.{AreEdgesOf, places_at, landings, word_edges}
use Rattle.control_flow.specs.Flow.{Flow, HasEdge}
use Rattle.control_flow.specs.Graph.{IsFlowGraph}
use Rattle.control_flow.specs.Places.{place_at, place_cmp}
use Rattle.statement.specs.Stated.{Stated}
use Rattle.control_flow.specs.declared.edges.Edge.{Edge}
use Rattle.control_flow.specs.declared.actions.Action.{Action}
use Rattle.control_flow.specs.declared.actions.Kind.{Kind}
use Rattle.control_flow.specs.declared.places.Place.{Place}
use Rattle.control_flow.specs.declared.places.Place.TheVariants.{At, Exit}
use Rattle.control_flow.proofs.EdgeLemmas.{leaves}
use Rattle.control_flow.proofs.FlowLemmas.{IsOfPart, of_part, part_of}
use Rattle.control_flow.proofs.PlaceLemmas.{place_total}
use Rattle.control_flow.proofs.SortedLemmas.{no_member}
use Rattle.control_flow.proofs.LabelLemmas.{from_map, of_landings, only_one, same_by_label, which_edge}

-- at the same address, whatever the calls, or both at Exit
abbrev pub AreAlike : Place → Place → Type 0
AreAlike (At calls a) (At others b) = a ≡ b
AreAlike (At calls a) Exit = ⊥
AreAlike Exit (At others b) = ⊥
AreAlike Exit Exit = Unit {0}

-- ## Where one word leads

-- no two of the places are alike
abbrev AreApart : List Place → Type 0
AreApart ps = (p q : Place) → Contains ps p → Contains ps q → AreAlike p q → p ≡ q

none_apart : AreApart []
none_apart p q h k alike = absurd (no_member p h)

one_apart : (x : Place) → AreApart (x ∷ [])
one_apart x p q h k alike = sym (only_one x p h) ∙ only_one x q k

inside_apart : (calls to : List ℕ) → AreApart (places_at calls to)
inside_apart calls to p q h k alike =
    let a = from_map (λ (x : ℕ). At calls x) to p h in
    let b = from_map (λ (x : ℕ). At calls x) to q k in
    let half : AreAlike (At calls a.0) q = subst (λ x. AreAlike x q) (sym a.2) alike in
    let same : a.0 ≡ b.0 = subst (AreAlike (At calls a.0)) (sym b.2) half in
    sym a.2 ∙ ap (λ x. At calls x) same ∙ b.2

landings_apart : (st : Stated) (calls : List ℕ) (address : ℕ) (k : Kind) → AreApart (landings st calls address k)
landings_apart st = of_landings AreApart none_apart one_apart inside_apart st

-- ## The edges of one place

module _ (st : Stated) (profile : Profile) (calls : List ℕ) (address : ℕ) (action : Action) where
  one_made : (e f : Edge) → e.label ≡ f.label → AreAlike e.to f.to → Contains (word_edges st profile calls address action) e
      → Contains (word_edges st profile calls address action) f → e ≡ f
  one_made e f label alike h k =
      same_by_label st profile calls address action e f label
      (which_edge st profile calls address action e h) (which_edge st profile calls address action f k)
      (λ p q p_in q_in p_is q_is.
      landings_apart st calls address action.kind p q p_in q_in
      (subst (AreAlike p) (sym q_is) (subst (λ x. AreAlike x f.to) (sym p_is) alike)))

module _ (words : Words) (st : Stated) (profile : Profile) where
  one_of_part : (p : Place) (edges : List Edge) (e f : Edge) → AreEdgesOf words st profile p edges → Contains edges e → Contains edges f → e.label ≡ f.label → AreAlike e.to f.to → e ≡ f
  one_of_part (At calls address) edges e f are h k label alike =
      one_made st profile calls address are.0 e f label alike (subst (λ es. Contains es e) are.2 h) (subst (λ es. Contains es f) are.2 k)
  one_of_part Exit edges e f are h k label alike = absurd (no_member e (subst (λ es. Contains es e) are h))

  module _ (flow : Flow) (g : IsFlowGraph words st profile flow) where
    -- an edge leaves the place of its part
    from_place : (e : Edge) (p : IsOfPart words st profile flow g e) → e.from ≡ place_at flow.places p.number
    from_place e p =
        (leaves words st profile (place_at flow.places p.number) (get_or g.parts p.number []) e (part_of words st profile flow g p.number p.below) p.among).from

    not_before : (v w : ℕ) → w < length flow.places → place_at flow.places v ≡ place_at flow.places w → v < w → ⊥
    not_before v w lt same before =
        let below = Less-from_sorted place_cmp flow.places v w Exit g.ordered before lt in
        let tied : place_cmp (place_at flow.places v) (place_at flow.places w) ≡ Equal = subst (λ p. place_cmp (place_at flow.places v) p ≡ Equal) same (tied_itself place_total (place_at flow.places v)) in
        let both : Less ≡ Equal = sym below ∙ tied in
        cc

    -- each place has one number
    one_number : (v w : ℕ) → v < length flow.places → w < length flow.places → place_at flow.places v ≡ place_at flow.places w → v ≡ w
    one_number v w low high same =
        ⊎_elim
        (λ before. absurd (not_before v w high same before))
        (λ (le : w ≤ v). ⊎_elim (λ after. absurd (not_before w v low (sym same) after)) (λ (ge : v ≤ w). let e : v ≡ w = omega arith in e) (cases_lt w v))
        (cases_lt v w)

    pub named_once : (e f : Edge) → HasEdge flow e → HasEdge flow f → e.from ≡ f.from → e.label ≡ f.label → AreAlike e.to f.to → e ≡ f
    named_once e f h k from label alike =
        let p = of_part words st profile flow g e h in
        let q = of_part words st profile flow g f k in
        let same : p.number ≡ q.number = one_number p.number q.number p.below q.below (sym (from_place e p) ∙ from ∙ from_place f q) in
        one_of_part (place_at flow.places q.number) (get_or g.parts q.number []) e f (part_of words st profile flow g q.number q.below)
        (subst (λ n. Contains (get_or g.parts n []) e) same p.among) q.among label alike
