-- A step is along one edge of its place at most.
use Rattle.std.proofs.Common.{◌≡◌, ℕ, List, [], ◌∷◌, sym, ap, subst, ◌∙◌}
use Rattle.std.specs.Prelude.{Contains}
use Rattle.bus_ticks.specs.declared.profile.Profile.{Profile}
use Rattle.image.specs.Image.{Words}
use Rattle.statement.specs.Stated.{Stated}
use Rattle.arm2_exec.specs.State.{State}
use Rattle.arm2_exec.specs.Step.{address_in}
use Rattle.arm2_exec.specs.declared.machine.Stepped.{Stepped}
use Rattle.control_flow.specs.Edges.{HasAction, landings, places_at}
use Rattle.flow_graph.specs.StepLaw.{IsPlaceOf, IsTaken}
use Rattle.control_flow.specs.declared.edges.Edge.{Edge}
use Rattle.control_flow.specs.declared.actions.Action.{Action}
use Rattle.control_flow.specs.declared.actions.Kind.{Kind}
use Rattle.control_flow.specs.declared.places.Place.{Place}
use Rattle.control_flow.specs.declared.places.Place.TheVariants.{At}
use Rattle.control_flow.proofs.SortedLemmas.{no_member}
use Rattle.control_flow.proofs.LabelLemmas.{Which, from_map, of_landings, only_one, same_by_label}
use Rattle.flow_graph.proofs.StepLemmas.{which_taken}

module _ (st : Stated) (t : ℕ) where
  -- no two of the places are that of the address
  abbrev IsOne : List Place → Type 0
  IsOne places = (p q : Place) → Contains places p → Contains places q → IsPlaceOf st.leave t p → IsPlaceOf st.leave t q → p ≡ q

  one_of_one : (x : Place) → IsOne (x ∷ [])
  one_of_one x p q p_in q_in p_is q_is = sym (only_one x p p_in) ∙ only_one x q q_in

  one_of_none : IsOne []
  one_of_none p q p_in q_in p_is q_is = absurd (no_member p p_in)

  -- inside the same calls there is one place of the address
  at_address : (calls to : List ℕ) (p : Place) → Contains (places_at calls to) p → IsPlaceOf st.leave t p → p ≡ At calls t
  at_address calls to p p_in p_is =
      let w = from_map (λ (a : ℕ). At calls a) to p p_in in
      let there : w.0 ≡ t = subst (IsPlaceOf st.leave t) (sym w.2) p_is in
      sym w.2 ∙ ap (λ (a : ℕ). At calls a) there

  one_at : (calls to : List ℕ) → IsOne (places_at calls to)
  one_at calls to p q p_in q_in p_is q_is = at_address calls to p p_in p_is ∙ sym (at_address calls to q q_in q_is)

  pub one_landing : (calls : List ℕ) (address : ℕ) (k : Kind) → IsOne (landings st calls address k)
  one_landing = of_landings IsOne one_of_none one_of_one one_at st

module _ (words : Words) (st : Stated) (profile : Profile) (calls : List ℕ) (action : Action) (s : State) (stepped : Stepped) (has : HasAction words (address_in s.regs) action) where
  which : (e : Edge) → IsTaken words st profile calls action s stepped e → Which st profile calls (address_in s.regs) action e
  which = which_taken words st profile calls action s stepped has

  pub one_edge : (d e : Edge) → IsTaken words st profile calls action s stepped d → IsTaken words st profile calls action s stepped e → d ≡ e
  one_edge d e d_taken e_taken =
      same_by_label st profile calls (address_in s.regs) action d e (d_taken.label ∙ sym e_taken.label) (which d d_taken) (which e e_taken)
      (λ p q p_in q_in p_is q_is.
      one_landing st stepped.to calls (address_in s.regs) action.kind p q p_in q_in
      (subst (IsPlaceOf st.leave stepped.to) (sym p_is) d_taken.to) (subst (IsPlaceOf st.leave stepped.to) (sym q_is) e_taken.to))
