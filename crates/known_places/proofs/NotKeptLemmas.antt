-- Runs that keep the statement do no word that goes outside of its class, and leave no loop that is endless.
use Rattle.std.proofs.Common.{◌≡◌, ◌∙◌, zero, suc, true, false, not, ⊎_elim, List, [], ◌∷◌, ◌++◌, refl, sym, ap, subst, arith}
use Rattle.std.proofs.lemmas.Bool.{and_from, cases_Bool, false≢true, not_from_false}
use Rattle.std.specs.Prelude.{Contains}
use Rattle.walks.specs.Greatest as G
use Rattle.walks.specs.Rows.{is_left}
use Rattle.walks.specs.Walk.{Leads}
use Rattle.image.specs.Image.{Words}
use Rattle.bus_ticks.specs.declared.profile.Profile.{Profile}
use Rattle.statement.specs.Stated.{Stated}
use Rattle.arm2_exec.specs.State.{State}
use Rattle.arm2_exec.specs.declared.machine.Input.{Input}
use Rattle.arm2_exec.specs.declared.machine.Stepped.{Stepped}
use Rattle.control_flow.specs.Flow.{Flow, HasEdge, edge_shape}
use Rattle.control_flow.specs.declared.actions.Action.{Action}
use Rattle.control_flow.specs.declared.edges.Edge.{Edge}
use Rattle.control_flow.specs.declared.edges.Label.TheVariants.{Do}
use Rattle.control_flow.specs.declared.places.Place.{Place}
use Rattle.control_flow.specs.declared.places.Place.TheVariants.{Exit}
use Rattle.flow_graph.specs.StepLaw.{Executes, Follows, IsEdgeOf}
use Rattle.loop_bounds.specs.Bounds.{KeepsTheBounds}
use Rattle.loop_bounds.specs.Instance.{Instance, is_member, place_loops}
use Rattle.kept_runs.proofs.SoFar.{front_keeps, next_to}
use Rattle.known_words.specs.Given.{AreGiven}
use Rattle.known_words.specs.Knowledge.{AreWords}
use Rattle.known_words.specs.declared.given.Given.{Given}
use Rattle.known_words.specs.declared.words.Range.{Range}
use Rattle.known_places.specs.Destinations.{ComesOnTrust}
use Rattle.known_places.specs.Endless.{IsEndless, NoneKeptEnters, NoneKeptLeaves}
use Rattle.known_places.specs.OnTrust.{ExecutesOnTrust, IsEdgeOnTrust}
use Rattle.known_places.specs.Outside.{GoesOutside, NoneKeptDoes}

-- ## Steps

module _ (words : Words) (st : Stated) (profile : Profile) where
  pub granted : (action : Action) (s : State) (i : Input) (stepped : Stepped) (after : State) → Executes words st profile action s i stepped after
      → ExecutesOnTrust words st profile [] action s i stepped after
  granted action s i stepped after x = record {
    registers = x.registers;
    prices = x.prices;
    has = x.has;
    fetches = x.fetches;
    step = x.step;
    plain = x.plain;
    transfers = λ among. x.transfers;
    cycles = x.cycles;
    way = x.way;
  }

  edge_granted : (s : State) (i : Input) (stepped : Stepped) (after : State) (e : Edge) → IsEdgeOf words st profile s i stepped after e
      → IsEdgeOnTrust words st profile [] s i stepped after e
  edge_granted s i stepped after e h =
      record { calls = h.calls; action = h.action; executes = granted h.action s i stepped after h.executes; taken = h.taken }

  -- one step more
  comes_on : (inputs : List Input) (walk : List Edge) (s now next : State) (i : Input) (stepped : Stepped) (e : Edge)
      → ComesOnTrust words st profile [] s inputs walk now → IsEdgeOnTrust words st profile [] now i stepped next e
      → ComesOnTrust words st profile [] s (inputs ++ i ∷ []) (walk ++ e ∷ []) next
  comes_on [] [] s now next i stepped e comes edge =
      (stepped, next, subst (λ (x : State). IsEdgeOnTrust words st profile [] x i stepped next e) comes edge, refl)
  comes_on [] (d ∷ walk) s now next i stepped e comes edge = absurd comes
  comes_on (j ∷ inputs) [] s now next i stepped e comes edge = absurd comes
  comes_on (j ∷ inputs) (d ∷ walk) s now next i stepped e (first, mid, along, rest) edge =
      (first, mid, along, comes_on inputs walk mid now next i stepped e rest edge)

-- ## Runs

module _ (words : Words) (st : Stated) (flow : Flow) (Is : Edge → Type 0) (s : State) where
  front_of : (front rest : List Edge) → KeepsTheBounds flow st.loops (front ++ rest) → KeepsTheBounds flow st.loops front
  front_of front rest keeps i is =
      front_keeps (G.is_inside edge_shape place_loops i) (G.ends_at_header edge_shape place_loops i) i.bound front rest (keeps i is)

  leads_on : (d : Edge) (v : List Edge) (p mid : Place) → Leads edge_shape (HasEdge flow) p v mid → HasEdge flow d → d.from ≡ mid
      → Leads edge_shape (HasEdge flow) p (v ++ d ∷ []) d.to
  leads_on d [] p mid leads has at = (has, at ∙ sym leads, refl)
  leads_on d (c ∷ v) p mid leads has at = (leads.0, leads.1, leads_on d v c.to mid leads.2 has at)

  -- no step that keeps the statement, from where a run has come, is along such an edge
  abbrev pub NeverIs : Type 0
  NeverIs =
      (now after : State) (before : List Input) (front : List Edge) (i : Input) (stepped : Stepped) (e : Edge)
      → Leads edge_shape (HasEdge flow) flow.entry front e.from → KeepsTheBounds flow st.loops front
      → ComesOnTrust words st flow.profile [] s before front now → HasEdge flow e
      → IsEdgeOf words st flow.profile now i stepped after e → Is e → ⊥

  module _ (never : NeverIs) (end : Place) where
    pub none_from : (inputs : List Input) (walk : List Edge) (now : State) (before : List Input) (front : List Edge) (mid : Place)
        → Leads edge_shape (HasEdge flow) flow.entry front mid → ComesOnTrust words st flow.profile [] s before front now
        → Leads edge_shape (HasEdge flow) mid walk end → KeepsTheBounds flow st.loops (front ++ walk) → Follows words st flow.profile now inputs walk
        → (e : Edge) → Contains walk e → Is e → ⊥
    none_from [] [] now before front mid came comes leads keeps follows e (k, lt, at) is = omega (arith, lt)
    none_from [] (d ∷ walk) now before front mid came comes leads keeps follows e has is = follows
    none_from (i ∷ inputs) [] now before front mid came comes leads keeps follows e has is = follows
    none_from (i ∷ inputs) (d ∷ walk) now before front mid came comes (in_graph, starts, rest) keeps (stepped, next, edge, on) e (zero, lt, at) is =
        never now next before front i stepped d (subst (Leads edge_shape (HasEdge flow) flow.entry front) (sym starts) came)
        (front_of front (d ∷ walk) keeps) comes in_graph edge (subst Is (sym at) is)
    none_from (i ∷ inputs) (d ∷ walk) now before front mid came comes (in_graph, starts, rest) keeps (stepped, next, edge, on) e (suc k, lt, at) is =
        none_from inputs walk next (before ++ i ∷ []) (front ++ d ∷ []) d.to
        (leads_on d front flow.entry mid came in_graph starts)
        (comes_on words st flow.profile before front s now next i stepped d comes (edge_granted words st flow.profile now i stepped next d edge))
        rest (subst (KeepsTheBounds flow st.loops) (sym (next_to front d walk)) keeps) on e (k, omega (arith, lt), at) is

-- ## Words that go outside of their class

module _ (words : Words) (st : Stated) (flow : Flow) (given : List Given) (place : Place) (range : Range) (outside : GoesOutside words st flow given place range) where
  does_not : (s : State) → AreWords s.regs → AreGiven given s.regs → NeverIs words st flow (λ (e : Edge). (e.from ≡ place) × (e.label ≡ Do)) s
  unfolding granted
  does_not s fit are now after before front i stepped e leads keeps comes has edge (from, does) =
      let x = granted words st flow.profile edge.action now i stepped after edge.executes in
      let o = outside s now after before front edge.calls edge.action i stepped fit are (subst (Leads edge_shape (HasEdge flow) flow.entry front) from leads)
      keeps comes (sym from ∙ edge.taken.from) x (sym edge.taken.label ∙ does) in
      o.other (edge.executes.transfers o.store o.first o.address o.transferred)

  pub none_kept_does : NoneKeptDoes words st flow given place
  none_kept_does s inputs walk end fit are leads keeps follows e has from does =
      none_from words st flow (λ (d : Edge). (d.from ≡ place) × (d.label ≡ Do)) s (does_not s fit are) end inputs walk s [] [] flow.entry refl refl leads keeps follows
      e has (from, does)

-- ## Loops that are not left

module _ (words : Words) (st : Stated) (flow : Flow) (given : List Given) (instance : Instance) (endless : IsEndless words st flow given instance) where
  leaves_not : (s : State) → AreWords s.regs → AreGiven given s.regs → NeverIs words st flow (λ (e : Edge). is_left edge_shape place_loops e instance ≡ true) s
  leaves_not s fit are now after before front i stepped e leads keeps comes has edge left =
      endless s now after before front i stepped e fit are leads keeps comes has (edge_granted words st flow.profile now i stepped after e edge) left

  pub none_kept_leaves : NoneKeptLeaves words st flow given instance
  none_kept_leaves s inputs walk end fit are leads keeps follows e has left =
      none_from words st flow (λ (d : Edge). is_left edge_shape place_loops d instance ≡ true) s (leaves_not s fit are) end inputs walk s [] [] flow.entry refl refl leads keeps follows
      e has left

  -- a walk to Exit leaves the instance if it comes to it
  abbrev Leaves : List Edge → Type 0
  Leaves walk = (e : Edge) × Contains walk e × (is_left edge_shape place_loops e instance ≡ true)

  later : (d : Edge) (walk : List Edge) → Leaves walk → Leaves (d ∷ walk)
  later d walk (e, (k, lt, at), left) = (e, (suc k, omega (arith, lt), at), left)

  leaves_from : (walk : List Edge) (p : Place) → Leads edge_shape (HasEdge flow) p walk Exit → is_member instance p ≡ true → Leaves walk
  leaves_from [] p leads here = absurd (false≢true (ap (is_member instance) (sym leads) ∙ here))
  leaves_from (d ∷ walk) p (has, from, rest) here = ⊎_elim
      (λ (inner : is_member instance d.to ≡ true). later d walk (leaves_from walk d.to rest inner))
      (λ (out : is_member instance d.to ≡ false).
      (d, (0, omega arith, refl), and_from (is_member instance d.from) (not (is_member instance d.to)) (ap (is_member instance) from ∙ here) (not_from_false (is_member instance d.to) out)))
      (cases_Bool (is_member instance d.to))

  leaves_after : (walk : List Edge) (p : Place) → Leads edge_shape (HasEdge flow) p walk Exit → (e : Edge) → Contains walk e
      → is_member instance e.from ≡ true → Leaves walk
  leaves_after [] p leads e (k, lt, at) here = absurd (omega (arith, lt))
  leaves_after (d ∷ walk) p (has, from, rest) e (zero, lt, at) here =
      leaves_from (d ∷ walk) p (has, from, rest) (ap (is_member instance) (sym from ∙ ap (λ (x : Edge). x.from) at) ∙ here)
  leaves_after (d ∷ walk) p (has, from, rest) e (suc k, lt, at) here = later d walk (leaves_after walk d.to rest e (k, omega (arith, lt), at) here)

  pub none_kept_enters : NoneKeptEnters words st flow given instance
  none_kept_enters s inputs walk fit are complete keeps follows e has here =
      let left = leaves_after walk flow.entry complete e has here in
      none_kept_leaves s inputs walk Exit fit are complete keeps follows left.0 left.1 left.2
