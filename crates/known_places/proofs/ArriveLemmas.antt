-- One step of a run, by a table that holds along each edge.
use Rattle.std.proofs.Common.{◌≡◌, ◌∙◌, ℕ, ◌+◌, ◌<◌, ◌≤◌, Bool, true, false, cond, List, [], ◌∷◌, ◌++◌, length, append-nil, refl, sym, ap, subst, arith}
use Rattle.std.specs.Prelude.{Contains, get_or}
use Rattle.std.proofs.lemmas.List.{get_or_default}
use Rattle.std.proofs.lemmas.List.Elements.{All-append, All-cons, All-nil, Contains-get_or}
use Rattle.walks.specs.Walk.{Leads}
use Rattle.image.specs.Image.{Words}
use Rattle.statement.specs.Stated.{Stated}
use Rattle.bus_ticks.specs.declared.profile.Profile.{Profile}
use Rattle.arm2_effect.specs.declared.step_end.Kind.TheVariants as ended
use Rattle.arm2_effect.specs.Effects.{is_stopped}
use Rattle.arm2_effect.specs.Modes.{r15_in}
use Rattle.arm2_transfer.specs.Moved.{Moved}
use Rattle.arm2_exec.specs.State.{State}
use Rattle.arm2_exec.specs.Step.{Obeys, ObeysFetched, address_in, interrupt_due, state_after, with_lines}
use Rattle.arm2_exec.specs.declared.machine.Input.{Input}
use Rattle.arm2_exec.specs.declared.machine.Stepped.{Stepped}
use Rattle.control_flow.specs.Flow.{Flow, HasEdge, IsWellFormed, edge_shape}
use Rattle.control_flow.specs.declared.actions.Action.{Action}
use Rattle.control_flow.specs.declared.edges.Edge.{Edge}
use Rattle.control_flow.specs.declared.places.Place.{Place}
use Rattle.control_flow.specs.declared.places.Place.TheVariants.{At}
use Rattle.control_flow.proofs.Firsts.{no_edge}
use Rattle.flow_graph.proofs.StepLemmas.{IsPlainStep, plain_step, works_plain}
use Rattle.kept_runs.proofs.SoFar.{map_append, next_to}
use Rattle.numbered_walks.specs.Index.{edge_at, edges_of}
use Rattle.numbered_walks.specs.declared.span.NumberedEdge.{NumberedEdge}
use Rattle.numbered_walks.proofs.Members.{no_numbered_edge}
use Rattle.loop_bounds.specs.Tree.{IsTree, Tree, place_in}
use Rattle.longest_walk.specs.Built.{step_at, steps_of}
use Rattle.longest_walk.proofs.CarryWalks.{AreNumbersOf, edge_same, number_is}
use Rattle.known_words.specs.Knowledge.{Holds}
use Rattle.known_words.specs.declared.given.Given.{Given}
use Rattle.known_words.specs.declared.knowledge.Knowledge.{Knowledge}
use Rattle.known_places.specs.Around.{around_at, known_at, turns_in}
use Rattle.known_places.specs.OnTrust.{ExecutesOnTrust, IsEdgeOnTrust}
use Rattle.known_places.specs.Table.{HoldsAlong}
use Rattle.known_places.specs.Destinations.{ComesOnTrust, GoesTo, IsDestination, PlaceGoesTo}
use Rattle.known_places.specs.declared.around.Around.{Around}
use Rattle.known_places.specs.declared.destination.Destination.{Destination}

regs_by : (stops : Bool) (s a : State) → stops ≡ false → (cond stops s a).regs ≡ a.regs
regs_by true s a is = absurd (cc)
regs_by false s a is = refl

-- a step that ends as most do leaves the registers that its word does
regs_after : (s : State) (i : Input) (m : Moved) → m.kind ≡ ended.Plain → (state_after s i m).regs ≡ m.regs
unfolding state_after
regs_after s i m plain = regs_by (is_stopped m.kind) s _ (ap is_stopped plain)

module _ (words : Words) (st : Stated) (profile : Profile) (trusted : List ℕ) (s : State) (i : Input) (stepped : Stepped) (after : State)
    (action : Action) (x : ExecutesOnTrust words st profile trusted action s i stepped after) where
  pub plain_is : IsPlainStep s x.step.moved stepped
  plain_is = plain_step s x.step.moved stepped x.step.stepped_is x.plain

  -- it does the image's word
  pub obeys : Obeys x.has.word i.port s.regs (with_lines i.lines.0 s.bus) x.step.moved
  obeys =
      subst (λ o. ObeysFetched o i.port s.regs (with_lines i.lines.0 s.bus) x.step.moved) (x.fetches ∙ x.has.word_is)
      (works_plain (interrupt_due (with_lines i.lines.0 s.bus) (r15_in s.regs)) i.port s.regs (with_lines i.lines.0 s.bus) x.step.moved x.step.works
      plain_is.kind)

module _ (words : Words) (st : Stated) (flow : Flow) (tree : Tree) (well : IsWellFormed flow) (t : IsTree flow tree) (given : List Given)
    (around : List Around) (table : List Knowledge) (p : HoldsAlong words flow tree given around table) (trusted entry : List ℕ) where
  -- at the place of the number, after the walk, what is known holds
  abbrev pub IsThere : ℕ → List NumberedEdge → State → Type 0
  IsThere number w s = number < length flow.places → Holds entry (turns_in tree.spans (around_at around number) w) (known_at table number) s.regs

  -- where a step along an edge has come, after the walk before it
  pub record Arrives (w : List NumberedEdge) (after : State) (e : Edge) : Type 0 where
    pub number : ℕ
    pub number_in : number < length flow.edges
    pub edge_is : step_at flow.edges number ≡ e
    pub within : (edge_at tree.edges number).to ≤ length flow.places
    pub place : place_in flow tree (edge_at tree.edges number).to ≡ e.to
    pub there : IsThere (edge_at tree.edges number).to (w ++ edge_at tree.edges number ∷ []) after

  module _ (w : List NumberedEdge) (s : State) (i : Input) (stepped : Stepped) (after : State) (e : Edge) (h : IsEdgeOnTrust words st flow.profile trusted s i stepped after e)
      (number : ℕ) (within : number ≤ length flow.places) (at : place_in flow tree number ≡ e.from) (holds : IsThere number w s) (has : HasEdge flow e) where
    abbrev x : ExecutesOnTrust words st flow.profile trusted h.action s i stepped after
    x = h.executes

    abbrev k : ℕ
    k = has.0

    same : step_at flow.edges k ≡ e
    same = get_or_default flow.edges k no_edge e has.1 ∙ has.2

    number_of : number ≡ (edge_at tree.edges k).from
    number_of =
        let n = edge_same flow tree well t k has.1 in
        let low : (edge_at tree.edges k).from < length flow.places = n.from_in in
        number_is flow tree well t number (edge_at tree.edges k).from within (omega (arith, low))
        (at ∙ sym (ap (λ (d : Edge). d.from) same) ∙ sym n.from_is)

    pub inside : number < length flow.places
    inside =
        let n = edge_same flow tree well t k has.1 in
        let low : (edge_at tree.edges k).from < length flow.places = n.from_in in
        omega (arith, low, number_of)

    from : (step_at flow.edges k).from ≡ At h.calls (address_in s.regs)
    from = ap (λ (d : Edge). d.from) same ∙ h.taken.from

    pub known : Holds entry (turns_in tree.spans (around_at around number) w) (known_at table number) s.regs
    known = holds inside

    there : IsThere (edge_at tree.edges k).to (w ++ edge_at tree.edges k ∷ []) after
    there low =
        let whole = p.whole in
        let carries = p.keeps k has.1 (omega (arith, low, whole)) in
        let before : Holds entry (turns_in tree.spans (around_at around (edge_at tree.edges k).from) w) (known_at table (edge_at tree.edges k).from) s.regs =
        subst (λ n. Holds entry (turns_in tree.spans (around_at around n) w) (known_at table n) s.regs) number_of known in
        let labelled : _ ≡ (step_at flow.edges k).label = sym h.taken.label ∙ sym (ap (λ (d : Edge). d.label) same) in
        let numbered : Contains tree.edges (edge_at tree.edges k) = Contains-get_or tree.edges k no_numbered_edge (let all = t.numbered.same in let lt = has.1 in omega (arith, all, lt)) in
        subst (λ regs. Holds entry (turns_in tree.spans (around_at around (edge_at tree.edges k).to) (w ++ edge_at tree.edges k ∷ [])) (known_at table (edge_at tree.edges k).to) regs)
        (sym (ap (λ (a : State). a.regs) x.step.after_is ∙ regs_after s i x.step.moved (plain_is words st flow.profile trusted s i stepped after h.action x).kind))
        (carries.2 h.calls (address_in s.regs) x.has.word from x.has.word_is entry
        (turns_in tree.spans (around_at around (edge_at tree.edges k).from) w) (turns_in tree.spans (around_at around (edge_at tree.edges k).to) (w ++ edge_at tree.edges k ∷ []))
        s.regs i.port (with_lines i.lines.0 s.bus) x.step.moved h.action x.registers refl x.has.is labelled (obeys words st flow.profile trusted s i stepped after h.action x) (plain_is words st flow.profile trusted s i stepped after h.action x).kind
        (carries.1 (length flow.places) tree.edges w t.ordered numbered) before)

    pub arrives : Arrives w after e
    arrives =
        let n = edge_same flow tree well t k has.1 in
        record {
          number = k;
          number_in = has.1;
          edge_is = same;
          within = n.to_in;
          place = n.to_is ∙ ap (λ (d : Edge). d.to) same;
          there = there;
        }

  -- ## Runs

  -- where a run has come along a walk, with the numbers of its edges
  pub record Ends (walk : List Edge) (end : Place) (now : State) : Type 0 where
    pub number : ℕ
    pub within : number ≤ length flow.places
    pub place : place_in flow tree number ≡ end
    pub edges : List ℕ
    pub inside : AreNumbersOf flow edges
    pub steps : steps_of flow.edges edges ≡ walk
    pub there : IsThere number (edges_of tree.edges edges) now

  pub ends_there : (inputs : List Input) (walk : List Edge) (s now : State) (number : ℕ) (end : Place) (ks : List ℕ) → number ≤ length flow.places
      → AreNumbersOf flow ks → IsThere number (edges_of tree.edges ks) s → Leads edge_shape (HasEdge flow) (place_in flow tree number) walk end
      → ComesOnTrust words st flow.profile trusted s inputs walk now → Ends (steps_of flow.edges ks ++ walk) end now
  ends_there [] [] s now number end ks within ins holds leads comes = record {
    number = number;
    within = within;
    place = leads;
    edges = ks;
    inside = ins;
    steps = sym (append-nil (steps_of flow.edges ks));
    there = subst (IsThere number (edges_of tree.edges ks)) (sym comes) holds;
  }
  ends_there [] (e ∷ walk) s now number end ks within ins holds leads comes = absurd comes
  ends_there (i ∷ inputs) [] s now number end ks within ins holds leads comes = absurd comes
  ends_there (i ∷ inputs) (e ∷ walk) s now number end ks within ins holds (has, from, rest) (stepped, next, edge, on) =
      let a = arrives (edges_of tree.edges ks) s i stepped next e edge number within (sym from) holds has in
      let down : edges_of tree.edges (ks ++ a.number ∷ []) ≡ edges_of tree.edges ks ++ edge_at tree.edges a.number ∷ [] = map_append (edge_at tree.edges) ks (a.number ∷ []) in
      let up : steps_of flow.edges (ks ++ a.number ∷ []) ++ walk ≡ steps_of flow.edges ks ++ e ∷ walk =
      ap (λ (v : List Edge). v ++ walk) (map_append (step_at flow.edges) ks (a.number ∷ []))
      ∙ next_to (steps_of flow.edges ks) (step_at flow.edges a.number) walk
      ∙ ap (λ (d : Edge). steps_of flow.edges ks ++ d ∷ walk) a.edge_is in
      subst (λ (v : List Edge). Ends v end now) up
      (ends_there inputs walk next now (edge_at tree.edges a.number).to end (ks ++ a.number ∷ []) a.within
      (All-append (λ j. j < length flow.edges) ks (a.number ∷ []) ins (All-cons (λ j. j < length flow.edges) a.number [] a.number_in (All-nil (λ j. j < length flow.edges))))
      (subst (λ w. IsThere (edge_at tree.edges a.number).to w next) (sym down) a.there)
      (subst (λ (v : Place). Leads edge_shape (HasEdge flow) v walk end) (sym a.place) rest) on)

-- where the word of each place goes
pub gone_to : (words : Words) (st : Stated) (flow : Flow) (tree : Tree) → IsWellFormed flow → IsTree flow tree → (given : List Given) (around : List Around) (table : List Knowledge)
    → HoldsAlong words flow tree given around table → (number : ℕ) → number < length flow.places → (destination : Destination)
    → PlaceGoesTo words flow tree table number destination → GoesTo words st flow given (place_in flow tree number) destination
gone_to words st flow tree well t given around table p number low destination goes s now after inputs walk calls action i stepped fit are leads comes at x done =
    let e = ends_there words st flow tree well t given around table p [] s.regs inputs walk s now 0 (place_in flow tree number) [] (omega arith) (All-nil (λ j. j < length flow.edges))
    (λ inside. p.begins s.regs fit are) (subst (λ (v : Place). Leads edge_shape (HasEdge flow) v walk (place_in flow tree number)) (sym t.entry_first) leads) comes in
    let same : e.number ≡ number = number_is flow tree well t e.number number e.within (omega (arith, low)) e.place in
    let known : Holds s.regs (turns_in tree.spans (around_at around number) (edges_of tree.edges e.edges)) (known_at table number) now.regs =
    subst (λ n. Holds s.regs (turns_in tree.spans (around_at around n) (edges_of tree.edges e.edges)) (known_at table n) now.regs) same (e.there (omega (arith, low, same))) in
    let plain = plain_is words st flow.profile [] now i stepped after action x in
    subst (IsDestination s.regs destination) (sym plain.to)
    (goes calls (address_in now.regs) x.has.word at x.has.word_is s.regs (turns_in tree.spans (around_at around number) (edges_of tree.edges e.edges)) now.regs i.port (with_lines i.lines.0 now.bus)
    x.step.moved action x.registers refl x.has.is done (obeys words st flow.profile [] now i stepped after action x) plain.kind known)
