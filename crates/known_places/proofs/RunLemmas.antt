-- A run from the entry, by a table that is kept along each edge.
use Rattle.std.proofs.Common.{◌≡◌, ◌≢◌, ◌∙◌, ℕ, ◌+◌, ◌<◌, ◌≤◌, ◌==◌, ◌&&◌, ◌⊎◌, ⊎_elim, inl, inr, Bool, true, false, List, [], ◌∷◌, ◌++◌, length, append-nil, refl, sym, ap, subst, arith}
use Rattle.std.specs.Prelude.{Contains, get_or}
use Rattle.std.specs.Cmp.Lexicographic.{pointwise}
use Rattle.std.proofs.lemmas.Bool.{cases_Bool, cases_eq, cases_lt, eq-eqb, eqb-true, false≢true}
use Rattle.std.proofs.lemmas.List.{get_or_default}
use Rattle.std.proofs.lemmas.List.Elements.{All-append, All-cons, All-nil, Contains-get_or}
use Rattle.walks.specs.Greatest as G
use Rattle.walks.specs.Walk.{Leads}
use Rattle.walks.proofs.Joins.{keeps_from_most, most_from_keeps}
use Rattle.walks.proofs.Segments.{tail-le-most}
use Rattle.image.specs.Image.{Words}
use Rattle.statement.specs.Stated.{Stated, class_at}
use Rattle.arm2_exec.specs.State.{State}
use Rattle.arm2_exec.specs.Step.{address_in, with_lines}
use Rattle.arm2_exec.specs.declared.machine.Input.{Input}
use Rattle.arm2_exec.specs.declared.machine.Stepped.{Stepped}
use Rattle.control_flow.specs.Flow.{Flow, HasEdge, IsWellFormed, edge_shape}
use Rattle.control_flow.specs.declared.edges.Edge.{Edge}
use Rattle.control_flow.specs.declared.places.Place.{Place}
use Rattle.control_flow.specs.declared.places.Place.TheVariants.{At, Exit}
use Rattle.flow_graph.specs.StepLaw.{Follows, IsEdgeOf, TransfersIn}
use Rattle.numbered_walks.specs.Index.{edge_at, edges_of, span_at}
use Rattle.numbered_walks.specs.Ordered as O
use Rattle.numbered_walks.specs.Ordered.{is_in}
use Rattle.numbered_walks.specs.Reach.{most_in}
use Rattle.numbered_walks.specs.declared.span.NumberedEdge.{NumberedEdge}
use Rattle.numbered_walks.specs.declared.span.Span.{Span}
use Rattle.numbered_walks.proofs.Members.{no_numbered_edge, no_span}
use Rattle.walk_counts.specs.Spans.{turns_at_end}
use Rattle.walk_counts.proofs.StayLemmas.{edge_back, edge_elsewhere, edge_from_outside}
use Rattle.loop_bounds.specs.Handler.{IsTreeOf}
use Rattle.loop_bounds.specs.Instance.{Instance, is_header, place_loops}
use Rattle.loop_bounds.specs.Tree.{IsTree, Tree, place_in}
use Rattle.longest_walk.specs.Built.{step_at, steps_of}
use Rattle.longest_walk.specs.Longest.{KeepsTree}
use Rattle.longest_walk.proofs.CarryKeeps.{keeps_there}
use Rattle.longest_walk.proofs.CarryWalks.{AreNumbersOf, agree_all, header_same, instance_of, keeps_up, place_numbers}
use Rattle.kept_runs.proofs.SoFar.{front_keeps, map_append, next_to}
use Rattle.known_words.specs.Knowledge.{Holds}
use Rattle.known_words.specs.declared.given.Given.{Given}
use Rattle.known_words.specs.declared.knowledge.Knowledge.{Knowledge}
use Rattle.known_places.specs.Around.{NeverOver, around_at, known_at, turns_in}
use Rattle.known_places.specs.OnTrust.{ExecutesOnTrust, GoesOnTrust, IsEdgeOnTrust, Justifies, KeepsTheBoundsAt, OnTrust}
use Rattle.known_places.specs.Table.{IsProof}
use Rattle.known_places.specs.Limits.{KeepsSpans}
use Rattle.known_places.specs.Words.{StaysWithin}
use Rattle.known_places.proofs.ArriveLemmas as A
use Rattle.known_places.proofs.ArriveLemmas.{Arrives, arrives, inside, obeys, plain_is}
use Rattle.known_places.specs.declared.around.Around.{Around}

second : (x y : Bool) → (x && y) ≡ true → y ≡ true
second true y is = is
second false y is = absurd (false≢true is)

module _ (words : Words) (st : Stated) (flow : Flow) (tree : Tree) (well : IsWellFormed flow) (its : IsTreeOf flow st.loops tree)
    (given : List Given) (around : List Around) (table : List Knowledge) (trusted : OnTrust)
    (p : IsProof words st flow tree given around table trusted) (entry : List ℕ) where
  abbrev t : IsTree flow tree
  t = its.tree_is

  abbrev w_of : List ℕ → List NumberedEdge
  w_of ks = edges_of tree.edges ks

  -- at the place of the number, after the walk, what is known holds
  abbrev IsThere : ℕ → List NumberedEdge → State → Type 0
  IsThere = A.IsThere words st flow tree well t given around table p.table trusted.classes entry

  abbrev AreKept : List NumberedEdge → Type 0
  AreKept w = KeepsSpans tree.spans w

  -- ## Bounds

  -- the address of the header
  record HasHeader (x : Span) : Type 0 where
    pub calls : List ℕ
    pub address : ℕ
    pub place : place_in flow tree x.header ≡ At calls address

  header_of : (x : Span) → Contains tree.spans x → HasHeader x
  header_of x has =
      let shape = t.ordered.shape x has in
      let low : x.header < length flow.places = omega (arith, shape.0, shape.1) in
      by_place (place_in flow tree x.header) refl ((place_numbers flow tree well t).place x.header low)
    where
      by_place : (v : Place) → place_in flow tree x.header ≡ v → Contains flow.places (place_in flow tree x.header) → HasHeader x
      by_place (At calls address) is has = record { calls = calls; address = address; place = is }
      by_place Exit is has = absurd (well.no_exit (subst (Contains flow.places) is has))

  -- the address of an instance's header is that of its span's
  header_is : (i : Instance) (calls : List ℕ) (address : ℕ) → is_header i (At calls address) ≡ true → address ≡ i.header
  header_is i calls address is = eqb-true address i.header (second (pointwise ◌==◌ calls i.list) (address == i.header) is)

  -- the bound of a trusted instance
  trusted_keeps : (x : Span) → Contains tree.spans x → (ks : List ℕ) → AreNumbersOf flow ks → (h : HasHeader x) → Contains trusted.loops h.address
      → KeepsTheBoundsAt flow st.loops trusted.loops (steps_of flow.edges ks) → most_in x (w_of ks) ≤ x.bound
  trusted_keeps x has ks inside h trusts keeps =
      let found = instance_of flow tree well t x has in
      let i : Instance = found.instance in
      let shape = t.ordered.shape x has in
      let low : x.header ≤ length flow.places = omega (arith, shape.0, shape.1) in
      let at_header : is_header i (At h.calls h.address) ≡ true =
      header_same flow tree well t i x found.span_is (At h.calls h.address) x.header low h.place ∙ eq-eqb x.header x.header refl in
      let same : h.address ≡ i.header = header_is i h.calls h.address at_header in
      let kept = keeps i ((its.instances i).0 found.in_tree, subst (Contains trusted.loops) same trusts) in
      most_from_keeps (O.is_inside x) (O.ends_at_header x) x.bound (w_of ks)
      (keeps_there (step_at flow.edges) (edge_at tree.edges) (G.is_inside edge_shape place_loops i) (G.ends_at_header edge_shape place_loops i) (O.is_inside x) (O.ends_at_header x) i.bound x.bound (sym found.span_is.bound) ks
      (agree_all flow tree well t i x found.span_is ks inside) kept)

  -- ## One step

  module _ (w : List NumberedEdge) (s : State) (i : Input) (stepped : Stepped) (after : State) (e : Edge) (h : IsEdgeOnTrust words st flow.profile trusted.classes s i stepped after e)
      (number : ℕ) (within : number ≤ length flow.places) (at : place_in flow tree number ≡ e.from) (holds : IsThere number w s) (has : HasEdge flow e) (bounded : AreKept w) where
    abbrev x : ExecutesOnTrust words st flow.profile trusted.classes h.action s i stepped after
    x = h.executes

    -- the stated class is granted, or follows
    transfers : Contains trusted.classes (address_in s.regs)
        ⊎ StaysWithin tree.spans (around_at around number) (class_at st (address_in s.regs) h.action.base) x.has.word (address_in s.regs) (known_at table number)
        → TransfersIn (class_at st (address_in s.regs) h.action.base) x.step.moved.accesses
    transfers (inl granted) = x.transfers granted
    transfers (inr stays) =
        stays entry s.regs w i.port (with_lines i.lines.0 s.bus) x.step.moved bounded x.registers refl
        (obeys words st flow.profile trusted.classes s i stepped after h.action x)
        (plain_is words st flow.profile trusted.classes s i stepped after h.action x).kind
        (holds (inside words st flow tree well t given around table p.table trusted.classes entry w s i stepped after e h number within at holds has))

    kept : IsEdgeOf words st flow.profile s i stepped after e
    kept = record {
      calls = h.calls;
      action = h.action;
      executes = record {
        registers = x.registers;
        prices = x.prices;
        has = x.has;
        fetches = x.fetches;
        step = x.step;
        plain = x.plain;
        transfers =
            transfers
            (p.stays number (inside words st flow tree well t given around table p.table trusted.classes entry w s i stepped after e h number within at holds has) h.calls
            (address_in s.regs) x.has.word h.action (at ∙ h.taken.from) x.has.word_is x.has.is);
        cycles = x.cycles;
        way = x.way;
      };
      taken = h.taken;
    }

    comes : Arrives words st flow tree well t given around table p.table trusted.classes entry w after e
    comes = arrives words st flow tree well t given around table p.table trusted.classes entry w s i stepped after e h number within at holds has

  -- ## The bounds after one more edge

  module _ (ks : List ℕ) (inside : AreNumbersOf flow ks) (k : ℕ) (k_in : k < length flow.edges) (kept : AreKept (w_of ks)) (after : State)
      (there : IsThere (edge_at tree.edges k).to (w_of ks ++ edge_at tree.edges k ∷ []) after)
      (granted : KeepsTheBoundsAt flow st.loops trusted.loops (steps_of flow.edges (ks ++ k ∷ []))) where
    inside_on : AreNumbersOf flow (ks ++ k ∷ [])
    inside_on = All-append (λ j. j < length flow.edges) ks (k ∷ []) inside (All-cons (λ j. j < length flow.edges) k [] k_in (All-nil (λ j. j < length flow.edges)))

    down_on : w_of (ks ++ k ∷ []) ≡ w_of ks ++ edge_at tree.edges k ∷ []
    down_on = map_append (edge_at tree.edges) ks (k ∷ [])

    numbered : Contains tree.edges (edge_at tree.edges k)
    numbered = Contains-get_or tree.edges k no_numbered_edge (let all = t.numbered.same in omega (arith, all, k_in))

    module _ (x : Span) (has : Contains tree.spans x) where
      -- one turn more than the bound is none
      not_over : x.header ≡ (edge_at tree.edges k).to → turns_at_end x (w_of ks ++ edge_at tree.edges k ∷ []) ≡ x.bound + 1
          → Contains trusted.loops (header_of x has).address ⊎ NeverOver tree.spans around table x → most_in x (w_of ks ++ edge_at tree.edges k ∷ []) ≤ x.bound
      not_over at over (inl trusts) =
          subst (λ w. most_in x w ≤ x.bound) down_on (trusted_keeps x has (ks ++ k ∷ []) inside_on (header_of x has) trusts granted)
      not_over at over (inr never) =
          let shape = t.ordered.shape x has in
          let low : x.header < length flow.places = omega (arith, shape.0, shape.1) in
          absurd (never entry after.regs (w_of ks ++ edge_at tree.edges k ∷ []) over
          (subst (λ n. Holds entry (turns_in tree.spans (around_at around n) (w_of ks ++ edge_at tree.edges k ∷ [])) (known_at table n) after.regs) (sym at)
          (there (subst (λ n. n < length flow.places) at low))))

      bound_of : Contains trusted.loops (header_of x has).address ⊎ NeverOver tree.spans around table x
      bound_of =
          let h = header_of x has in
          let at : span_at tree.spans has.0 ≡ x = get_or_default tree.spans has.0 no_span x has.1 ∙ has.2 in
          subst (λ (z : Span). Contains trusted.loops (header_of x has).address ⊎ NeverOver tree.spans around table z) at
          (p.bounds has.0 has.1 h.calls h.address (subst (λ (z : Span). place_in flow tree z.header ≡ At h.calls h.address) (sym at) h.place))

      back_kept : x.header ≡ (edge_at tree.edges k).to → is_in x (edge_at tree.edges k).from ≡ true → most_in x (w_of ks ++ edge_at tree.edges k ∷ []) ≤ x.bound
      back_kept at inner =
          let b = edge_back (length flow.places) tree.edges tree.spans t.ordered (edge_at tree.edges k) numbered (w_of ks) x has at inner in
          let few : most_in x (w_of ks) ≤ x.bound = kept x has in
          let tail_few = tail-le-most (O.is_inside x) (O.ends_at_header x) (w_of ks) in
          ⊎_elim
          (λ (less : turns_at_end x (w_of ks) < x.bound). omega (arith, b.0, few, less))
          (λ (many : x.bound ≤ turns_at_end x (w_of ks)). not_over at (omega (arith, b.1, few, tail_few, many)) bound_of)
          (cases_lt (turns_at_end x (w_of ks)) x.bound)

      kept_on : most_in x (w_of ks ++ edge_at tree.edges k ∷ []) ≤ x.bound
      kept_on =
          let few : most_in x (w_of ks) ≤ x.bound = kept x has in
          ⊎_elim
          (λ (at : x.header ≡ (edge_at tree.edges k).to). ⊎_elim
          (λ (inner : is_in x (edge_at tree.edges k).from ≡ true). back_kept at inner)
          (λ (out : is_in x (edge_at tree.edges k).from ≡ false). omega (arith, few, (edge_from_outside (length flow.places) tree.edges tree.spans t.ordered (edge_at tree.edges k) numbered (w_of ks) x has out).0))
          (cases_Bool (is_in x (edge_at tree.edges k).from)))
          (λ (other : x.header ≢ (edge_at tree.edges k).to). omega (arith, few, edge_elsewhere (length flow.places) tree.edges tree.spans t.ordered (edge_at tree.edges k) numbered (w_of ks) x has other))
          (cases_eq x.header (edge_at tree.edges k).to)

    pub all_kept : AreKept (w_of (ks ++ k ∷ []))
    all_kept = subst AreKept (sym down_on) (λ x has. kept_on x has)

    pub all_inside : AreNumbersOf flow (ks ++ k ∷ [])
    all_inside = inside_on

  -- ## Runs

  tree_kept : (ks : List ℕ) → AreNumbersOf flow ks → AreKept (w_of ks) → KeepsTree tree (steps_of flow.edges ks)
  tree_kept ks inside kept =
      keeps_up flow tree well t ks inside (λ x has. keeps_from_most (O.is_inside x) (O.ends_at_header x) x.bound (w_of ks) (kept x has))

  granted_front : (front rest : List Edge) → KeepsTheBoundsAt flow st.loops trusted.loops (front ++ rest) → KeepsTheBoundsAt flow st.loops trusted.loops front
  granted_front front rest keeps i is =
      front_keeps (G.is_inside edge_shape place_loops i) (G.ends_at_header edge_shape place_loops i) i.bound front rest (keeps i is)

  follows_from : (inputs : List Input) (walk : List Edge) (s : State) (number : ℕ) (end : Place) (ks : List ℕ) → number ≤ length flow.places
      → AreNumbersOf flow ks → AreKept (w_of ks) → IsThere number (w_of ks) s
      → Leads edge_shape (HasEdge flow) (place_in flow tree number) walk end
      → KeepsTheBoundsAt flow st.loops trusted.loops (steps_of flow.edges ks ++ walk)
      → GoesOnTrust words st flow.profile trusted.classes s inputs walk
      → KeepsTree tree (steps_of flow.edges ks ++ walk) × Follows words st flow.profile s inputs walk
  follows_from [] [] s number end ks within ins so_far holds leads granted goes =
      (subst (KeepsTree tree) (sym (append-nil (steps_of flow.edges ks))) (tree_kept ks ins so_far), tt)
  follows_from [] (e ∷ walk) s number end ks within ins so_far holds leads granted goes = absurd goes
  follows_from (i ∷ inputs) [] s number end ks within ins so_far holds leads granted goes = absurd goes
  follows_from (i ∷ inputs) (e ∷ walk) s number end ks within ins so_far holds (has, from, rest) granted (stepped, next, edge, on) =
      let c = comes (w_of ks) s i stepped next e edge number within (sym from) holds has so_far in
      let more : List ℕ = ks ++ c.number ∷ [] in
      let up : steps_of flow.edges (ks ++ c.number ∷ []) ++ walk ≡ steps_of flow.edges ks ++ e ∷ walk =
      ap (λ (v : List Edge). v ++ walk) (map_append (step_at flow.edges) ks (c.number ∷ []))
      ∙ next_to (steps_of flow.edges ks) (step_at flow.edges c.number) walk
      ∙ ap (λ (d : Edge). steps_of flow.edges ks ++ d ∷ walk) c.edge_is in
      let granted_on : KeepsTheBoundsAt flow st.loops trusted.loops (steps_of flow.edges (ks ++ c.number ∷ []) ++ walk) =
      subst (KeepsTheBoundsAt flow st.loops trusted.loops) (sym up) granted in
      let granted_so : KeepsTheBoundsAt flow st.loops trusted.loops (steps_of flow.edges (ks ++ c.number ∷ [])) =
      granted_front (steps_of flow.edges (ks ++ c.number ∷ [])) walk granted_on in
      let down : w_of (ks ++ c.number ∷ []) ≡ w_of ks ++ edge_at tree.edges c.number ∷ [] = map_append (edge_at tree.edges) ks (c.number ∷ []) in
      let on_there = follows_from inputs walk next (edge_at tree.edges c.number).to end (ks ++ c.number ∷ []) c.within
      (all_inside ks ins c.number c.number_in so_far next c.there granted_so)
      (all_kept ks ins c.number c.number_in so_far next c.there granted_so)
      (subst (λ w. IsThere (edge_at tree.edges c.number).to w next) (sym down) c.there)
      (subst (λ (v : Place). Leads edge_shape (HasEdge flow) v walk end) (sym c.place) rest) granted_on on in
      (subst (KeepsTree tree) up on_there.0, (stepped, next, kept (w_of ks) s i stepped next e edge number within (sym from) holds has so_far, on_there.1))

  none_kept : AreKept []
  none_kept x has = omega arith

pub justified : (words : Words) (st : Stated) (flow : Flow) (tree : Tree) → IsWellFormed flow → IsTreeOf flow st.loops tree
    → (given : List Given) (around : List Around) (table : List Knowledge) (trusted : OnTrust) → IsProof words st flow tree given around table trusted
    → Justifies words st flow given trusted
justified words st flow tree well its given around table trusted p s inputs walk place fit are leads keeps goes =
    let found = follows_from words st flow tree well its given around table trusted p s.regs inputs walk s 0 place [] (omega arith)
    (All-nil (λ k. k < length flow.edges)) (none_kept words st flow tree well its given around table trusted p s.regs)
    (λ low. p.table.begins s.regs fit are)
    (subst (λ (v : Place). Leads edge_shape (HasEdge flow) v walk place) (sym its.tree_is.entry_first) leads) keeps goes in
    (λ i is. found.0 i ((its.instances i).1 is), found.1)
