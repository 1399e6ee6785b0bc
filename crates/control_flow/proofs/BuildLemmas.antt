-- The search finds exactly the reached places, or says why not.
use Rattle.std.proofs.Common.{◌≡◌, ℕ, ◌+◌, ◌<◌, ◌≤◌, Bool, true, false, cond, ltb, Option, List, [], ◌∷◌, ◌++◌, length, get_or, ◌⊎◌, inl, inr, ⊎_elim, refl, sym, ap, ◌∙◌, subst, arith, length-append}
use Rattle.std.specs.Prelude.{Contains, Some, None}
use Rattle.std.specs.BTreeSet.{BTreeSet}
use Rattle.std.specs.declared.cmp.Reverse.{Reverse}
use Rattle.std.specs.List.{AllZip}
use Rattle.std.specs.List.Sorted.{IsStrictlySortedBy}
use Rattle.std.proofs.lemmas.Bool.{ltb-false, le-ltb}
use Rattle.std.proofs.lemmas.List.{get_or_append_left, get_or_read}
use Rattle.std.proofs.lemmas.List.Elements.{Contains-append_left}
use Rattle.bus_ticks.specs.declared.profile.Profile.{Profile}
use Rattle.image.specs.Image.{Words}
use Rattle.walks.specs.Walk.{Leads}
use Rattle.control_flow.specs.Edges.{AreEdgesOf, HasAction, IsEdge, may_do}
use Rattle.control_flow.specs.Flow.{edge_shape}
use Rattle.control_flow.specs.Graph.{ArePlaces, IsBuildFault, IsCrowd, IsFlowGraph, IsReached, IsStray, IsUnstated, MayDo, is_call, makes_call, start_of, states_call}
use Rattle.control_flow.specs.Places.{place_cmp}
use Rattle.control_flow.specs.Search.{AddsEdges, AreInTurn, EndsOne, Grows, IsAllowed, IsCrowded, IsCrowdedBy, IsDone, IsEdgeFault, IsFound, IsIn, IsPlaceFault, IsSearch, IsSound, IsTurnFault, IsVisited, IsVisitFault, places_in, action_fault, call_fault, kind_fault, stated_fault, unstated_fault, writer_fault}
use Rattle.statement.specs.Stated.{Stated, Target, taken_at, target_of}
use Rattle.control_flow.specs.declared.edges.Edge.{Edge}
use Rattle.control_flow.specs.declared.faults.BuildFault.{BuildFault}
use Rattle.control_flow.specs.declared.faults.BuildFault.TheVariants as fault
use Rattle.control_flow.specs.declared.actions.Action.{Action}
use Rattle.control_flow.specs.declared.actions.Kind.{Kind}
use Rattle.control_flow.specs.declared.actions.Kind.TheVariants.{Plain, Branch, Call, Writer, Trap, Unallocated}
use Rattle.control_flow.specs.declared.places.Place.{Place}
use Rattle.control_flow.specs.declared.places.Place.TheVariants.{At, Exit}
use Rattle.statement.specs.declared.stated.Returns.{Returns}
use Rattle.statement.specs.declared.stated.Returns.TheVariants as returns
use Rattle.statement.specs.declared.stated.TargetKind.{TargetKind}
use Rattle.statement.specs.declared.stated.TargetKind.TheVariants as stated
use Rattle.control_flow.proofs.EdgeLemmas.{among_edges, is_edge, leaves, no_edge_at_exit, one_action_at}
use Rattle.control_flow.proofs.GrowLemmas.{wider}
use Rattle.control_flow.proofs.PlaceLemmas.{place_total, places_have}
use Rattle.control_flow.proofs.Ascending.{length_ascending}
use Rattle.control_flow.proofs.SortedLemmas.{length_within, no_member, read_in}
use borrow.Author.Count.{below_more}

module _ (words : Words) (st : Stated) (profile : Profile) where
  -- ## Visiting one place

  added : (before after now : List Edge) (place : Place) → before ≡ [] → now ≡ after → (adds : AddsEdges words st profile place before after) → now ≡ adds.edges
  added before after now place none same adds = same ∙ adds.is ∙ ap (λ xs. xs ++ adds.edges) none

  pub visited : (old new : List Place) (before after now : List Edge) (place : Place) → before ≡ [] → now ≡ after → AddsEdges words st profile place before after → IsSound words st place → Grows old now new → IsVisited words st profile old place new
  visited old new before after now place none same adds sound grows = record {
    sound = sound;
    edges = adds.edges;
    are = adds.are;
    grows = subst (λ es. Grows old es new) (added before after now place none same adds) grows;
  }

  pub visit_fault : (old : List Place) (before after now : List Edge) (place : Place) (f : BuildFault) → before ≡ [] → now ≡ after → AddsEdges words st profile place before after → (f ≡ fault.Memory) ⊎ ((f ≡ fault.TooManyPlaces) × IsCrowdedBy old now) → IsVisitFault words st profile old place f
  visit_fault old before after now place f none same adds why =
      ⊎_elim
      (λ e. inl (inl e))
      (λ crowd. inr (crowd.0, adds.edges, adds.are, subst (IsCrowdedBy old) (added before after now place none same adds) crowd.1))
      why

  -- ## Walks

  -- one more edge at the end of a walk
  leads_push : (p q : Place) (walk : List Edge) (e : Edge) → Leads edge_shape (IsEdge words st profile) p walk q → IsEdge words st profile e → e.from ≡ q → Leads edge_shape (IsEdge words st profile) p (walk ++ e ∷ []) e.to
  leads_push p q [] e h is from = (is, from ∙ sym h, refl)
  leads_push p q (f ∷ walk) e h is from = (h.0, h.1, leads_push f.to q walk e h.2 is from)

  pub reached_push : (p : Place) (e : Edge) → IsReached words st profile p → IsEdge words st profile e → e.from ≡ p → IsReached words st profile e.to
  reached_push p e r is from = (r.0 ++ e ∷ [], leads_push (start_of st) p r.0 e r.1 is from)

  reached_end : (p q : Place) (edges : List Edge) → IsReached words st profile p → AreEdgesOf words st profile p edges → EndsOne edges q → IsReached words st profile q
  reached_end p q edges r are ends =
      subst (IsReached words st profile) ends.2 (reached_push p ends.0 r (is_edge words st profile p edges ends.0 are ends.1) ((leaves words st profile p edges ends.0 are ends.1).from))

  -- no walk goes on from Exit
  exit_leads : (walk : List Edge) (q : Place) → Leads edge_shape (IsEdge words st profile) Exit walk q → q ≡ Exit
  exit_leads [] q h = sym h
  exit_leads (e ∷ walk) q h = absurd (no_edge_at_exit words st profile e h.0 h.1)

  -- a list whose places are done has the end of each walk that starts in it
  closed_leads : (order : List Place) → ((p : Place) → Contains order p → IsDone words st profile order p) → (p q : Place) (walk : List Edge) → Leads edge_shape (IsEdge words st profile) p walk q → Contains order p → IsIn order q
  closed_leads order done p q [] h here = inr (subst (Contains order) h here)
  closed_leads order done p q (e ∷ walk) h here =
      let d = done p here in
      ⊎_elim
      (λ ex. inl (exit_leads walk q (subst (λ x. Leads edge_shape (IsEdge words st profile) x walk q) ex h.2)))
      (λ w. closed_leads order done e.to q walk h.2 w)
      (d.closed e (among_edges words st profile p d.edges e d.are h.0 h.1))

  -- ## The search goes on

  done_wider : (order more : List Place) (p : Place) → IsDone words st profile order p → IsDone words st profile (order ++ more) p
  done_wider order more p d = record { sound = d.sound; edges = d.edges; are = d.are; closed = λ e h. wider order more e.to (d.closed e h) }

  -- the next place is done
  pub search_more : (order new : List Place) (next : ℕ) (place : Place) → IsSearch words st profile order next → next < length order → place ≡ get_or order next place → IsVisited words st profile order place new → IsSearch words st profile new (next + 1)
  search_more order new next place s lt is v =
      let more : List Place = (v.grows.more).0 in
      let new_is : new ≡ order ++ more = (v.grows.more).1 in
      let longer : length new ≡ length order + length more = ap length new_is ∙ length-append order more in
      let r : IsReached words st profile place = s.reached place (read_in order next place lt is) in
      record {
        bound = omega arith;
        entry = rw new_is (Contains-append_left order more (start_of st) s.entry);
        reached = λ q h. ⊎_elim (λ w. s.reached q w) (λ ends. reached_end place q v.edges r v.are ends) (v.grows.from q h);
        done = λ k d h. rw new_is (rw (get_or_append_left order more d k (omega arith)) (below_more (λ (j : ℕ). (x : Place) → IsDone words st profile (order ++ more) (get_or order j x)) next
            (λ j l x. done_wider order more (get_or order j x) (s.done j x l))
            (λ x. subst (IsDone words st profile (order ++ more)) (get_or_read order next place lt is x) (record { sound = v.sound; edges = v.edges; are = v.are; closed = λ e w. subst (λ o. IsIn o e.to) new_is (v.grows.to e w) }))
            k h d));
      }

  -- ## Refusals

  -- a call that is refused is made from a place with eight calls
  deep_call : (calls : List ℕ) (f : BuildFault) (b : Bool) → ltb (length calls) 8 ≡ b → cond b None (Some fault.TooDeep) ≡ Some f → (fault.TooDeep ≡ f) × (8 ≤ length calls)
  deep_call calls f true e h = cc
  deep_call calls f false e h = (cc, ltb-false (length calls) 8 e)

  stated_calls : (calls : List ℕ) (k : TargetKind) (f : BuildFault) → stated_fault calls k ≡ Some f → (call_fault calls ≡ Some f) × (is_call k ≡ true)
  stated_calls calls stated.Jump f h = cc
  stated_calls calls stated.Call f h = (h, refl)
  stated_calls calls stated.Return f h = cc
  stated_calls calls stated.Leave f h = cc

  -- a writer of R15 that is refused has no stated target, though it must, or a target that calls
  writer_refused : (asked : Returns) (calls : List ℕ) (address : ℕ) (t : Option Target) (f : BuildFault) → writer_fault asked calls address t ≡ Some f → ((asked ≡ returns.Stated) × (t ≡ None) × (fault.UnstatedTarget address ≡ f)) ⊎ ((call_fault calls ≡ Some f) × (states_call t ≡ true))
  writer_refused returns.Assumed calls address None f h = cc
  writer_refused returns.Stated calls address None f h = inl (refl, refl, cc)
  writer_refused asked calls address (Some t) f h = inr (stated_calls calls t.kind f h)

  too_deep : (calls : List ℕ) (address : ℕ) (f : BuildFault) → IsReached words st profile (At calls address) → (a : Action) → HasAction words address a → may_do a.cond (taken_at st address) ≡ true → makes_call a.kind (target_of st address) ≡ true → call_fault calls ≡ Some f → IsBuildFault words st profile f
  too_deep calls address f r a has may call h =
      let d = deep_call calls f (ltb (length calls) 8) refl h in
      subst (IsBuildFault words st profile) d.0 (record {
        calls = calls;
        address = address;
        reached = r;
        full = d.1;
        action = a;
        has = has;
        is_call = call;
        may = may;
      })

  action_refused : (calls : List ℕ) (address : ℕ) (f : BuildFault) (k : Kind) (may : Bool) → IsReached words st profile (At calls address) → (a : Action) → HasAction words address a → a.kind ≡ k → may_do a.cond (taken_at st address) ≡ may → cond may (kind_fault st calls address k) None ≡ Some f → IsBuildFault words st profile f
  action_refused calls address f k false r a has is may h = cc
  action_refused calls address f Plain true r a has is may h = cc
  action_refused calls address f (Branch offset) true r a has is may h = cc
  action_refused calls address f (Call offset) true r a has is may h =
      too_deep calls address f r a has may (subst (λ x. makes_call x (target_of st address) ≡ true) (sym is) refl) h
  action_refused calls address f Writer true r a has is may h =
      ⊎_elim
      (λ u. subst (IsBuildFault words st profile) u.2 ((calls, r), record { asked = u.0; writer = (a, has, is, may); none = u.1 }))
      (λ w. too_deep calls address f r a has may (subst (λ x. makes_call x (target_of st address) ≡ true) (sym is) w.1) w.0)
      (writer_refused st.returns calls address (target_of st address) f h)
  action_refused calls address f Trap true r a has is may h =
      let e : fault.TrapInHandler address ≡ f = cc in
      subst (IsBuildFault words st profile) e ((calls, r), (a, has, is, may))
  action_refused calls address f Unallocated true r a has is may h =
      let e : fault.UnallocatedWord address ≡ f = cc in
      subst (IsBuildFault words st profile) e ((calls, r), (a, has, is, may))

  place_refused : (p : Place) (f : BuildFault) → IsReached words st profile p → IsPlaceFault words st p f → IsBuildFault words st profile f
  place_refused (At calls address) f r h =
      ⊎_elim
      (λ out. subst (IsBuildFault words st profile) (sym out.1) ((calls, r), out.0))
      (λ act. action_refused calls address f (act.0).kind (may_do (act.0).cond (taken_at st address)) r act.0 act.1 refl refl act.2)
      h
  place_refused Exit f r h = absurd h

  pub memory_refused : (f : BuildFault) → f ≡ fault.Memory → IsBuildFault words st profile f
  memory_refused f e = subst (IsBuildFault words st profile) (sym e) tt

  edge_refused : (p : Place) (f : BuildFault) → IsReached words st profile p → IsEdgeFault words st p f → IsBuildFault words st profile f
  edge_refused p f r h = ⊎_elim (λ e. memory_refused f e) (λ why. place_refused p f r why) h

  -- a crowd of places, each found or where an edge of a reached place ends
  crowd_by : (order : List Place) (p : Place) (edges : List Edge) → ((q : Place) → Contains order q → IsReached words st profile q) → IsReached words st profile p → AreEdgesOf words st profile p edges → IsCrowdedBy order edges → IsCrowd words st profile
  crowd_by order p edges reached r are crowd = record {
    places = crowd.places;
    ordered = crowd.ordered;
    many = crowd.many;
    reached = λ q h. ⊎_elim (λ w. reached q w) (λ ends. reached_end p q edges r are ends) (crowd.among q h);
    no_exit = crowd.no_exit;
  }

  pub search_fault : (order : List Place) (next : ℕ) (place : Place) (f : BuildFault) → IsSearch words st profile order next → next < length order → place ≡ get_or order next place → IsVisitFault words st profile order place f → IsBuildFault words st profile f
  search_fault order next place f s lt is h =
      let r : IsReached words st profile place = s.reached place (read_in order next place lt is) in
      ⊎_elim
      (λ why. edge_refused place f r why)
      (λ many. subst (IsBuildFault words st profile) (sym many.0) (crowd_by order place many.1 s.reached r many.2 many.3))
      h

  start_crowd : (order : List Place) (p : Place) → order ≡ [] → p ≡ start_of st → IsCrowded order p → IsCrowd words st profile
  start_crowd order p none is h =
      let only : (q : Place) → Contains h.places q → p ≡ q =
      λ q w. ⊎_elim (λ v. absurd (no_member q (subst (λ o. Contains o q) none v))) (λ e. e) (h.among q w) in
      record {
        places = h.places;
        ordered = h.ordered;
        many = h.many;
        reached = λ q w. ([], sym is ∙ only q w);
        no_exit = λ w. h.inside (only Exit w);
      }

  pub add_fault : (order : List Place) (p : Place) (f : BuildFault) → order ≡ [] → p ≡ start_of st → (f ≡ fault.Memory) ⊎ ((f ≡ fault.TooManyPlaces) × IsCrowded order p) → IsBuildFault words st profile f
  add_fault order p f none is why =
      ⊎_elim
      (λ e. memory_refused f e)
      (λ e. subst (IsBuildFault words st profile) (sym e.0) (start_crowd order p none is e.1))
      why

  -- ## The search is over

  done_at : (order : List Place) (next : ℕ) → IsSearch words st profile order next → length order ≤ next → (p : Place) → Contains order p → IsDone words st profile order p
  done_at order next s all p h =
      let lt : h.0 < length order = h.1 in
      subst (IsDone words st profile order) h.2 (s.done h.0 p (omega arith))

  in_order : (seen : BTreeSet (Reverse Place)) (order : List Place) → IsFound seen order → (p : Place) → Contains (places_in seen) p → Contains order p
  in_order seen order found p h = (found.same p).0 ((places_have seen p).0 h)

  in_set_too : (seen : BTreeSet (Reverse Place)) (order : List Place) → IsFound seen order → (p : Place) → Contains order p → Contains (places_in seen) p
  in_set_too seen order found p h = (places_have seen p).1 ((found.same p).1 h)

  pub search_all : (seen : BTreeSet (Reverse Place)) (order : List Place) (next : ℕ) → IsFound seen order → IsSearch words st profile order next → length order ≤ next → ArePlaces words st profile (places_in seen)
  search_all seen order next found s all p = (
    (λ h. let w = in_order seen order found p h in (s.reached p w, λ ex. found.no_exit (subst (Contains order) ex w))),
    (λ h. ⊎_elim
        (λ ex. absurd (h.1 ex))
        (λ w. in_set_too seen order found p w)
        (closed_leads order (done_at order next s all) (start_of st) p (h.0).0 (h.0).1 s.entry)),
  )

  pub search_allowed : (seen : BTreeSet (Reverse Place)) (order : List Place) (next : ℕ) → IsFound seen order → IsSearch words st profile order next → length order ≤ next → IsAllowed words st profile (places_in seen)
  search_allowed seen order next found s all = record {
    few = let few : length order ≤ 16384 = found.few in let same : length order ≡ length seen.keys = found.count in omega (arith, length_ascending seen.keys);
    sound = λ p h. (done_at order next s all p (in_order seen order found p h)).sound;
  }

  -- ## No reason to refuse

  kind_allowed : (calls : List ℕ) (address : ℕ) (k : Kind) (f : BuildFault) (a b : Action) → kind_fault st calls address k ≡ Some f → HasAction words address a → a.kind ≡ k → may_do a.cond (taken_at st address) ≡ true → HasAction words address b → action_fault st calls address b ≡ None → ⊥
  kind_allowed calls address k f a b some has is may sound none =
      let same : b ≡ a = one_action_at words address b a sound has in
      let at_a : cond (may_do a.cond (taken_at st address)) (kind_fault st calls address a.kind) None ≡ None = subst (λ x. action_fault st calls address x ≡ None) same none in
      let at_k : kind_fault st calls address k ≡ None = rw (may, is) at at_a in
      let both : Some f ≡ None = sym some ∙ at_k in
      cc

  at_allowed : (places : List Place) (calls : List ℕ) (address : ℕ) (k : Kind) (f : BuildFault) → ArePlaces words st profile places → IsAllowed words st profile places → kind_fault st calls address k ≡ Some f → IsReached words st profile (At calls address) → MayDo words st profile address k → ⊥
  at_allowed places calls address k f are allowed some r may =
      let here : Contains places (At calls address) = (are (At calls address)).1 (r, λ e. cc) in
      let sound = allowed.sound (At calls address) here in
      kind_allowed calls address k f may.0 sound.0 some may.1 may.2 may.3 sound.1 sound.2

  deep_fault : (calls : List ℕ) → 8 ≤ length calls → call_fault calls ≡ Some fault.TooDeep
  deep_fault calls full = ap (λ b. cond b None (Some fault.TooDeep)) (le-ltb (length calls) 8 full)

  stated_deep : (calls : List ℕ) (k : TargetKind) → is_call k ≡ true → 8 ≤ length calls → stated_fault calls k ≡ Some fault.TooDeep
  stated_deep calls stated.Jump call full = cc
  stated_deep calls stated.Call call full = deep_fault calls full
  stated_deep calls stated.Return call full = cc
  stated_deep calls stated.Leave call full = cc

  writer_deep : (asked : Returns) (calls : List ℕ) (address : ℕ) (t : Option Target) → states_call t ≡ true → 8 ≤ length calls → writer_fault asked calls address t ≡ Some fault.TooDeep
  writer_deep asked calls address None call full = cc
  writer_deep asked calls address (Some t) call full = stated_deep calls t.kind call full

  kind_deep : (calls : List ℕ) (address : ℕ) (k : Kind) → makes_call k (target_of st address) ≡ true → 8 ≤ length calls → kind_fault st calls address k ≡ Some fault.TooDeep
  kind_deep calls address Plain call full = cc
  kind_deep calls address (Branch offset) call full = cc
  kind_deep calls address (Call offset) call full = deep_fault calls full
  kind_deep calls address Writer call full = writer_deep st.returns calls address (target_of st address) call full
  kind_deep calls address Trap call full = cc
  kind_deep calls address Unallocated call full = cc

  unstated_refused : (calls : List ℕ) (address : ℕ) → IsUnstated words st profile address → kind_fault st calls address Writer ≡ Some (fault.UnstatedTarget address)
  unstated_refused calls address h =
      ap (writer_fault st.returns calls address) h.none ∙ ap (λ asked. unstated_fault asked address) h.asked

  pub none_refused : (places : List Place) → IsStrictlySortedBy place_cmp places → ArePlaces words st profile places → IsAllowed words st profile places → ((address : ℕ) → IsStray words st address → ⊥) → (f : BuildFault) → (f ≡ fault.Memory → ⊥) → IsBuildFault words st profile f → ⊥
  none_refused places ordered are allowed strays fault.Memory other h = other refl
  none_refused places ordered are allowed strays (fault.OutsideImage address) other h =
      let calls : List ℕ = (h.0).0 in
      let here : Contains places (At calls address) = (are (At calls address)).1 ((h.0).1, λ e. cc) in
      let has = (allowed.sound (At calls address) here).1 in
      let both : Some has.word ≡ None = sym has.word_is ∙ h.1 in
      cc
  none_refused places ordered are allowed strays (fault.UnallocatedWord address) other h = at_allowed places (h.0).0 address Unallocated (fault.UnallocatedWord address) are allowed refl (h.0).1 h.1
  none_refused places ordered are allowed strays (fault.TrapInHandler address) other h = at_allowed places (h.0).0 address Trap (fault.TrapInHandler address) are allowed refl (h.0).1 h.1
  none_refused places ordered are allowed strays fault.TooDeep other h =
      at_allowed places h.calls h.address (h.action).kind fault.TooDeep are allowed (kind_deep h.calls h.address (h.action).kind h.is_call h.full) h.reached (h.action, h.has, refl, h.may)
  none_refused places ordered are allowed strays fault.TooManyPlaces other h =
      let within : length h.places ≤ length places = length_within place_total h.places places h.ordered ordered
      (λ p w. (are p).1 (h.reached p w, λ e. h.no_exit (subst (Contains h.places) e w))) in
      absurd (omega (arith, h.many, allowed.few))
  none_refused places ordered are allowed strays (fault.TargetNotWriter address) other h = strays address h
  none_refused places ordered are allowed strays (fault.UnstatedTarget address) other h =
      at_allowed places (h.0).0 address Writer (fault.UnstatedTarget address) are allowed (unstated_refused (h.0).0 address h.1) (h.0).1 h.1.writer

  pub turn_refused : (seen places : List Place) (f : BuildFault) → places ≡ seen → ArePlaces words st profile seen → IsTurnFault words st places f → IsBuildFault words st profile f
  turn_refused seen places f same are h =
      ⊎_elim
      (λ e. memory_refused f e)
      (λ why. place_refused why.0 f ((((subst (ArePlaces words st profile) (sym same) are) why.0).0 why.1).0) why.2)
      h

  -- ## The graph

  pub flow_from : (seen places given : List Place) (entry : Place) (edges : List Edge) (firsts : List ℕ) → places ≡ seen → given ≡ places → ArePlaces words st profile seen → IsStrictlySortedBy place_cmp places → AreInTurn words st profile given edges firsts → entry ≡ start_of st → IsFlowGraph words st profile (record { entry = entry; places = places; edges = edges; firsts = firsts; profile = profile })
  flow_from seen places given entry edges firsts same given_is are ordered turn starts = record {
    entry_is = starts;
    ordered = ordered;
    exact = subst (ArePlaces words st profile) (sym same) are;
    parts = turn.parts;
    parts_are = subst (λ ps. AllZip (AreEdgesOf words st profile) ps turn.parts) given_is turn.parts_are;
    edges_are = turn.edges_are;
    firsts_are = turn.firsts_are;
    profile_is = refl;
  }
