-- The search for a place without edges.
use Rattle.std.proofs.Common.{◌≡◌, ℕ, ◌<◌, ◌≤◌, Option, List, ◌++◌, length, get_or, inl, inr, ⊎_elim, sym, ◌∙◌, subst}
use Rattle.std.specs.Prelude.{Contains, IfNone, IfSome, Some, None}
use Rattle.std.specs.BTreeSet.{BTreeSet}
use Rattle.std.specs.declared.cmp.Reverse.{Reverse}
use Rattle.std.proofs.lemmas.List.Elements.{Contains-append_right, Contains-append_cases}
use Rattle.bus_ticks.specs.declared.profile.Profile.{Profile}
use Rattle.image.specs.Image.{Words}
use Rattle.control_flow.specs.Edges.{AreEdgesOf, HasAction}
use Rattle.control_flow.specs.Faulty.{AreSound, IsReachedBy, IsReachedEdge, IsWalked}
use Rattle.control_flow.specs.Graph.{ArePlaces, IsReached}
use Rattle.control_flow.specs.Search.{EndsOne, Grows, IsFound, IsPlaceFault, IsSearch, IsSound, action_fault, places_in}
use Rattle.statement.specs.Stated.{Stated}
use Rattle.control_flow.specs.declared.edges.Edge.{Edge}
use Rattle.control_flow.specs.declared.faults.BuildFault.{BuildFault}
use Rattle.control_flow.specs.declared.actions.Action.{Action}
use Rattle.control_flow.specs.declared.places.Place.{Place}
use Rattle.control_flow.specs.declared.places.Place.TheVariants.{At, Exit}
use Rattle.control_flow.proofs.BuildLemmas.{search_all, search_allowed}
use Rattle.control_flow.proofs.EdgeLemmas.{is_edge, leaves, one_action_at}
use Rattle.control_flow.proofs.GrowLemmas.{later}

module _ (words : Words) (st : Stated) (profile : Profile) where
  pub reached_next : (order : List Place) (next : ℕ) (place : Place) → IsSearch words st profile order next → next < length order → place ≡ get_or order next place → IsReached words st profile place
  reached_next order next place s lt is = s.reached place (next, lt, sym is)

  -- an edge of a list that a reached place has
  reached_edge : (p : Place) (edges : List Edge) (e : Edge) → IsReached words st profile p → AreEdgesOf words st profile p edges → Contains edges e → IsReachedEdge words st profile e
  reached_edge p edges e r are has = record {
    reached = subst (IsReached words st profile) (sym ((leaves words st profile p edges e are has).from)) r;
    is_edge = is_edge words st profile p edges e are has;
  }

  pub walked_more : (order new : List Place) (walked edges : List Edge) (place : Place) → IsWalked words st profile order walked → IsReached words st profile place → AreEdgesOf words st profile place edges → Grows order edges new → IsWalked words st profile new (walked ++ edges)
  walked_more order new walked edges place w r are grows = record {
    edges = λ e h. ⊎_elim (λ old. w.edges e old) (λ has. reached_edge place edges e r are has) (Contains-append_cases walked edges e h);
    ends = λ p h. ⊎_elim
        (λ old. ⊎_elim (λ e. inl e) (λ one. inr (later walked edges p one)) (w.ends p old))
        (λ one. inr (one.0, Contains-append_right walked edges one.0 one.1, one.2))
        (grows.from p h);
  }

  -- by the edge that was found among those walked, if one leads there
  pub found_by : (order : List Place) (walked : List Edge) (place : Place) (edge : Option Edge) → IsWalked words st profile order walked → Contains order place → IfSome edge (λ e. Contains walked e × (e.to ≡ place)) → IfNone edge (EndsOne walked place → ⊥) → IsReachedBy words st profile edge place
  found_by order walked place None w has some none = ⊎_elim (λ e. e) (λ one. absurd (none one)) (w.ends place has)
  found_by order walked place (Some e) w has some none = (w.edges e some.0, some.1)

  no_fault : (p : Place) (f : BuildFault) → IsSound words st p → IsPlaceFault words st p f → ⊥
  no_fault (At calls address) f sound h =
      ⊎_elim
      (λ out. let has : HasAction words address sound.0 = sound.1 in let both : Some has.word ≡ None = sym has.word_is ∙ out.0 in cc)
      (λ act.
      let same : act.0 ≡ sound.0 = one_action_at words address act.0 sound.0 act.1 sound.1 in
      let at : action_fault st calls address sound.0 ≡ Some f = subst (λ (a : Action). action_fault st calls address a ≡ Some f) same act.2 in
      let both : Some f ≡ None = sym at ∙ sound.2 in
      cc)
      h
  no_fault Exit f sound h = h

  in_places : (places : List Place) (p : Place) (f : BuildFault) → ArePlaces words st profile places → IsReached words st profile p → IsPlaceFault words st p f → Contains places p
  in_places places (At calls address) f are r h = (are (At calls address)).1 (r, λ e. cc)
  in_places places Exit f are r h = absurd h

  pub all_sound : (seen : BTreeSet (Reverse Place)) (order : List Place) (next : ℕ) → IsFound seen order → IsSearch words st profile order next → length order ≤ next → AreSound words st profile
  all_sound seen order next found s all p f r h =
      let are = search_all words st profile seen order next found s all in
      let allowed = search_allowed words st profile seen order next found s all in
      no_fault p f (allowed.sound p (in_places (places_in seen) p f are r h)) h
