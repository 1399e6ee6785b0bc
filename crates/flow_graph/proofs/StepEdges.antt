-- Where edges end, which ways they go, and what their jumps cost.
use Rattle.std.proofs.Common.{◌≡◌, ℕ, ◌+◌, ◌^◌, ◌<◌, ◌≤◌, ◌⊎◌, inl, inr, Bool, true, false, cond, List, [], ◌∷◌, ◌++◌, length, refl, sym, subst, arith}
use Rattle.std.specs.Prelude.{Contains}
use Rattle.std.proofs.lemmas.Bool.{lt-ltb}
use Rattle.std.proofs.lemmas.Bool.Decides.{eqb_tells}
use Rattle.std.proofs.lemmas.List.Elements.{Contains-append_cases}
use Rattle.arm2_effect.specs.ProgramCounter.{branch_target}
use Rattle.bus_ticks.specs.declared.profile.Class.{Class}
use Rattle.bus_ticks.specs.declared.profile.Class.TheVariants.{Any, Ram, Rom, Io}
use Rattle.bus_ticks.specs.declared.profile.Class.TheVariants.{Slow, Medium, Fast, Synchronous}
use Rattle.bus_ticks.specs.declared.profile.Profile.{Profile}
use Rattle.bus_ticks.specs.declared.profile.RomTimes.{RomTimes}
use Rattle.bus_ticks.specs.Prices.{ahead_of, class_of, fetch_n, fetch_s, speed_of}
use Rattle.bus_ticks.specs.Worst.{IsDevice, IsOf, worst_leave, worst_fetch_n, worst_fetch_s}
use Rattle.bus_ticks.proofs.LeaveLemmas.{worst_leave_greatest}
use Rattle.control_flow.specs.Edges.{arrival_ticks, call_places, do_edge, landing_edges, do_edges, places_at, jump_ticks, landings, may_do, may_go, may_skip, skip_edge, skip_edges, word_edges, writer_landings}
use Rattle.control_flow.specs.Kinds.{is_writer}
use Rattle.flow_graph.specs.StepLaw.{IsPlaceOf}
use Rattle.control_flow.specs.declared.edges.Edge.{Edge}
use Rattle.control_flow.specs.declared.actions.Action.{Action}
use Rattle.control_flow.specs.declared.actions.Kind.{Kind}
use Rattle.control_flow.specs.declared.actions.Kind.TheVariants as kind
use Rattle.control_flow.specs.declared.places.Place.{Place}
use Rattle.control_flow.specs.declared.places.Place.TheVariants.{At, Exit}
use Rattle.statement.specs.Stated.{Stated, taken_at, target_of}
use Rattle.control_flow.proofs.LabelLemmas.{from_map, only_one}
use Rattle.control_flow.proofs.SortedLemmas.{cons_cases, here, no_member, there}
use Rattle.flow_graph.proofs.StepTicks.{Reaches, jump_price, n_most, s_most}

-- ## Where edges end

same_class : (c d : Class) → (c ≡ d) ⊎ (c ≡ d → ⊥)
same_class Any Any = inl refl
same_class Ram Ram = inl refl
same_class Rom Rom = inl refl
same_class Io Io = inl refl
same_class Slow Slow = inl refl
same_class Medium Medium = inl refl
same_class Fast Fast = inl refl
same_class Synchronous Synchronous = inl refl
same_class _ _ = inr (λ e. cc)

device_or : (speed t : ℕ) → IsDevice speed t ⊎ (IsDevice speed t → ⊥)
device_or speed t = elim (same_class (class_of t) Io) [
  | inl io ↦ elim (eqb_tells (speed_of t) speed) [ inl is ↦ inl (io, is.1) | inr other ↦ inr (λ d. other.1 d.1) ]
  | inr apart ↦ inr (λ d. apart d.0)
]

of_class_or : (c : Class) (t : ℕ) → IsOf c t ⊎ (IsOf c t → ⊥)
of_class_or Any t = inl tt
of_class_or Ram t = same_class (class_of t) Ram
of_class_or Rom t = same_class (class_of t) Rom
of_class_or Io t = same_class (class_of t) Io
of_class_or Slow t = device_or 0 t
of_class_or Medium t = device_or 1 t
of_class_or Fast t = device_or 2 t
of_class_or Synchronous t = device_or 3 t

place_or : (st : Stated) (t : ℕ) (p : Place) → IsPlaceOf st.leave t p ⊎ (IsPlaceOf st.leave t p → ⊥)
place_or st t (At calls a) = elim (eqb_tells a t) [ inl e ↦ inl e.1 | inr e ↦ inr e.1 ]
place_or st t Exit = of_class_or st.leave t

-- one of the places is that of the address, or none is
abbrev pub Found : Stated → ℕ → List Place → Type 0
Found st t places = ((p : Place) × Contains places p × IsPlaceOf st.leave t p) ⊎ ((p : Place) → Contains places p → IsPlaceOf st.leave t p → ⊥)

find_place : (st : Stated) (t : ℕ) (places : List Place) → Found st t places
find_place st t [] = inr (λ p h is. no_member p h)
find_place st t (x ∷ rest) = by_first (place_or st t x) (find_place st t rest)
  where
    by_first : IsPlaceOf st.leave t x ⊎ (IsPlaceOf st.leave t x → ⊥) → Found st t rest → Found st t (x ∷ rest)
    by_first (inl is) more = inl (x, here x rest, is)
    by_first (inr apart) (inl w) = inl (w.0, there x rest w.0 w.1, w.2)
    by_first (inr apart) (inr none) = inr (λ p h is. elim (cons_cases x rest p h) [ inl e ↦ apart (subst (IsPlaceOf st.leave t) (sym e) is) | inr more ↦ none p more is ])

-- a place of the address to which the word leads; or the word writes R15, and there is none
abbrev pub Lands : Stated → List ℕ → ℕ → Kind → ℕ → Type 0
Lands st calls a k t =
    ((p : Place) × Contains (landings st calls a k) p × IsPlaceOf st.leave t p)
    ⊎ ((is_writer k ≡ true) × ((p : Place) → Contains (landings st calls a k) p → IsPlaceOf st.leave t p → ⊥))

call_lands : (calls : List ℕ) (a to : ℕ) → length calls < 8 → Contains (call_places calls a (to ∷ [])) (At (calls ++ a ∷ []) to)
call_lands calls a to few =
    subst (λ b. Contains (cond b (places_at (calls ++ a ∷ []) (to ∷ [])) []) (At (calls ++ a ∷ []) to)) (sym (lt-ltb (length calls) 8 few))
    (here (At (calls ++ a ∷ []) to) [])

pub lands : (st : Stated) (p : Profile) (rom : RomTimes) (class : Class) (calls : List ℕ) (a : ℕ) (k : Kind) (t : ℕ) → Reaches p rom class a k t → ((offset : ℕ) → k ≡ kind.Call offset → length calls < 8) → Lands st calls a k t
lands st p rom class calls a kind.Plain t e few = inl (At calls (ahead_of a 4), here (At calls (ahead_of a 4)) [], sym e)
lands st p rom class calls a (kind.Branch offset) t e few = inl (At calls (branch_target a offset), here (At calls (branch_target a offset)) [], sym e)
lands st p rom class calls a (kind.Call offset) t e few = inl (At (calls ++ a ∷ []) (branch_target a offset), call_lands calls a (branch_target a offset) (few offset refl), sym e)
lands st p rom class calls a kind.Writer t e few = elim (find_place st t (writer_landings calls a (target_of st a))) [ inl w ↦ inl w | inr none ↦ inr (refl, none) ]
lands st p rom class calls a kind.Trap t e few = absurd e
lands st p rom class calls a kind.Unallocated t e few = absurd e

-- ## Which ways a word may go

module _ (st : Stated) (profile : Profile) (calls : List ℕ) (a : ℕ) (action : Action) where
  abbrev MayGo : Edge → Type 0
  MayGo e = may_go e.label action.cond (taken_at st a) ≡ true

  listed_by : (may : Bool) (xs : List Edge) (e : Edge) → Contains (cond may xs []) e → (may ≡ true) × Contains xs e
  listed_by true xs e h = (refl, h)
  listed_by false xs e h = absurd (no_member e h)

  -- an edge of the word has a label by which the word may go
  pub edge_goes : (e : Edge) → Contains (word_edges st profile calls a action) e → MayGo e
  edge_goes e h = by_part (Contains-append_cases (skip_edges st profile calls a action) (do_edges st profile calls a action) e h)
    where
      by_part : Contains (skip_edges st profile calls a action) e ⊎ Contains (do_edges st profile calls a action) e → MayGo e
      by_part (inl skip) =
          let listed = listed_by (may_skip action.cond (taken_at st a)) (skip_edge profile calls a ∷ []) e skip in
          subst MayGo (only_one (skip_edge profile calls a) e listed.1) listed.0
      by_part (inr done) =
          let listed = listed_by (may_do action.cond (taken_at st a)) (landing_edges st profile calls a action) e done in
          let to = from_map (do_edge st profile calls a action) (landings st calls a action.kind) e listed.1 in
          subst MayGo to.2 listed.0

-- ## What a jump costs

jump_arrives : (st : Stated) (p : Profile) (rom : RomTimes) (class : Class) (a : ℕ) (to : Place) (t : ℕ) → t < 2 ^ 26 → IsPlaceOf st.leave t to → fetch_n p t rom + fetch_s p (ahead_of t 4) rom ≤ jump_ticks p st.leave to
jump_arrives st p rom class a (At calls x) t small e =
    subst (λ y. fetch_n p y rom + fetch_s p (ahead_of y 4) rom ≤ worst_fetch_n p x + worst_fetch_s p (ahead_of x 4)) e
    (omega (arith, n_most p rom class a x, s_most p rom class a (ahead_of x 4)))
jump_arrives st p rom class a Exit t small is =
    (worst_leave_greatest p st.leave (worst_leave p st.leave) refl).none_above (record { address = t; rom = rom }) (record { below = small; is_of = is })

pub arrives : (st : Stated) (p : Profile) (rom : RomTimes) (class : Class) (a : ℕ) (k : Kind) (to : Place) (t : ℕ) → t < 2 ^ 26 → IsPlaceOf st.leave t to → jump_price p rom class a k t ≤ arrival_ticks p st.leave k to
arrives st p rom class a kind.Plain to t small is = omega arith
arrives st p rom class a (kind.Branch offset) to t small is = jump_arrives st p rom class a to t small is
arrives st p rom class a (kind.Call offset) to t small is = jump_arrives st p rom class a to t small is
arrives st p rom class a kind.Writer to t small is = jump_arrives st p rom class a to t small is
arrives st p rom class a kind.Trap to t small is = omega arith
arrives st p rom class a kind.Unallocated to t small is = omega arith
