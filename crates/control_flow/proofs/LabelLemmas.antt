-- The edges of a place, by their labels and by where a word leads.
use Rattle.std.proofs.Common.{◌≡◌, ℕ, zero, suc, ◌⊎◌, inl, inr, Bool, true, false, cond, List, [], ◌∷◌, ◌++◌, length, map, nat_lt, Option, Some, None, refl, sym, ap, subst, ◌∙◌, arith}
use Rattle.std.specs.Prelude.{Contains}
use Rattle.std.proofs.lemmas.List.{get_or-map, length-map}
use Rattle.std.proofs.lemmas.List.Elements.{Contains-append_cases, Contains-append_left, Contains-append_right}
use Rattle.arm2_decode.specs.Names.{is_always, is_never}
use Rattle.arm2_effect.specs.ProgramCounter.{branch_target}
use Rattle.bus_ticks.specs.declared.profile.Profile.{Profile}
use Rattle.bus_ticks.specs.Prices.{ahead_of}
use Rattle.arm2_decode.specs.Conditions.{condition_holds}
use Rattle.arm2_decode.specs.declared.flags.Flags.{Flags}
use Rattle.arm2_decode.specs.declared.names.Cond.{Cond}
use Rattle.arm2_decode.specs.declared.names.Cond.TheVariants as condition
use Rattle.control_flow.specs.Edges.{call_places, do_edge, landing_edges, do_edges, places_at, landings, may_do, may_skip, return_place, skip_edge, skip_edges, stated_landings, word_edges, writer_landings}
use Rattle.control_flow.specs.declared.edges.Edge.{Edge}
use Rattle.control_flow.specs.declared.edges.Label.{Label}
use Rattle.control_flow.specs.declared.edges.Label.TheVariants.{Skip, Do}
use Rattle.control_flow.specs.declared.actions.Action.{Action}
use Rattle.control_flow.specs.declared.actions.Kind.{Kind}
use Rattle.control_flow.specs.declared.actions.Kind.TheVariants as kind
use Rattle.control_flow.specs.declared.places.Place.{Place}
use Rattle.control_flow.specs.declared.places.Place.TheVariants.{At, Exit}
use Rattle.statement.specs.Stated.{Stated, Target, taken_at, target_of}
use Rattle.statement.specs.declared.stated.TargetKind.{TargetKind}
use Rattle.statement.specs.declared.stated.TargetKind.TheVariants as stated
use Rattle.control_flow.proofs.SortedLemmas.{cons_cases, here, no_member, there}

-- ## Conditions

pub never_holds : (c : Cond) (f : Flags) → condition_holds c f ≡ true → is_never c ≡ false
never_holds condition.Nv f h = absurd (cc)
never_holds _ f h = refl

pub always_holds : (c : Cond) (f : Flags) → condition_holds c f ≡ false → is_always c ≡ false
always_holds condition.Al f h = absurd (cc)
always_holds _ f h = refl

-- ## Lists

-- an element of a mapped list is some element's image
pub from_map : {X Y : Type 0} (f : X → Y) (xs : List X) (y : Y) → Contains (map f xs) y → (x : X) × Contains xs x × (f x ≡ y)
from_map f [] y h = absurd (no_member y h)
from_map f (x ∷ xs) y (zero, lt, at) = (x, here x xs, at)
from_map f (x ∷ xs) y (suc k, lt, at) = let w = from_map f xs y (k, omega arith, at) in (w.0, there x xs w.0 w.1, w.2)

pub into_map : {X Y : Type 0} (f : X → Y) (xs : List X) (x : X) → Contains xs x → Contains (map f xs) (f x)
into_map f xs x h = (h.0, omega (arith, h.1, length-map xs f), get_or-map f xs h.0 x (f x) h.1 ∙ ap f h.2)

cond_contains : (b : Bool) (xs : List Edge) (e : Edge) → Contains (cond b xs []) e → Contains xs e
cond_contains true xs e h = h
cond_contains false xs e h = absurd (no_member e h)

contains_cond : (b : Bool) (xs : List Edge) (e : Edge) → b ≡ true → Contains xs e → Contains (cond b xs []) e
contains_cond b xs e on h = subst (λ t. Contains (cond t xs []) e) (sym on) h

pub only_one : {X : Type 0} (x e : X) → Contains (x ∷ []) e → x ≡ e
only_one x e h = by_place (cons_cases x [] e h)
  where
    by_place : (x ≡ e) ⊎ Contains [] e → x ≡ e
    by_place (inl same) = same
    by_place (inr none) = absurd (no_member e none)

-- ## Where a word leads

-- what holds of no place, of one, and of places inside the same calls, holds of all those to which a word leads
module _ (P : List Place → Type 0) (none : P []) (one : (p : Place) → P (p ∷ [])) (inside : (calls to : List ℕ) → P (places_at calls to)) where
  of_call : (calls : List ℕ) (address : ℕ) (to : List ℕ) → P (call_places calls address to)
  of_call calls address to = with_room (nat_lt (length calls) 8)
    where
      with_room : (b : Bool) → P (cond b (places_at (calls ++ address ∷ []) to) [])
      with_room true = inside (calls ++ address ∷ []) to
      with_room false = none

  of_stated : (calls : List ℕ) (address : ℕ) (k : TargetKind) (to : List ℕ) → P (stated_landings calls address k to)
  of_stated calls address stated.Jump to = inside calls to
  of_stated calls address stated.Call to = of_call calls address to
  of_stated calls address stated.Return to = one (return_place calls)
  of_stated calls address stated.Leave to = one Exit

  of_writer : (calls : List ℕ) (address : ℕ) (t : Option Target) → P (writer_landings calls address t)
  of_writer calls address None = one (return_place calls)
  of_writer calls address (Some t) = of_stated calls address t.kind t.to

  pub of_landings : (st : Stated) (calls : List ℕ) (address : ℕ) (k : Kind) → P (landings st calls address k)
  of_landings st calls address kind.Plain = one (At calls (ahead_of address 4))
  of_landings st calls address (kind.Branch offset) = one (At calls (branch_target address offset))
  of_landings st calls address (kind.Call offset) = of_call calls address (branch_target address offset ∷ [])
  of_landings st calls address kind.Writer = of_writer calls address (target_of st address)
  of_landings st calls address kind.Trap = none
  of_landings st calls address kind.Unallocated = none

-- ## Which edges a place has

pub not_both : (l : Label) → l ≡ Skip → l ≡ Do → ⊥
not_both l skips does = let both : Skip ≡ Do = sym skips ∙ does in cc

module _ (st : Stated) (profile : Profile) (calls : List ℕ) (a : ℕ) (action : Action) where
  -- the edge where the word is passed over, or one of those where it is done
  abbrev pub Which : Edge → Type 0
  Which e = (skip_edge profile calls a ≡ e) ⊎ ((to : Place) × Contains (landings st calls a action.kind) to × (do_edge st profile calls a action to ≡ e))

  pub which_edge : (e : Edge) → Contains (word_edges st profile calls a action) e → Which e
  which_edge e h = by_part (Contains-append_cases (skip_edges st profile calls a action) (do_edges st profile calls a action) e h)
    where
      by_part : Contains (skip_edges st profile calls a action) e ⊎ Contains (do_edges st profile calls a action) e → Which e
      by_part (inl skip) = inl (only_one (skip_edge profile calls a) e (cond_contains (may_skip action.cond (taken_at st a)) (skip_edge profile calls a ∷ []) e skip))
      by_part (inr more) = inr (from_map (do_edge st profile calls a action) (landings st calls a action.kind) e (cond_contains (may_do action.cond (taken_at st a)) (landing_edges st profile calls a action) e more))

  -- two edges with one label are the same where both lead to the same place
  pub same_by_label : (d e : Edge) → d.label ≡ e.label → Which d → Which e
      → ((p q : Place) → Contains (landings st calls a action.kind) p → Contains (landings st calls a action.kind) q → p ≡ d.to → q ≡ e.to → p ≡ q) → d ≡ e
  same_by_label d e label (inl x) (inl y) same = sym x ∙ y
  same_by_label d e label (inl x) (inr y) same = absurd (not_both d.label (sym (ap (λ (z : Edge). z.label) x)) (label ∙ sym (ap (λ (z : Edge). z.label) y.2)))
  same_by_label d e label (inr x) (inl y) same = absurd (not_both d.label (label ∙ sym (ap (λ (z : Edge). z.label) y)) (sym (ap (λ (z : Edge). z.label) x.2)))
  same_by_label d e label (inr x) (inr y) same =
      let one : x.0 ≡ y.0 = same x.0 y.0 x.1 y.1 (ap (λ (z : Edge). z.to) x.2) (ap (λ (z : Edge). z.to) y.2) in
      sym x.2 ∙ ap (do_edge st profile calls a action) one ∙ y.2

  pub skip_among : may_skip action.cond (taken_at st a) ≡ true → Contains (word_edges st profile calls a action) (skip_edge profile calls a)
  skip_among may =
      Contains-append_left (skip_edges st profile calls a action) (do_edges st profile calls a action) (skip_edge profile calls a)
      (contains_cond (may_skip action.cond (taken_at st a)) (skip_edge profile calls a ∷ []) (skip_edge profile calls a) may (here (skip_edge profile calls a) []))

  pub do_among : (to : Place) → may_do action.cond (taken_at st a) ≡ true → Contains (landings st calls a action.kind) to → Contains (word_edges st profile calls a action) (do_edge st profile calls a action to)
  do_among to may lands =
      Contains-append_right (skip_edges st profile calls a action) (do_edges st profile calls a action) (do_edge st profile calls a action to)
      (contains_cond (may_do action.cond (taken_at st a)) (landing_edges st profile calls a action) (do_edge st profile calls a action to) may
      (into_map (do_edge st profile calls a action) (landings st calls a action.kind) to lands))
