-- What an edge tells, and where its word may set the flags, by its word.
use Rattle.std.proofs.Common.{◌≡◌, ◌∙◌, ℕ, ◌⊎◌, inl, inr, Bool, true, false, Option, Some, None, refl, sym, ap, subst}
use Rattle.std.specs.Prelude.{◌↔◌, ◌&&◌, IfSome, IsTrue}
use Rattle.arm2_decode.specs.Table.{IsUnallocated, Means}
use Rattle.arm2_decode.proofs.Unique.{never_both, one_instr}
use Rattle.arm2_decode.specs.declared.flags.Flags.{Flags}
use Rattle.arm2_decode.specs.declared.instr.Instr.{Instr}
use Rattle.arm2_decode.specs.declared.instr.Unallocated.{Unallocated}
use Rattle.control_flow.specs.Kinds.{IsAction, instr_action, unallocated_action}
use Rattle.control_flow.specs.Places.{place_address}
use Rattle.control_flow.specs.declared.actions.Action.{Action}
use Rattle.control_flow.specs.declared.edges.Edge.{Edge}
use Rattle.control_flow.proofs.EdgeLemmas.{one_action}
use Rattle.image.specs.Image.{Words, word_of}
use Rattle.text_explained.specs.Leaving.{is_done}
use Rattle.walk_contradictions.specs.Outcomes.{Exclude, Gives, MaySet, Tells, may_set_flags}
use Rattle.walk_contradictions.specs.Passing.{Clashes, Excludes, Has, In, IsTelling, Met, Next, TellsSo, has}
use Rattle.walk_contradictions.specs.Sieve.{IsPossible}
use Rattle.walk_contradictions.specs.declared.outcomes.Outcome.{Outcome}
use Rattle.walk_contradictions.specs.declared.outcomes.Outcomes.{Outcomes}
use Rattle.walk_contradictions.specs.declared.passing.Direction.{Direction}
use Rattle.walk_contradictions.specs.declared.passing.Direction.TheVariants.{Forward, Backward}
use Rattle.walk_contradictions.specs.declared.passing.Telling.{Telling}

no_both : false ≡ true → ⊥
no_both is = absurd (cc)

the_some : {X : Type 0} (x y : X) → Some x ≡ Some y → x ≡ y
the_some x y is = cc

not_some : {X : Type 0} (x : X) → None ≡ Some x → ⊥
not_some x is = absurd (cc)

-- ## Words

and_parts : (x y : Bool) → (x && y) ≡ true → (x ≡ true) × (y ≡ true)
and_parts true y is = (refl, is)
and_parts false y is = absurd (no_both is)

and_both : (x y : Bool) → x ≡ true → y ≡ true → (x && y) ≡ true
and_both true y one other = other
and_both false y one other = absurd (no_both one)

pub tells_instr : (word : ℕ) (done sets : Bool) (i : Instr) → Means word i → sets ≡ may_set_flags i.operation
    → TellsSo word done (record { outcome = Some (record { cond = i.cond; holds = done }); sets = done && sets })
tells_instr word done sets i means is = record {
  action = instr_action i;
  is = inl (i, means, refl);
  outcome = refl;
  sets = (
    λ yes. let both = and_parts done sets yes in (both.0, (i, means, sym is ∙ both.1)),
    λ h. and_both done sets h.0 (is ∙ ap (λ (j : Instr). may_set_flags j.operation) (one_instr word i h.1.0 means h.1.1) ∙ h.1.2),
  );
}

pub tells_unallocated : (word : ℕ) (done : Bool) (u : Unallocated) → IsUnallocated word u
    → TellsSo word done (record { outcome = Some (record { cond = u.cond; holds = done }); sets = false })
tells_unallocated word done u none = record {
  action = unallocated_action u;
  is = inr (u, none, refl);
  outcome = refl;
  sets = (λ yes. absurd (no_both yes), λ h. absurd (never_both word h.1.0 u h.1.1 none));
}

-- ## Outcomes

pub told_only : (words : Words) (e : Edge) (at word : ℕ) (action : Action) (holds : Bool) → at ≡ place_address e.from → word_of words at ≡ Some word
    → ((a : Action) → IsAction word a → a ≡ action) → holds ≡ is_done e.label → (o : Outcome) → Tells words e o
    → Some (record { cond = action.cond; holds = holds }) ≡ Some o
told_only words e at word action holds is has only label o tells =
    let word_is : tells.has.word ≡ word = the_some tells.has.word word (sym tells.has.word_is ∙ ap (word_of words) (sym is) ∙ has) in
    let action_is : tells.action ≡ action = only tells.action (subst (λ w. IsAction w tells.action) word_is tells.has.is) in
    let cond_is : o.cond ≡ action.cond = tells.cond ∙ ap (λ (a : Action). a.cond) action_is in
    let holds_is : o.holds ≡ holds = tells.holds ∙ sym label in
    ap (λ c. Some (record { cond = c; holds = holds })) (sym cond_is) ∙ ap (λ (h : Bool). Some (record { cond = o.cond; holds = h })) (sym holds_is)

pub telling_by : (words : Words) (e : Edge) (at word : ℕ) (done : Bool) (t : Telling) → at ≡ place_address e.from → word_of words at ≡ Some word → done ≡ is_done e.label → TellsSo word done t
    → IsTelling words e t
telling_by words e at word done t is has label so =
    let there : word_of words (place_address e.from) ≡ Some word = ap (word_of words) (sym is) ∙ has in
    record {
      told = subst (λ (o : Option Outcome). IfSome o (Tells words e)) (sym so.outcome)
          (record { action = so.action; has = record { word = word; word_is = there; is = so.is }; cond = refl; holds = label });
      only = λ o tells. so.outcome ∙ told_only words e at word so.action done is has (λ (a : Action) (h : IsAction word a). one_action word a so.action h so.is) label o tells;
      sets = (
        λ yes. let h = so.sets.0 yes in record { done = sym label ∙ h.0; instr = h.1.0; has = record { word = word; has_word = there; means = h.1.1 }; sets = h.1.2 },
        λ m. so.sets.1 (label ∙ m.done, (m.instr, subst (λ w. Means w m.instr) (the_some m.has.word word (sym m.has.has_word ∙ there)) m.has.means, m.sets)),
      );
    }

module _ (words : Words) (e : Edge) (t : Telling) (telling : IsTelling words e t) where
  pub tells_so : (o : Outcome) → t.outcome ≡ Some o → Tells words e o
  tells_so o is = subst (λ (found : Option Outcome). IfSome found (Tells words e)) is telling.told

  free_to : (t.sets ≡ true → ⊥) → MaySet words e → ⊥
  free_to never may = never (telling.sets.1 may)

  free_from : (MaySet words e → ⊥) → t.sets ≡ true → ⊥
  free_from never sets = never (telling.sets.0 sets)

  module _ (B C : Outcome → Type 0) where
    joined_to : ((o : Outcome) → B o → C o) → (o : Outcome) → B o ⊎ (t.outcome ≡ Some o) → C o ⊎ Tells words e o
    joined_to f o (inl x) = inl (f o x)
    joined_to f o (inr is) = inr (tells_so o is)

    joined_from : ((o : Outcome) → C o → B o) → (o : Outcome) → C o ⊎ Tells words e o → B o ⊎ (t.outcome ≡ Some o)
    joined_from f o (inl x) = inl (f o x)
    joined_from f o (inr tells) = inr (telling.only o tells)

  abbrev Joins : (old new : Outcomes) → Type 0
  Joins old new = (o : Outcome) → (has new o ≡ true) ↔ ((has old o ≡ true) ⊎ (t.outcome ≡ Some o))

  abbrev Leaves : (old new : Outcomes) → Type 0
  Leaves old new = (o : Outcome) → (has new o ≡ true) ↔ ((t.sets ≡ true → ⊥) × (has old o ≡ true))

  pub next_forward : (d : Direction) → d ≡ Forward → (before joined left : Outcomes) → Joins before joined → Leaves joined left → Has left (Next words d e (In before))
  next_forward d is before joined left j l =
      subst (λ (x : Direction). Has left (Next words x e (In before))) (sym is) (λ o. (
        λ i. let h = (l o).0 i in (free_to h.0, joined_to (In before) (In before) (λ p x. x) o ((j o).0 h.1)),
        λ n. (l o).1 (free_from n.0, (j o).1 (joined_from (In before) (In before) (λ p x. x) o n.1)),
      ))

  pub next_backward : (d : Direction) → d ≡ Backward → (before left joined : Outcomes) → Leaves before left → Joins left joined → Has joined (Next words d e (In before))
  next_backward d is before left joined l j =
      subst (λ (x : Direction). Has joined (Next words x e (In before))) (sym is) (λ o. (
        λ i. joined_to (In left) (λ p. (MaySet words e → ⊥) × In before p) (λ p x. let h = (l p).0 x in (free_to h.0, h.1)) o ((j o).0 i),
        λ n. (j o).1 (joined_from (In left) (λ p. (MaySet words e → ⊥) × In before p) (λ p x. (l p).1 (free_from x.0, x.1)) o n),
      ))

pub possible_some : (words : Words) (e : Edge) (t : Telling) → IsTelling words e t → (outcome : Outcome) → t.outcome ≡ Some outcome → ((flags : Flags) × Gives flags outcome) → IsPossible words e
possible_some words e t telling outcome is gives o tells =
    subst (λ (p : Outcome). (flags : Flags) × Gives flags p) (the_some outcome o (sym is ∙ telling.only o tells)) gives

pub possible_none : (words : Words) (e : Edge) (t : Telling) → IsTelling words e t → t.outcome ≡ None → IsPossible words e
possible_none words e t telling is o tells = absurd (not_some o (sym is ∙ telling.only o tells))

module _ (words : Words) (e : Edge) (found : Option Outcome) (only : (o : Outcome) → Tells words e o → found ≡ Some o) where
  pub clash_some : (d : Direction) (outcome : Outcome) → found ≡ Some outcome → Tells words e outcome → (before met : Outcomes) → Has met (Met words d e (In before)) → (answer : Bool)
      → (IsTrue answer ↔ Excludes met outcome) → IsTrue answer ↔ Clashes words d e (In before)
  clash_some d outcome is tells before met are answer excludes = (
    λ yes. let x = excludes.0 yes in record { one = x.one; other = outcome; met = (are x.one).0 x.among; tells = tells; excluded = x.excluded },
    λ c. excludes.1 (record {
      one = c.one;
      among = (are c.one).1 c.met;
      excluded = subst (λ (o : Outcome). Exclude c.one o) (the_some c.other outcome (sym (only c.other c.tells) ∙ is)) c.excluded;
    }),
  )

  pub clash_none : (d : Direction) → found ≡ None → (before : Outcomes) → IsTrue false ↔ Clashes words d e (In before)
  clash_none d is before = (λ yes. absurd (no_both yes), λ c. absurd (not_some c.other (sym is ∙ only c.other c.tells)))
