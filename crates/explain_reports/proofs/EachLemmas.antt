-- A statement of which one target goes to one of its destinations alone, and then as before.
use Rattle.std.proofs.Common.{◌≡◌, ◌∙◌, ◌+◌, ◌<◌, get_or, length, ℕ, Bool, true, false, cond, nat_eq, List, [], ◌∷◌, ◌++◌, append_assoc, Option, Some, None, refl, sym, ap, subst, inl, inr}
use Rattle.std.specs.Prelude.{All, MatchOption}
use Rattle.std.specs.Map.{keys_of, lookup}
use Rattle.std.proofs.lemmas.Bool.{cases_Bool}
use Rattle.std.proofs.lemmas.List.Elements.{All-head, All-tail}
use Rattle.std.proofs.lemmas.Option.{none-some, same_Some}
use Rattle.asm_text.specs.Appended.{Appends}
use Rattle.bus_ticks.specs.declared.space.TheConstants.{SPACE_END}
use Rattle.bus_ticks.specs.declared.profile.Profile.{Profile}
use Rattle.statement.specs.Stated.{IsTarget, Stated, Target, going_to, target_of, with_destinations}
use Rattle.sources.specs.declared.read.Source.{Source}
use Rattle.text_rows.specs.Rows.{AreRows, section}
use Rattle.explain_reports.specs.Each.{AreEachLines, AreTargetRows, each_heading}
use Rattle.text_rows.proofs.RowLaws.{SoFar, so_far_none, so_far_one}

module _ (at : ℕ) where
  abbrev going : List ℕ → Target → Target
  going xs t = record { kind = t.kind; to = xs }

  going_here : (xs : List ℕ) (e : ℕ × Target) (es : List (ℕ × Target)) → nat_eq at e.0 ≡ true → going_to xs at (e ∷ es) ≡ (e.0, going xs e.1) ∷ es
  going_here xs e es h = rw h refl

  going_past : (xs : List ℕ) (e : ℕ × Target) (es : List (ℕ × Target)) → nat_eq at e.0 ≡ false → going_to xs at (e ∷ es) ≡ e ∷ going_to xs at es
  going_past xs e es h = rw h refl

  found_here : (e : ℕ × Target) (es : List (ℕ × Target)) → nat_eq at e.0 ≡ true → lookup (nat_eq at) (e ∷ es) ≡ Some e.1
  found_here e es h = rw h refl

  found_past : (e : ℕ × Target) (es : List (ℕ × Target)) → nat_eq at e.0 ≡ false → lookup (nat_eq at) (e ∷ es) ≡ lookup (nat_eq at) es
  found_past e es h = rw h refl

  -- what a swap gives back: the target's own destinations; nothing is said where there is no target
  GivesBack : (Nothing : Type 0) → List ℕ → Option Target → Type 0
  GivesBack Nothing new found = MatchOption found Nothing (λ t. new ≡ t.to)

  going_back : (Nothing : Type 0) (xs new : List ℕ) (es : List (ℕ × Target)) → MatchOption (lookup (nat_eq at) es) Nothing (λ t. new ≡ t.to)
      → going_to new at (going_to xs at es) ≡ es
  going_back Nothing xs new [] h = refl
  going_back Nothing xs new (e ∷ es) h =
      elim (cases_Bool (nat_eq at e.0)) [
        | inl here ↦
            let own : new ≡ e.1.to = subst (λ (r : Option Target). MatchOption r Nothing (λ t. new ≡ t.to)) (found_here e es here) h in
            ap (going_to new at) (going_here xs e es here) ∙ going_here new (e.0, going xs e.1) es here ∙ ap (λ (ys : List ℕ). (e.0, going ys e.1) ∷ es) own
        | inr past ↦
            let rest = subst (λ (r : Option Target). MatchOption r Nothing (λ t. new ≡ t.to)) (found_past e es past) h in
            ap (going_to new at) (going_past xs e es past) ∙ going_past new e (going_to xs at es) past
            ∙ ap (λ (ys : List (ℕ × Target)). e ∷ ys) (going_back Nothing xs new es rest)
      ]

  abbrev AreSmall : List ℕ → Type 0
  AreSmall xs = All (λ a. a < SPACE_END) xs

  -- what it gives back are addresses
  back_small : (Nothing : Type 0) (new : List ℕ) → (Nothing → AreSmall new) → (es : List (ℕ × Target)) → All (λ t. IsTarget t.1) es → MatchOption (lookup (nat_eq at) es) Nothing (λ t. new ≡ t.to)
      → AreSmall new
  back_small Nothing new none [] small h = none h
  back_small Nothing new none (e ∷ es) small h =
      elim (cases_Bool (nat_eq at e.0)) [
        | inl here ↦
            let own : new ≡ e.1.to = subst (λ (r : Option Target). MatchOption r Nothing (λ t. new ≡ t.to)) (found_here e es here) h in
            subst AreSmall (sym own) (All-head (λ (t : ℕ × Target). IsTarget t.1) e es small)
        | inr past ↦
            back_small Nothing new none es (All-tail (λ (t : ℕ × Target). IsTarget t.1) e es small)
            (subst (λ (r : Option Target). MatchOption r Nothing (λ t. new ≡ t.to)) (found_past e es past) h)
      ]

  pub swapped_back : (Nothing : Type 0) (st : Stated) (xs new : List ℕ) → MatchOption (target_of st at) Nothing (λ t. new ≡ t.to)
      → with_destinations (with_destinations st at xs) at new ≡ st
  swapped_back Nothing st xs new h = ap (λ (ts : List (ℕ × Target)). record st { targets = ts }) (going_back Nothing xs new st.targets h)

  pub swapped_small : (Nothing : Type 0) (st : Stated) (new : List ℕ) → (Nothing → AreSmall new) → All (λ t. IsTarget t.1) st.targets → MatchOption (target_of st at) Nothing (λ t. new ≡ t.to)
      → AreSmall new
  swapped_small Nothing st new none small h = back_small Nothing new none st.targets small h

-- ## Rows

pub after : (old front back a b : List ℕ) → a ≡ old ++ front → b ≡ a ++ back → b ≡ old ++ (front ++ back)
after old front back a b is then = then ∙ ap (λ xs. xs ++ back) is ∙ append_assoc old front back

-- whatever rows the others have, all rows are those so far and these, and the statement is as it was
pub record RowsSoFar (IsRow : ℕ → List ℕ → Type 0) (all : List ℕ) (i : ℕ) (old now : List ℕ) (before after : Stated) : Type 0 where
  pub same : after ≡ before
  pub rows : SoFar IsRow all i old now

module _ (Rows : Stated → ℕ → List ℕ → Type 0) (all : List ℕ) (old : List ℕ) (before : Stated) where
  pub rows_none : RowsSoFar (Rows before) all 0 old old before before
  rows_none = record { same = refl; rows = so_far_none (Rows before) all old }

  pub rows_one : (i d : ℕ) (now new : List ℕ) (st next : Stated) → RowsSoFar (Rows before) all i old now before st → i < length all → next ≡ st → Appends (Rows st (get_or all i d)) now new
      → RowsSoFar (Rows before) all (i + 1) old new before next
  rows_one i d now new st next h lt same adds = record {
    same = same ∙ h.same;
    rows = so_far_one (Rows before) all i d old now new h.rows lt (subst (λ (s : Stated). Appends (Rows s (get_or all i d)) now new) h.same adds);
  }

-- the rows of all targets under their heading
pub section_of : (read : Source) (st : Stated) (profile : Profile) (addresses : List ℕ) → addresses ≡ keys_of st.targets → (old rows text : List ℕ) → old ≡ []
    → Appends (AreRows (AreTargetRows read st profile) addresses) old rows → text ≡ section each_heading rows → AreEachLines read st profile text
section_of read st profile addresses keys old rows text none are is =
    let whole : rows ≡ are.0 = are.2 ∙ ap (λ (xs : List ℕ). xs ++ are.0) none in (
      rows,
      subst (AreRows (AreTargetRows read st profile) (keys_of st.targets)) (sym whole) (subst (λ (bs : List ℕ). AreRows (AreTargetRows read st profile) bs are.0) keys are.1),
      is,
    )
