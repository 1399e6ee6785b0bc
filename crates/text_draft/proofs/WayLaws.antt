-- Where control goes from a word.
use Rattle.std.proofs.Common.{◌≡◌, ℕ, ◌+◌, ◌<◌, ◌≤◌, List, [], ◌∷◌, ◌++◌, Some, inl, inr, ⊎_elim, arith, refl, sym, ap, ◌∙◌, subst}
use Rattle.std.specs.Prelude.{Contains, Option, ◌↔◌, ◌⊎◌}
use Rattle.std.proofs.lemmas.List.Elements.{Contains-append_left, Contains-push, Contains-push_cases}
use Rattle.std.proofs.lemmas.Bool.{cases_lt}
use Rattle.text_draft.specs.Exploring.{Gains}
use Rattle.arm2_effect.specs.ProgramCounter.{branch_target}
use Rattle.statement.specs.Stated.{Stated}
use Rattle.text_draft.specs.Reach.{Calls, HasPlaces, IsBranchAt, IsTablePlace, JumpsIntoTable, LeadsAway, LeadsByTable, Steps, StepsTo}
use Rattle.control_flow.specs.Edges.{HasAction}
use Rattle.control_flow.specs.declared.actions.Action.{Action}
use Rattle.control_flow.specs.declared.actions.Kind.{Kind}
use Rattle.control_flow.specs.declared.actions.Kind.TheVariants as kind
use Rattle.image.specs.Image.{Words}
use borrow.Author.Count.{below_more, below_none}

-- one of the first so many places of the table after a word
abbrev pub IsPlaceBelow : ℕ → ℕ → ℕ → Type 0
IsPlaceBelow at n a = (k : ℕ) × (k < n) × (a ≡ branch_target at k)

-- ## What a word does

pub same_action : (r s : Action) → Some r ≡ Some s → r ≡ s
same_action r s both = cc

module _ (words : Words) (at : ℕ) where
  -- the first so many places of a table are branches
  pub record AreBranches (n : ℕ) : Type 0 where
    pub each : (m : ℕ) → m < n → IsBranchAt words (branch_target at m)

  pub branches_none : AreBranches 0
  branches_none = record { each = below_none (λ m. IsBranchAt words (branch_target at m)) }

  pub branches_more : (n place : ℕ) → AreBranches n → place ≡ branch_target at n → IsBranchAt words place → AreBranches (n + 1)
  branches_more n place b is here = record {
    each = below_more (λ m. IsBranchAt words (branch_target at m)) n b.each (subst (IsBranchAt words) is here);
  }

  -- where no place follows, these are all
  pub places_all : (n : ℕ) → AreBranches n → JumpsIntoTable words at → n ≤ 64 → (IsTablePlace words at n → ⊥)
      → HasPlaces words at n
  places_all n b jumps few not = λ m. (
    (λ lt. record { jumps = jumps; few = omega arith; branches = λ k le. b.each k (omega arith) }),
    (λ place. ⊎_elim (λ lt. lt)
        (λ le. absurd (not (record { jumps = jumps; few = omega (arith, place.few); branches = λ k l. place.branches k (omega arith) })))
        (cases_lt m n)),
  )

  -- a table has 64 places at most
  pub places_full : (n : ℕ) → AreBranches n → JumpsIntoTable words at → 64 ≤ n → HasPlaces words at 64
  places_full n b jumps full = λ m. (
    (λ lt. record { jumps = jumps; few = lt; branches = λ k le. b.each k (omega arith) }),
    (λ place. place.few),
  )

  -- the places of the table after a word are all others to which it leads
  pub places_lead : (count n : ℕ) → HasPlaces words at count → count ≤ n → n ≤ count → (to : ℕ)
      → IsPlaceBelow at n to ↔ LeadsByTable words at to
  places_lead count n has all few to = (
    (λ h. (h.0, (has h.0).0 (omega (arith, h.1, few)), h.2)),
    (λ h. let place = (has h.0).1 h.1 in (h.0, omega (arith, place, all), h.2)),
  )

-- what is no call and no other writer of R15 calls nothing
pub calls_nothing : (begun : Option Stated) (at : ℕ) (w : Kind) (to : ℕ) → ((offset : ℕ) → w ≡ kind.Call offset → ⊥)
    → (w ≡ kind.Writer → ⊥) → Calls begun at w to → ⊥
calls_nothing begun at kind.Plain to call writer h = h
calls_nothing begun at (kind.Branch offset) to call writer h = h
calls_nothing begun at (kind.Call offset) to call writer h = call offset refl
calls_nothing begun at kind.Writer to call writer h = writer refl
calls_nothing begun at kind.Trap to call writer h = h
calls_nothing begun at kind.Unallocated to call writer h = h

module _ (words : Words) (begun : Option Stated) (at : ℕ) where
  -- a word that is no branch and no other writer of R15 leads nowhere else inside its routine
  pub leads_nowhere : (w : Kind) (to : ℕ) → ((offset : ℕ) → w ≡ kind.Branch offset → ⊥) → (w ≡ kind.Writer → ⊥)
      → LeadsAway words begun at w to → ⊥
  leads_nowhere kind.Plain to branch writer h = h
  leads_nowhere (kind.Branch offset) to branch writer h = branch offset refl
  leads_nowhere (kind.Call offset) to branch writer h = h
  leads_nowhere kind.Writer to branch writer h = writer refl
  leads_nowhere kind.Trap to branch writer h = h
  leads_nowhere kind.Unallocated to branch writer h = h

  -- the one action of an address shows all steps from there
  pub steps_are : (r : Action) → HasAction words at r → ((s : Action) → HasAction words at s → r ≡ s) → (to : ℕ)
      → Steps words begun at r to ↔ StepsTo words begun at to
  steps_are r has only to = (
    (λ h. (r, has, h)),
    (λ h. subst (λ s. Steps words begun at s to) (sym (only h.0 h.1)) h.2),
  )

-- ## Lists that gain addresses

pub gains_none : (P : ℕ → Type 0) (xs : List ℕ) → ((a : ℕ) → P a → ⊥) → Gains P xs xs
gains_none P xs none = λ a. ((λ h. inl h), (λ h. ⊎_elim (λ w. w) (λ p. absurd (none a p)) h))

pub gains_one : (P : ℕ → Type 0) (xs : List ℕ) (x : ℕ) (ys : List ℕ) → ((a : ℕ) → P a ↔ (x ≡ a)) → ys ≡ xs ++ x ∷ []
    → Gains P xs ys
gains_one P xs x ys one is = λ a. (
  (λ h. ⊎_elim (λ w. inl w) (λ e. inr ((one a).1 e)) (Contains-push_cases xs x a (subst (λ t. Contains t a) is h))),
  (λ h. subst (λ t. Contains t a) (sym is)
      (⊎_elim (λ w. Contains-append_left xs (x ∷ []) a w)
      (λ p. subst (Contains (xs ++ x ∷ [])) ((one a).0 p) (Contains-push xs x)) h)),
)

pub gains_from_none : (P : ℕ → Type 0) (xs ys : List ℕ) → xs ≡ [] → Gains P xs ys → (a : ℕ) → Contains ys a ↔ P a
gains_from_none P xs ys none g a = (
  (λ h. ⊎_elim (λ w. let there = subst (λ t. Contains t a) none w in absurd (omega (arith, there.1))) (λ p. p) ((g a).0 h)),
  (λ p. (g a).1 (inr p)),
)

-- first some and then others
pub gains_on : (P Q R : ℕ → Type 0) (xs ys zs : List ℕ) → ((a : ℕ) → R a ↔ (P a ⊎ Q a)) → Gains P xs ys
    → Gains Q ys zs → Gains R xs zs
gains_on P Q R xs ys zs both g h = λ a. (
  (λ w. ⊎_elim (λ there. ⊎_elim (λ old. inl old) (λ p. inr ((both a).1 (inl p))) ((g a).0 there))
      (λ q. inr ((both a).1 (inr q))) ((h a).0 w)),
  (λ w. (h a).1 (⊎_elim (λ old. inl ((g a).1 (inl old)))
      (λ r. ⊎_elim (λ p. inl ((g a).1 (inr p))) (λ q. inr q) ((both a).0 r)) w)),
)

-- the same by another name
pub gains_as : (P Q : ℕ → Type 0) (xs ys : List ℕ) → ((a : ℕ) → P a ↔ Q a) → Gains P xs ys → Gains Q xs ys
gains_as P Q xs ys same g = λ a. (
  (λ w. ⊎_elim (λ old. inl old) (λ p. inr ((same a).0 p)) ((g a).0 w)),
  (λ w. (g a).1 (⊎_elim (λ old. inl old) (λ q. inr ((same a).1 q)) w)),
)

-- one place of a table more
pub places_more : (at : ℕ) (old : List ℕ) (n : ℕ) (mid new : List ℕ) (place : ℕ) → Gains (IsPlaceBelow at n) old mid
    → place ≡ branch_target at n → new ≡ mid ++ place ∷ [] → Gains (IsPlaceBelow at (n + 1)) old new
places_more at old n mid new place g is more =
    gains_on (IsPlaceBelow at n) (λ a. place ≡ a) (IsPlaceBelow at (n + 1)) old mid new
    (λ a. (
      (λ h. ⊎_elim (λ lt. inl (h.0, lt, h.2))
          (λ le. let same : h.0 ≡ n = omega (arith, h.1, le) in inr (is ∙ sym (ap (λ k. branch_target at k) same) ∙ sym h.2))
          (cases_lt h.0 n)),
      (λ h. ⊎_elim (λ below. (below.0, omega (arith, below.1), below.2)) (λ e. (n, omega arith, sym e ∙ is)) h),
    ))
    g (gains_one (λ a. place ≡ a) mid place new (λ a. ((λ e. e), (λ e. e))) more)
