-- Where words lead by what is stated.
use Rattle.std.proofs.Common.{◌≡◌, ℕ, ◌+◌, ◌<◌, List, [], ◌∷◌, ◌++◌, inl, inr, length, take, get_or, ⊎_elim, sym, ap, ◌∙◌, subst}
use Rattle.std.specs.Prelude.{◌≢◌, ◌↔◌, ◌⊎◌, Contains, Option, Some}
use Rattle.std.proofs.lemmas.List.{take_more}
use Rattle.std.proofs.lemmas.List.Elements.{Contains-append_left, Contains-push, Contains-push_cases}
use Rattle.statement.specs.Stated.{Stated, Target}
use Rattle.statement.specs.declared.stated.TargetKind.{TargetKind}
use Rattle.text_draft.specs.Begun.{target_in}
use Rattle.text_draft.specs.Exploring.{Gains}
use Rattle.text_draft.specs.Reach.{IsStatedTo}
use Rattle.text_draft.proofs.WayLaws.{gains_on}

-- one of the destinations, which is known
abbrev pub IsKnown : List ℕ → ℕ → Type 0
IsKnown destinations to = Contains destinations to × (to ≢ 0)

-- one destination more, if it is known
pub known_more : (ds : List ℕ) (i to : ℕ) (old mid new : List ℕ) → i < length ds → get_or ds i 0 ≡ to
    → Gains (IsKnown (take i ds)) old mid → Gains (λ a. (to ≡ a) × (a ≢ 0)) mid new → Gains (IsKnown (take (i + 1) ds)) old new
known_more ds i to old mid new lt is g h =
    let left : take (i + 1) ds ≡ take i ds ++ to ∷ [] = take_more ds i 0 lt ∙ ap (λ x. take i ds ++ x ∷ []) is in
    gains_on (IsKnown (take i ds)) (λ a. (to ≡ a) × (a ≢ 0)) (IsKnown (take (i + 1) ds)) old mid new
    (λ a. (
      (λ w. ⊎_elim (λ there. inl (there, w.1)) (λ e. inr (e, w.1)) (Contains-push_cases (take i ds) to a (subst (λ t. Contains t a) left w.0))),
      (λ w. ⊎_elim (λ p. (subst (λ t. Contains t a) (sym left) (Contains-append_left (take i ds) (to ∷ []) a p.0), p.1))
          (λ q. (subst (λ t. Contains t a) (sym left) (subst (Contains (take i ds ++ to ∷ [])) q.0 (Contains-push (take i ds) to)), q.1)) w),
    ))
    g h

-- the destinations of a target of a kind
pub stated_to : (begun : Option Stated) (kind : TargetKind) (at : ℕ) (t : Target) (to : List ℕ) → Some t ≡ target_in begun at
    → kind ≡ t.kind → to ≡ t.to → (a : ℕ) → (Contains to a × (a ≢ 0)) ↔ IsStatedTo begun kind at a
stated_to begun kind at t to is same list a = (
  (λ h. record { target = t; stated = sym is; kind_is = sym same; goes = subst (λ xs. Contains xs a) list h.0; known = h.1 }),
  (λ h.
      let both : Some t ≡ Some h.target = is ∙ h.stated in
      let one : h.target ≡ t = cc in
      (subst (λ xs. Contains xs a) (ap (λ (x : Target). x.to) one ∙ sym list) h.goes, h.known)),
)
