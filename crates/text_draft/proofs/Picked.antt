-- What was picked of the elements in front of an index.
use Rattle.std.proofs.Common.{◌≡◌, inl, inr, ◌+◌, ◌<◌, ◌≤◌, ℕ, List, [], ◌∷◌, ◌++◌, length, drop, refl, sym, ap, subst, ◌∙◌, append-nil, append_assoc, get_or}
use Rattle.std.proofs.Math.ListN.{drop_of_length-le}
use Rattle.std.proofs.lemmas.List.{drop_more}
use Rattle.text_draft.specs.Picks.{Keeps, Picks}

-- whatever is picked of the rest, all that is picked is that and this in front of it
pub record SoFar {X : Type 0} (P : X → Type 0) (xs : List X) (i : ℕ) (found : List X) : Type 0 where
  pub whole : (more : List X) → Picks P (drop i xs) more → Picks P xs (found ++ more)

pub so_far_none : {X : Type 0} (P : X → Type 0) (xs found : List X) → found ≡ [] → SoFar P xs 0 found
so_far_none P xs found is = record { whole = λ more picked. subst (λ t. Picks P xs (t ++ more)) (sym is) picked }

pub so_far_kept : {X : Type 0} (P : X → Type 0) (xs : List X) (i : ℕ) (d x : X) (found new : List X) → SoFar P xs i found
    → i < length xs → get_or xs i d ≡ x → Keeps P x found new → SoFar P xs (i + 1) new
so_far_kept {X} P xs i d x found new h lt is (inl (holds, same)) = record {
  whole = λ more picked.
      let left : drop i xs ≡ x ∷ drop (i + 1) xs = drop_more xs i d lt ∙ ap (λ y. y ∷ drop (i + 1) xs) is in
      let both : Picks P (x ∷ drop (i + 1) xs) (x ∷ more) = inl (holds, (more, picked, refl)) in
      let here : Picks P (drop i xs) (x ∷ more) = subst (λ ys. Picks P ys (x ∷ more)) (sym left) both in
      subst (Picks P xs) (sym (ap (λ t. t ++ more) same ∙ append_assoc found (x ∷ []) more)) (h.whole (x ∷ more) here);
}
so_far_kept {X} P xs i d x found new h lt is (inr (fails, same)) = record {
  whole = λ more picked.
      let left : drop i xs ≡ x ∷ drop (i + 1) xs = drop_more xs i d lt ∙ ap (λ y. y ∷ drop (i + 1) xs) is in
      let both : Picks P (x ∷ drop (i + 1) xs) more = inr (fails, picked) in
      let here : Picks P (drop i xs) more = subst (λ ys. Picks P ys more) (sym left) both in
      subst (Picks P xs) (sym (ap (λ t. t ++ more) same)) (h.whole more here);
}

pub so_far_all : {X : Type 0} (P : X → Type 0) (xs : List X) (i : ℕ) (found : List X) → SoFar P xs i found
    → length xs ≤ i → Picks P xs found
so_far_all P xs i found h le =
    let none : drop i xs ≡ [] = drop_of_length-le xs le in
    subst (Picks P xs) (append-nil found) (h.whole [] (subst (λ ys. Picks P ys []) (sym none) refl))
