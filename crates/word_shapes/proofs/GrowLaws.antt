-- Lists that grow, and sets of what is in them.
use Rattle.std.proofs.Common.{◌≡◌, ◌+◌, ◌≤◌, ◌⊎◌, inl, inr, List, [], ◌∷◌, ◌++◌, length, ⊎_elim, sym, ap, ◌∙◌, subst, arith, length-append, append_assoc, append-nil}
use Rattle.std.specs.Prelude.{Contains, ◌↔◌}
use Rattle.std.specs.BTreeSet.{BTreeSet}
use Rattle.std.specs.Cmp.{IsTotalOrder}
use Rattle.std.specs.declared.cmp.Ordering.{Ordering}
use Rattle.std.proofs.lemmas.List.Elements.{Contains-append_left, Contains-push, Contains-push_cases}
use Rattle.std.proofs.lemmas.Map.Lookups.{CmpEqualImpliesEq}
use Rattle.std.proofs.lemmas.Map.Views.{btree_set_contains_iff}
use Rattle.word_shapes.specs.Growing.{Adds, Grows, HasSameMembers}

-- the keys of the set are what is in the list
pub keys_listed : {X : Type 0} {cmp : X → X → Ordering} → IsTotalOrder cmp → CmpEqualImpliesEq cmp → (set : BTreeSet X) (list : List X)
    → HasSameMembers cmp set list → (x : X) → Contains set.keys x ↔ Contains list x
keys_listed total exact set list h x =
    let held = btree_set_contains_iff total exact set x in
    (λ w. (h.same x).0 (held.1 w), λ w. held.0 ((h.same x).1 w))

module _ {X : Type 0} {HasRoom : List X → Type 0} where
  pub kept : {P : X → Type 0} (xs ys : List X) (x : X) → Grows HasRoom P xs ys → Contains xs x → Contains ys x
  kept xs ys x g h = subst (λ t. Contains t x) (sym g.more.1) (Contains-append_left xs g.more.0 x h)

  pub no_shorter : {P : X → Type 0} (xs ys : List X) → Grows HasRoom P xs ys → length xs ≤ length ys
  no_shorter xs ys g =
      let longer : length ys ≡ length xs + length g.more.0 = ap length g.more.1 ∙ length-append xs g.more.0 in
      omega arith

  pub grows_none : (P : X → Type 0) (xs : List X) → ((x : X) → P x → ⊥) → Grows HasRoom P xs xs
  grows_none P xs none = record {
    more = ([], sym (append-nil xs));
    from = λ x h. inl h;
    to = λ room x p. absurd (none x p);
  }

  -- the one that is added is the only one to be added
  pub grows_one : (P : X → Type 0) (xs : List X) (x : X) (ys : List X) → ((y : X) → P y ↔ (x ≡ y))
      → Adds HasRoom xs x ys → Grows HasRoom P xs ys
  grows_one P xs x ys one (inl (same, there)) = record {
    more = ([], same ∙ sym (append-nil xs));
    from = λ y h. inl (subst (λ t. Contains t y) same h);
    to = λ room y p. subst (λ t. Contains t y) (sym same)
        (subst (Contains xs) ((one y).0 p) (there (subst HasRoom same room)));
  }
  grows_one P xs x ys one (inr new) = record {
    more = (x ∷ [], new);
    from = λ y h. ⊎_elim (λ w. inl w) (λ e. inr ((one y).1 e))
        (Contains-push_cases xs x y (subst (λ t. Contains t y) new h));
    to = λ room y p. subst (λ t. Contains t y) (sym new)
        (subst (Contains (xs ++ x ∷ [])) ((one y).0 p) (Contains-push xs x));
  }

  -- first some and then others
  pub grows_on : (P Q R : X → Type 0) (xs ys zs : List X) → ((x : X) → R x ↔ (P x ⊎ Q x))
      → (length ys ≤ length zs → HasRoom zs → HasRoom ys) → Grows HasRoom P xs ys → Grows HasRoom Q ys zs → Grows HasRoom R xs zs
  grows_on P Q R xs ys zs both sooner g h = record {
    more = (g.more.0 ++ h.more.0, h.more.1 ∙ ap (λ t. t ++ h.more.0) g.more.1 ∙ append_assoc xs g.more.0 h.more.0);
    from = λ x w. ⊎_elim
        (λ there. ⊎_elim (λ old. inl old) (λ p. inr ((both x).1 (inl p))) (g.from x there))
        (λ q. inr ((both x).1 (inr q))) (h.from x w);
    to = λ room x r. ⊎_elim (λ p. kept ys zs x h (g.to (sooner (no_shorter ys zs h) room) x p))
        (λ q. h.to room x q) ((both x).0 r);
  }
