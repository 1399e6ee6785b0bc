-- A statement with other destinations of one target.
use Rattle.std.proofs.Common.{◌≡◌, ◌<◌, ℕ, Bool, true, false, cond, nat_eq, List, [], ◌∷◌, Some, None, refl, sym, ap}
use Rattle.std.specs.Prelude.{All}
use Rattle.std.specs.Map.{lookup, set_value}
use Rattle.std.proofs.lemmas.List.Elements.{All-cons, All-head, All-tail}
use Rattle.std.proofs.lemmas.Option.{none-some, same_Some}
use Rattle.bus_ticks.specs.declared.space.TheConstants.{SPACE_END}
use Rattle.statement.specs.Stated.{IsTarget, Target, going_to}

module _ (to : List ℕ) (a : ℕ) where
  abbrev gone : Target → Target
  gone t = record { kind = t.kind; to = to }

  -- a value that is written through what `get_mut` lent
  pub going_is : (es : List (ℕ × Target)) (t : Target) → lookup (nat_eq a) es ≡ Some t → set_value (nat_eq a) es (gone t) ≡ going_to to a es
  going_is [] t h = refl
  going_is (e ∷ es) t h = at (nat_eq a e.0) h (going_is es t)
    where
      at :
          (b : Bool)
          → cond b (Some e.1) (lookup (nat_eq a) es) ≡ Some t
          → (lookup (nat_eq a) es ≡ Some t → set_value (nat_eq a) es (gone t) ≡ going_to to a es)
          → cond b ((e.0, gone t) ∷ es) (e ∷ set_value (nat_eq a) es (gone t)) ≡ cond b ((e.0, gone e.1) ∷ es) (e ∷ going_to to a es)
      at true k rest = ap (λ (v : Target). (e.0, gone v) ∷ es) (sym (same_Some e.1 t k))
      at false k rest = ap (λ (ys : List (ℕ × Target)). e ∷ ys) (rest k)

  pub going_none : (es : List (ℕ × Target)) → lookup (nat_eq a) es ≡ None → es ≡ going_to to a es
  going_none [] h = refl
  going_none (e ∷ es) h = at (nat_eq a e.0) h (going_none es)
    where
      at : (b : Bool) → cond b (Some e.1) (lookup (nat_eq a) es) ≡ None → (lookup (nat_eq a) es ≡ None → es ≡ going_to to a es) → e ∷ es ≡ cond b ((e.0, gone e.1) ∷ es) (e ∷ going_to to a es)
      at true k rest = absurd (none-some e.1 (sym k))
      at false k rest = ap (λ (ys : List (ℕ × Target)). e ∷ ys) (rest k)

  abbrev AreSmall : ℕ × Target → Type 0
  AreSmall t = IsTarget t.1

  pub going_small : All (λ b. b < SPACE_END) to → (es : List (ℕ × Target)) → All AreSmall es → All AreSmall (going_to to a es)
  going_small small [] h = h
  going_small small (e ∷ es) h = at (nat_eq a e.0) (going_small small es (All-tail AreSmall e es h))
    where
      at : (b : Bool) → All AreSmall (going_to to a es) → All AreSmall (cond b ((e.0, gone e.1) ∷ es) (e ∷ going_to to a es))
      at true rest = All-cons AreSmall (e.0, gone e.1) es small (All-tail AreSmall e es h)
      at false rest = All-cons AreSmall e (going_to to a es) (All-head AreSmall e es h) rest
