-- The last element of a list that has a property, by a loop over the list.
use Rattle.std.proofs.Common.{ℕ, ◌+◌, ◌<◌, List, length, take, get_or, Option, Some, None, All, Contains, sym, subst}
use Rattle.std.specs.Option.{MatchOption}
use Rattle.std.proofs.lemmas.List.{take_more}
use Rattle.std.proofs.lemmas.List.Elements.{All-push}

module _ (Has : ℕ → Type 0) (xs : List ℕ) where
  -- none of the list has it, or this element does
  abbrev pub IsFoundIn : List ℕ → Option ℕ → Type 0
  IsFoundIn seen found = MatchOption found (All (λ x. Has x → ⊥) seen) (λ x. Contains xs x × Has x)

  pub passed_over : (n : ℕ) (found : Option ℕ) → n < length xs → (Has (get_or xs n 0) → ⊥)
      → IsFoundIn (take n xs) found → IsFoundIn (take (n + 1) xs) found
  passed_over n None inside not none =
      subst (λ (l : List ℕ). All (λ x. Has x → ⊥) l) (sym (take_more xs n 0 inside))
      (All-push (λ x. Has x → ⊥) (take n xs) (get_or xs n 0) none not)
  passed_over n (Some x) inside not has = has
