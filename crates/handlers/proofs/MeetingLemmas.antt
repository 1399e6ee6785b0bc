-- Along the words of two images side by side, up to the first address that they share.
use Rattle.std.proofs.Common.{◌≡◌, ◌⊎◌, ℕ, zero, suc, ◌+◌, ◌<◌, ◌≤◌, List, [], ◌∷◌, length, drop, map, Option}
use Rattle.std.proofs.Common.{Some, None, refl, sym, subst, inl, inr, ⊎_elim, arith, add-one}
use Rattle.std.specs.Prelude.{IsSome, if◌then◌else◌, Bool}
use Rattle.std.specs.List.{AllByRecursion, slice_get}
use Rattle.std.proofs.lemmas.Bool.{eq-eqb}
use Rattle.std.proofs.lemmas.Bool.Decides.{eqb_tells}
use Rattle.image.specs.Image.{Words, word_of}
use Rattle.image.specs.Inside.{Ascends}
use Rattle.handlers.specs.Meeting.{IsFirstShared, MeetAt}

-- ## A word in front of others

in_front : (e : ℕ × ℕ) (rest : Words) (a : ℕ) → IsSome (word_of (e ∷ rest) a) → (e.0 ≡ a)
    ⊎ IsSome (word_of rest a)
in_front e rest a has =
    ⊎_elim
    (λ same. inl same.1)
    (λ other. inr (subst (λ (b : Bool). IsSome (if b then Some e.1 else word_of rest a)) other.0 has))
    (eqb_tells e.0 a)

at_front : (e : ℕ × ℕ) (rest : Words) (a : ℕ) → e.0 ≡ a → IsSome (word_of (e ∷ rest) a)
at_front e rest a same = subst (λ (b : Bool). IsSome (if b then Some e.1 else word_of rest a))
    (sym (eq-eqb e.0 a same)) refl

behind : (e : ℕ × ℕ) (rest : Words) (a : ℕ) → IsSome (word_of rest a) → IsSome (word_of (e ∷ rest) a)
behind e rest a has =
    ⊎_elim
    (λ same. at_front e rest a same.1)
    (λ other. subst (λ (b : Bool). IsSome (if b then Some e.1 else word_of rest a)) (sym other.0) has)
    (eqb_tells e.0 a)

above : (low a : ℕ) (words : Words) → AllByRecursion (λ f. low < f.0) words → IsSome (word_of words a)
    → low < a
above low a [] all has = absurd cc
above low a (e ∷ rest) all has =
    ⊎_elim (λ same. subst (λ n. low < n) same all.0) (λ more. above low a rest all.1 more)
    (in_front e rest a has)

-- ## The word of a number

-- the address of the word of this number
abbrev pub IsNth : Words → ℕ → ℕ → Type 0
IsNth words n address = Some address ≡ slice_get (map (λ e. e.0) words) n

pub within : (words : Words) (n address : ℕ) → IsNth words n address → n < length words
within [] n address nth = absurd cc
within (e ∷ rest) zero address nth = omega arith
within (e ∷ rest) (suc n) address nth = let lt = within rest n address nth in omega (arith, lt)

is_held : (words : Words) (n address : ℕ) → IsNth words n address → IsSome (word_of words address)
is_held [] n address nth = absurd cc
is_held (e ∷ rest) zero address nth = let same : address ≡ e.0 = cc nth in at_front e rest address (sym same)
is_held (e ∷ rest) (suc n) address nth = behind e rest address (is_held rest n address nth)

-- no address from there on is less
least : (words : Words) (n address a : ℕ) → IsNth words n address → Ascends words
    → IsSome (word_of (drop n words) a) → address ≤ a
least [] n address a nth up has = absurd cc
least (e ∷ rest) zero address a nth up has =
    let same : address ≡ e.0 = cc nth in
    ⊎_elim
    (λ is. let le : address ≤ a = omega (arith, same, is) in le)
    (λ more. let lt = above e.0 a rest up.0 more in let le : address ≤ a = omega (arith, same, lt) in le)
    (in_front e rest a has)
least (e ∷ rest) (suc n) address a nth up has = least rest n address a nth up.1 has

-- another address from there on is behind it
next : (words : Words) (n address a : ℕ) → IsNth words n address → (address ≡ a → ⊥)
    → IsSome (word_of (drop n words) a) → IsSome (word_of (drop (suc n) words) a)
next [] n address a nth other has = absurd cc
next (e ∷ rest) zero address a nth other has =
    let same : address ≡ e.0 = cc nth in
    ⊎_elim (λ is. let hit : address ≡ a = omega (arith, same, is) in absurd (other hit)) (λ more. more)
    (in_front e rest a has)
next (e ∷ rest) (suc n) address a nth other has = next rest n address a nth other has

ended : (words : Words) (n a : ℕ) → None ≡ slice_get (map (λ e. e.0) words) n
    → IsSome (word_of (drop n words) a) → ⊥
ended [] zero a none has = cc
ended [] (suc n) a none has = cc
ended (e ∷ rest) zero a none has = cc
ended (e ∷ rest) (suc n) a none has = ended rest n a none has

-- ## Both

-- each address that both have is ahead in both
pub record AreAhead (words others : Words) (here there : ℕ) : Type 0 where
  pub ahead : (a : ℕ) → MeetAt words others a → IsSome (word_of (drop here words) a)
      × IsSome (word_of (drop there others) a)

module _ (words others : Words) where
  pub all_ahead : AreAhead words others 0 0
  all_ahead = record { ahead = λ a both. both }

  module _ (here there : ℕ) (ahead : AreAhead words others here there) where
    pub none_here : None ≡ slice_get (map (λ e. e.0) words) here → IsFirstShared words others None
    none_here none = λ a both. ended words here a none (ahead.ahead a both).0

    pub none_there : None ≡ slice_get (map (λ e. e.0) others) there → IsFirstShared words others None
    none_there none = λ a both. ended others there a none (ahead.ahead a both).1

    module _ (address other : ℕ) (nth : IsNth words here address) (nth_other : IsNth others there other) where
      pub is_shared : Ascends words → address ≡ other → IsFirstShared words others (Some address)
      is_shared up same = (
        (
          is_held words here address nth,
          subst (λ a. IsSome (word_of others a)) (sym same)
              (is_held others there other nth_other),
        ),
        λ a both. least words here address a nth up (ahead.ahead a both).0,
      )

      pub past_here : Ascends others → address < other → AreAhead words others (here + 1) there
      past_here up lt = subst (λ n. AreAhead words others n there) (sym (add-one here)) (record {
        ahead = λ a both.
            let old = ahead.ahead a both in
            let le = least others there other a nth_other up old.1 in
            (next words here address a nth (λ is. absurd (omega (arith, is, lt, le))) old.0, old.1);
      })

      pub past_there : Ascends words → other < address → AreAhead words others here (there + 1)
      past_there up lt = subst (λ n. AreAhead words others here n) (sym (add-one there)) (record {
        ahead = λ a both.
            let old = ahead.ahead a both in
            let le = least words here address a nth up old.0 in
            (old.0, next others there other a nth_other (λ is. absurd (omega (arith, is, lt, le))) old.1);
      })
