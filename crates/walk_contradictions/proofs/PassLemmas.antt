-- What outcomes are carried along walks, in either direction, and where they clash.
use Rattle.std.proofs.Common.{◌≡◌, ℕ, zero, suc, ◌⊎◌, inl, inr, List, [], ◌∷◌, ◌++◌, append-nil, refl, sym, subst}
use Rattle.std.proofs.lemmas.List.Elements.{All-cons, All-head, All-nil, All-tail}
use Rattle.std.specs.List.{repeat}
use Rattle.control_flow.specs.declared.edges.Edge.{Edge}
use Rattle.image.specs.Image.{Words}
use Rattle.walk_contradictions.specs.Outcomes.{MaySet, NoneSets}
use Rattle.walk_contradictions.specs.Passing.{After, Clashes, Marks, Met, Next}
use Rattle.walk_contradictions.specs.declared.outcomes.Outcome.{Outcome}
use Rattle.walk_contradictions.specs.declared.passing.Direction.{Direction}
use Rattle.walk_contradictions.specs.declared.passing.Direction.TheVariants.{Forward, Backward}

abbrev pub Set : Type 1
Set = Outcome → Type 0

abbrev pub Within : Set → Set → Type 0
Within B C = (o : Outcome) → B o → C o

abbrev pub Nothing : Set
Nothing o = ⊥

abbrev pub Either : Set → Set → Set
Either B C o = B o ⊎ C o

module _ (words : Words) where
  -- ## One edge

  pub next_wider : (d : Direction) (e : Edge) (B C : Set) → Within B C → Within (Next words d e B) (Next words d e C)
  next_wider Forward e B C more o (free, inl b) = (free, inl (more o b))
  next_wider Forward e B C more o (free, inr t) = (free, inr t)
  next_wider Backward e B C more o (inl (free, b)) = inl (free, more o b)
  next_wider Backward e B C more o (inr t) = inr t

  met_wider : (d : Direction) (e : Edge) (B C : Set) → Within B C → Within (Met words d e B) (Met words d e C)
  met_wider Forward e B C more o b = more o b
  met_wider Backward e B C more o (free, b) = (free, more o b)

  pub clash_wider : (d : Direction) (e : Edge) (B C : Set) → Within B C → Clashes words d e B → Clashes words d e C
  clash_wider d e B C more c = record {
    one = c.one;
    other = c.other;
    met = met_wider d e B C more c.one c.met;
    tells = c.tells;
    excluded = c.excluded;
  }

  next_either : (d : Direction) (e : Edge) (B C : Set) → Within (Next words d e (Either B C)) (Either (Next words d e B) (Next words d e C))
  next_either Forward e B C o (free, inl (inl b)) = inl (free, inl b)
  next_either Forward e B C o (free, inl (inr c)) = inr (free, inl c)
  next_either Forward e B C o (free, inr t) = inl (free, inr t)
  next_either Backward e B C o (inl (free, inl b)) = inl (inl (free, b))
  next_either Backward e B C o (inl (free, inr c)) = inr (inl (free, c))
  next_either Backward e B C o (inr t) = inl (inr t)

  met_either : (d : Direction) (e : Edge) (B C : Set) → Within (Met words d e (Either B C)) (Either (Met words d e B) (Met words d e C))
  met_either Forward e B C o b = b
  met_either Backward e B C o (free, inl b) = inl (free, b)
  met_either Backward e B C o (free, inr c) = inr (free, c)

  clash_either : (d : Direction) (e : Edge) (B C : Set) → Clashes words d e (Either B C) → Clashes words d e B ⊎ Clashes words d e C
  clash_either d e B C c = by_case (met_either d e B C c.one c.met)
    where
      by_case : Met words d e B c.one ⊎ Met words d e C c.one → Clashes words d e B ⊎ Clashes words d e C
      by_case (inl m) = inl (record { one = c.one; other = c.other; met = m; tells = c.tells; excluded = c.excluded })
      by_case (inr m) = inr (record { one = c.one; other = c.other; met = m; tells = c.tells; excluded = c.excluded })

  next_free : (d : Direction) (e : Edge) (B : Set) → (MaySet words e → ⊥) → Within B (Next words d e B)
  next_free Forward e B free o b = (free, inl b)
  next_free Backward e B free o b = inl (free, b)

  next_parts : (d : Direction) (e : Edge) (B : Set) (o : Outcome) → Next words d e B o → ((MaySet words e → ⊥) × B o) ⊎ Next words d e Nothing o
  next_parts Forward e B o (free, inl b) = inl (free, b)
  next_parts Forward e B o (free, inr t) = inr (free, inr t)
  next_parts Backward e B o (inl b) = inl b
  next_parts Backward e B o (inr t) = inr (inr t)

  module _ (d : Direction) where
    -- ## Walks

    pub after_wider : (w : List Edge) (B C : Set) → Within B C → Within (After words d w B) (After words d w C)
    after_wider [] B C more o b = more o b
    after_wider (e ∷ w) B C more o b = after_wider w (Next words d e B) (Next words d e C) (next_wider d e B C more) o b

    pub marks_wider : (w : List Edge) (B C : Set) → Within B C → (a : ℕ) → Marks words d w B a → Marks words d w C a
    marks_wider [] B C more a m = m
    marks_wider (e ∷ w) B C more a (inl (is, c)) = inl (is, clash_wider d e B C more c)
    marks_wider (e ∷ w) B C more a (inr m) = inr (marks_wider w (Next words d e B) (Next words d e C) (next_wider d e B C more) a m)

    pub after_append : (v w : List Edge) (B : Set) (o : Outcome) → After words d (v ++ w) B o ≡ After words d w (After words d v B) o
    after_append [] w B o = refl
    after_append (e ∷ v) w B o = after_append v w (Next words d e B) o

    pub marks_front : (v w : List Edge) (B : Set) (a : ℕ) → Marks words d v B a → Marks words d (v ++ w) B a
    marks_front [] w B a m = absurd m
    marks_front (e ∷ v) w B a (inl m) = inl m
    marks_front (e ∷ v) w B a (inr m) = inr (marks_front v w (Next words d e B) a m)

    pub marks_back : (v w : List Edge) (B : Set) (a : ℕ) → Marks words d w (After words d v B) a → Marks words d (v ++ w) B a
    marks_back [] w B a m = m
    marks_back (e ∷ v) w B a m = inr (marks_back v w (Next words d e B) a m)

    pub marks_split : (v w : List Edge) (B : Set) (a : ℕ) → Marks words d (v ++ w) B a → Marks words d v B a ⊎ Marks words d w (After words d v B) a
    marks_split [] w B a m = inr m
    marks_split (e ∷ v) w B a (inl m) = inl (inl m)
    marks_split (e ∷ v) w B a (inr m) = by_case (marks_split v w (Next words d e B) a m)
      where
        by_case : Marks words d v (Next words d e B) a ⊎ Marks words d w (After words d v (Next words d e B)) a
            → Marks words d (e ∷ v) B a ⊎ Marks words d w (After words d (e ∷ v) B) a
        by_case (inl x) = inl (inr x)
        by_case (inr x) = inr x

    pub marks_either : (w : List Edge) (B C : Set) (a : ℕ) → Marks words d w (Either B C) a → Marks words d w B a ⊎ Marks words d w C a
    marks_either [] B C a m = absurd m
    marks_either (e ∷ w) B C a (inl (is, c)) = by_case (clash_either d e B C c)
      where
        by_case : Clashes words d e B ⊎ Clashes words d e C → Marks words d (e ∷ w) B a ⊎ Marks words d (e ∷ w) C a
        by_case (inl x) = inl (inl (is, x))
        by_case (inr x) = inr (inl (is, x))
    marks_either (e ∷ w) B C a (inr m) =
        by_case (marks_either w (Next words d e B) (Next words d e C) a
        (marks_wider w (Next words d e (Either B C)) (Either (Next words d e B) (Next words d e C)) (next_either d e B C) a m))
      where
        by_case : Marks words d w (Next words d e B) a ⊎ Marks words d w (Next words d e C) a → Marks words d (e ∷ w) B a ⊎ Marks words d (e ∷ w) C a
        by_case (inl x) = inl (inr x)
        by_case (inr x) = inr (inr x)

    -- what was there stays where no word sets the flags
    pub after_to : (w : List Edge) (B : Set) → NoneSets words w → Within B (After words d w B)
    after_to [] B none o b = b
    after_to (e ∷ w) B none o b =
        after_to w (Next words d e B) (All-tail (λ (x : Edge). MaySet words x → ⊥) e w none) o
        (next_free d e B (All-head (λ (x : Edge). MaySet words x → ⊥) e w none) o b)

    -- and the rest comes from the walk
    pub after_from : (w : List Edge) (B : Set) (o : Outcome) → After words d w B o → (NoneSets words w × B o) ⊎ After words d w Nothing o
    after_from [] B o b = inl (All-nil (λ (x : Edge). MaySet words x → ⊥), b)
    after_from (e ∷ w) B o b = by_case (after_from w (Next words d e B) o b)
      where
        by_parts : NoneSets words w → ((MaySet words e → ⊥) × B o) ⊎ Next words d e Nothing o → (NoneSets words (e ∷ w) × B o) ⊎ After words d (e ∷ w) Nothing o
        by_parts none (inl (free, x)) = inl (All-cons (λ (x : Edge). MaySet words x → ⊥) e w free none, x)
        by_parts none (inr n) = inr (after_to w (Next words d e Nothing) none o n)

        by_case : (NoneSets words w × Next words d e B o) ⊎ After words d w Nothing o → (NoneSets words (e ∷ w) × B o) ⊎ After words d (e ∷ w) Nothing o
        by_case (inl (none, x)) = by_parts none (next_parts d e B o x)
        by_case (inr x) = inr (after_wider w Nothing (Next words d e Nothing) (λ (p : Outcome) (n : Nothing p). absurd n) o x)

    after_any : (w : List Edge) (B : Set) → Within (After words d w Nothing) (After words d w B)
    after_any w B = after_wider w Nothing B (λ (p : Outcome) (n : Nothing p). absurd n)

    -- ## Rounds

    -- once is as good as twice
    pub after_again : (w : List Edge) (B : Set) → Within (After words d w (After words d w B)) (After words d w B)
    after_again w B o b = by_case (after_from w (After words d w B) o b)
      where
        by_case : (NoneSets words w × After words d w B o) ⊎ After words d w Nothing o → After words d w B o
        by_case (inl x) = x.1
        by_case (inr x) = after_any w B o x

    pub after_twice : (w : List Edge) (B : Set) → Within (After words d w B) (After words d w (After words d w B))
    after_twice w B o b = by_case (after_from w B o b)
      where
        by_case : (NoneSets words w × B o) ⊎ After words d w Nothing o → After words d w (After words d w B) o
        by_case (inl (none, x)) = after_to w (After words d w B) none o (after_to w B none o x)
        by_case (inr x) = after_any w (After words d w B) o x

    pub after_rounds : (k : ℕ) (w : List Edge) (B : Set) → Within (After words d w B) (After words d (repeat (suc k) w) B)
    after_rounds zero w B o b = subst (λ (x : List Edge). After words d x B o) (sym (append-nil w)) b
    after_rounds (suc k) w B o b =
        subst (λ (T : Type 0). T) (sym (after_append w (repeat (suc k) w) B o)) (after_rounds k w (After words d w B) o (after_twice w B o b))

    pub after_rounds_only : (k : ℕ) (w : List Edge) (B : Set) → Within (After words d (repeat (suc k) w) B) (After words d w B)
    after_rounds_only zero w B o b = subst (λ (x : List Edge). After words d x B o) (append-nil w) b
    after_rounds_only (suc k) w B o b =
        after_again w B o (after_rounds_only k w (After words d w B) o (subst (λ (T : Type 0). T) (after_append w (repeat (suc k) w) B o) b))

    pub marks_once : (k : ℕ) (w : List Edge) (B : Set) (a : ℕ) → Marks words d w B a → Marks words d (repeat (suc k) w) B a
    marks_once k w B a m = marks_front w (repeat k w) B a m

    pub marks_later : (k : ℕ) (w : List Edge) (B : Set) (a : ℕ) → Marks words d w (After words d w B) a → Marks words d (repeat (suc (suc k)) w) B a
    marks_later k w B a m = marks_back w (repeat (suc k) w) B a (marks_once k w (After words d w B) a m)

    pub marks_rounds : (k : ℕ) (w : List Edge) (B : Set) (a : ℕ) → Marks words d (repeat (suc k) w) B a → Marks words d w B a ⊎ Marks words d w (After words d w B) a
    marks_rounds zero w B a m = inl (subst (λ (x : List Edge). Marks words d x B a) (append-nil w) m)
    marks_rounds (suc k) w B a m = by_split (marks_rounds k w (After words d w B) a) (marks_split w (repeat (suc k) w) B a m)
      where
        by_rest : Marks words d w (After words d w B) a ⊎ Marks words d w (After words d w (After words d w B)) a → Marks words d w B a ⊎ Marks words d w (After words d w B) a
        by_rest (inl x) = inr x
        by_rest (inr x) = inr (marks_wider w (After words d w (After words d w B)) (After words d w B) (after_again w B) a x)

        by_split : (Marks words d (repeat (suc k) w) (After words d w B) a → Marks words d w (After words d w B) a ⊎ Marks words d w (After words d w (After words d w B)) a)
            → Marks words d w B a ⊎ Marks words d (repeat (suc k) w) (After words d w B) a → Marks words d w B a ⊎ Marks words d w (After words d w B) a
        by_split rest (inl x) = inl x
        by_split rest (inr x) = by_rest (rest x)
