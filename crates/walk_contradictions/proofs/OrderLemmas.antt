-- The two orders in which a folded walk is gone through, and what is noted item by item.
use Rattle.std.proofs.Common.{◌≡◌, ◌∙◌, ℕ, zero, suc, ◌+◌, ◌-◌, ◌<◌, ◌≤◌, ◌≢◌, ◌⊎◌, inl, inr, ⊎_elim, Bool, true, List, [], ◌∷◌, ◌++◌, append-nil, append_assoc, reverse, length, get_or, take, flat_map, refl, sym, ap, subst, arith, Vec}
use Rattle.std.specs.Prelude.{◌↔◌}
use Rattle.std.proofs.lemmas.List.{get_or_default, length-reverse, reverse-append, take_more, take_all}
use Rattle.std.proofs.lemmas.Bool.{cases_eq}
use Rattle.std.proofs.lemmas.List.Concat.{flat_map-cons}
use Rattle.std.proofs.lemmas.List.Folds.{flat_map-map}
use Rattle.std.proofs.lemmas.Grind.{flat_map-append}
use Rattle.std.specs.List.{repeat}
use Rattle.std.specs.Global.{Global}
use Rattle.std.specs.declared.rc.Rc.{Rc}
use Rattle.control_flow.specs.declared.edges.Edge.{Edge}
use Rattle.image.specs.Image.{Words}
use Rattle.longest_walk.specs.Folded.{Opened, open_item, unfolded}
use Rattle.longest_walk.specs.declared.folded.Item.{Item}
use Rattle.longest_walk.specs.declared.folded.Item.TheVariants.{Step, Repeat}
use Rattle.longest_walk.proofs.Opening.{open-repeat, open-step}
use Rattle.text_explained.specs.Taken.{is_at}
use Rattle.walk_contradictions.specs.Passing.{After, Clashes, Has, In, Marks, Next, Notes, in_order, walk_of}
use Rattle.walk_contradictions.specs.declared.outcomes.Outcomes.{Outcomes}
use Rattle.walk_contradictions.specs.declared.passing.Direction.{Direction}
use Rattle.walk_contradictions.specs.declared.passing.Direction.TheVariants.{Forward, Backward}
use Rattle.walk_contradictions.proofs.PassLemmas.{Either, Set, after_append, after_rounds, after_rounds_only, after_wider, marks_back, marks_either, marks_front, marks_later, marks_once, marks_rounds, marks_split, marks_wider}

-- ## Orders

reverse_flat : {X A : Type 0} (f : X → List A) (xs : List X) → flat_map (λ x. reverse (f x)) (reverse xs) ≡ reverse (flat_map f xs)
reverse_flat f [] = refl
reverse_flat f (x ∷ xs) =
    ap (flat_map (λ x. reverse (f x))) (reverse-append (x ∷ []) xs)
    ∙ flat_map-append (λ x. reverse (f x)) (reverse xs) (x ∷ [])
    ∙ ap (λ ys. ys ++ flat_map (λ x. reverse (f x)) (x ∷ [])) (reverse_flat f xs)
    ∙ ap (λ ys. reverse (flat_map f xs) ++ ys) (flat_map-cons (λ x. reverse (f x)) x [] ∙ append-nil (reverse (f x)))
    ∙ sym (reverse-append (f x) (flat_map f xs))
    ∙ ap reverse (sym (flat_map-cons f x xs))

pub all_in_order : (d : Direction) (items : List Item) → flat_map (walk_of d) (in_order d items) ≡ in_order d (unfolded items)
all_in_order Forward items = sym (flat_map-map (λ (o : Opened). o.walk) open_item items)
all_in_order Backward items =
    reverse_flat (λ (i : Item). (open_item i).walk) items ∙ ap reverse (sym (flat_map-map (λ (o : Opened). o.walk) open_item items))

pub length_in_order : (d : Direction) (items : List Item) → length (in_order d items) ≡ length items
length_in_order Forward items = refl
length_in_order Backward items = length-reverse items

repeat_last : {A : Type 0} (k : ℕ) (w : List A) → repeat k w ++ w ≡ w ++ repeat k w
repeat_last zero w = sym (append-nil w)
repeat_last (suc k) w = append_assoc w (repeat k w) w ∙ ap (λ x. w ++ x) (repeat_last k w)

pub rounds_in_order : (d : Direction) (k : ℕ) (w : List Edge) → in_order d (repeat k w) ≡ repeat k (in_order d w)
rounds_in_order Forward k w = refl
rounds_in_order Backward zero w = refl
rounds_in_order Backward (suc k) w =
    reverse-append w (repeat k w) ∙ ap (λ x. x ++ reverse w) (rounds_in_order Backward k w) ∙ repeat_last k (reverse w)

pub step_walk : (d : Direction) (item : Item) (e : Edge) → item ≡ Step e → walk_of d item ≡ e ∷ []
step_walk d item e is = ap (λ (i : Item). in_order d (open_item i).walk) is ∙ ap (λ (o : Opened). in_order d o.walk) (open-step e) ∙ one d
  where
    one : (d : Direction) → in_order d (e ∷ []) ≡ e ∷ []
    one Forward = refl
    one Backward = refl

pub rounds_walk : (d : Direction) (item : Item) (k : ℕ) (body : Rc (Vec Item Global) Global) (items : List Item) → item ≡ Repeat k body → items ≡ body.value.items
    → walk_of d item ≡ repeat k (in_order d (unfolded items))
rounds_walk d item k body items is are =
    ap (λ (i : Item). in_order d (open_item i).walk) is ∙ ap (λ (o : Opened). in_order d o.walk) (open-repeat k body)
    ∙ rounds_in_order d k (unfolded body.value.items) ∙ ap (λ (xs : List Item). repeat k (in_order d (unfolded xs))) (sym are)

-- one item more
pub one_more : (d : Direction) (items : List Item) (k : ℕ) (e : Item) → k < length items
    → flat_map (walk_of d) (take (k + 1) items) ≡ flat_map (walk_of d) (take k items) ++ walk_of d (get_or items k e)
one_more d items k e lt =
    ap (flat_map (walk_of d)) (take_more items k e lt) ∙ flat_map-append (walk_of d) (take k items) (get_or items k e ∷ [])
    ∙ ap (λ x. flat_map (walk_of d) (take k items) ++ x) (flat_map-cons (walk_of d) (get_or items k e) [] ∙ append-nil (walk_of d (get_or items k e)))

pub found_there : (d : Direction) (items : List Item) (place k : ℕ) (item : Item) → place < length items
    → ((e : Item) → get_or items place e ≡ get_or (in_order d items) k e) → item ≡ get_or items place item → (e : Item) → item ≡ get_or (in_order d items) k e
found_there d items place k item inside same is e = is ∙ get_or_default items place item e inside ∙ same e

module _ (words : Words) (d : Direction) where
  -- ## Sets

  pub has_more : (v w : List Edge) (B : Set) (set new : Outcomes) → Has set (After words d v B) → Has new (After words d w (In set)) → Has new (After words d (v ++ w) B)
  has_more v w B set new h more o = (
    λ i. subst (λ (T : Type 0). T) (sym (after_append words d v w B o)) (after_wider words d w (In set) (After words d v B) (λ p x. (h p).0 x) o ((more o).0 i)),
    λ a. (more o).1 (after_wider words d w (After words d v B) (In set) (λ p x. (h p).1 x) o (subst (λ (T : Type 0). T) (after_append words d v w B o) a)),
  )

  pub has_rounds : (k : ℕ) (w : List Edge) (B : Set) (new : Outcomes) → Has new (After words d w B) → Has new (After words d (repeat (suc k) w) B)
  has_rounds k w B new h o = (λ i. after_rounds words d k w B o ((h o).0 i), λ a. (h o).1 (after_rounds_only words d k w B o a))

  pub has_some_rounds : (k : ℕ) (w : List Edge) (B : Set) (new : Outcomes) → 0 < k → Has new (After words d w B) → Has new (After words d (repeat k w) B)
  has_some_rounds k w B new some h = subst (λ n. Has new (After words d (repeat n w) B)) (sym (positive k some)) (has_rounds (k - 1) w B new h)
    where
      positive : (n : ℕ) → 0 < n → n ≡ suc (n - 1)
      positive n lt = omega (arith, lt)

  -- ## Addresses

  pub notes_none : (B : Set) (old : ℕ → Bool) → Notes (Marks words d [] B) old old
  notes_none B old a = (λ x. inl x, λ x. ⊎_elim (λ (y : old a ≡ true). y) (λ (n : Marks words d [] B a). absurd n) x)

  pub notes_more : (v w : List Edge) (B : Set) (set : Outcomes) (old mid new : ℕ → Bool) → Notes (Marks words d v B) old mid → Has set (After words d v B)
      → Notes (Marks words d w (In set)) mid new → Notes (Marks words d (v ++ w) B) old new
  notes_more v w B set old mid new one h two a = (to, from)
    where
      of_front : (old a ≡ true) ⊎ Marks words d v B a → (old a ≡ true) ⊎ Marks words d (v ++ w) B a
      of_front (inl x) = inl x
      of_front (inr m) = inr (marks_front words d v w B a m)

      of_both : (mid a ≡ true) ⊎ Marks words d w (In set) a → (old a ≡ true) ⊎ Marks words d (v ++ w) B a
      of_both (inl x) = of_front ((one a).0 x)
      of_both (inr m) = inr (marks_back words d v w B a (marks_wider words d w (In set) (After words d v B) (λ p x. (h p).0 x) a m))

      to : new a ≡ true → (old a ≡ true) ⊎ Marks words d (v ++ w) B a
      to x = of_both ((two a).0 x)

      by_split : Marks words d v B a ⊎ Marks words d w (After words d v B) a → new a ≡ true
      by_split (inl m) = (two a).1 (inl ((one a).1 (inr m)))
      by_split (inr m) = (two a).1 (inr (marks_wider words d w (After words d v B) (In set) (λ p x. (h p).1 x) a m))

      from : (old a ≡ true) ⊎ Marks words d (v ++ w) B a → new a ≡ true
      from (inl x) = (two a).1 (inl ((one a).1 (inl x)))
      from (inr m) = by_split (marks_split words d v w B a m)

  -- ## Rounds

  pub notes_once : (w : List Edge) (set before : Outcomes) (old new : ℕ → Bool) → Has before (In set) → Notes (Marks words d w (In before)) old new
      → Notes (Marks words d (repeat 1 w) (In set)) old new
  notes_once w set before old new same notes a = (
    λ x. ⊎_elim (λ (y : old a ≡ true). inl y)
        (λ (m : Marks words d w (In before) a). inr (subst (λ (v : List Edge). Marks words d v (In set) a) (sym (append-nil w)) (marks_wider words d w (In before) (In set) (λ p y. (same p).0 y) a m)))
        ((notes a).0 x),
    λ x. (notes a).1 (⊎_elim (λ (y : old a ≡ true). inl y)
        (λ (m : Marks words d (repeat 1 w) (In set) a). inr (marks_wider words d w (In set) (In before) (λ p y. (same p).1 y) a (subst (λ (v : List Edge). Marks words d v (In set) a) (append-nil w) m)))
        x),
  )

  pub notes_rounds : (k : ℕ) (w : List Edge) (set after before : Outcomes) (old new : ℕ → Bool) → Has after (After words d w (In set)) → Has before (Either (In set) (In after))
      → Notes (Marks words d w (In before)) old new → Notes (Marks words d (repeat (suc (suc k)) w) (In set)) old new
  notes_rounds k w set after before old new later either notes a = (to, from)
    where
      rounds : List Edge
      rounds = repeat (suc (suc k)) w

      by_either : Marks words d w (In set) a ⊎ Marks words d w (In after) a → Marks words d rounds (In set) a
      by_either (inl m) = marks_once words d (suc k) w (In set) a m
      by_either (inr m) = marks_later words d k w (In set) a (marks_wider words d w (In after) (After words d w (In set)) (λ p x. (later p).0 x) a m)

      marked : (old a ≡ true) ⊎ Marks words d w (In before) a → (old a ≡ true) ⊎ Marks words d rounds (In set) a
      marked (inl x) = inl x
      marked (inr m) =
          inr (by_either (marks_either words d w (In set) (In after) a (marks_wider words d w (In before) (Either (In set) (In after)) (λ p x. (either p).0 x) a m)))

      to : new a ≡ true → (old a ≡ true) ⊎ Marks words d rounds (In set) a
      to x = marked ((notes a).0 x)

      by_rounds : Marks words d w (In set) a ⊎ Marks words d w (After words d w (In set)) a → Marks words d w (In before) a
      by_rounds (inl m) = marks_wider words d w (In set) (In before) (λ p x. (either p).1 (inl x)) a m
      by_rounds (inr m) = marks_wider words d w (After words d w (In set)) (In before) (λ p x. (either p).1 (inr ((later p).1 x))) a m

      from : (old a ≡ true) ⊎ Marks words d rounds (In set) a → new a ≡ true
      from (inl x) = (notes a).1 (inl x)
      from (inr m) = (notes a).1 (inr (by_rounds (marks_rounds words d (suc k) w (In set) a m)))

  -- ## Loops

  module _ (items : List Item) (B : Set) (k : ℕ) (item : Item) (lt : k < length items)
      (is : (e : Item) → item ≡ get_or (in_order d items) k e) where
    abbrev front : List Edge
    front = flat_map (walk_of d) (take k (in_order d items))

    more : flat_map (walk_of d) (take (k + 1) (in_order d items)) ≡ front ++ walk_of d item
    more =
        one_more d (in_order d items) k item (subst (λ n. k < n) (sym (length_in_order d items)) lt)
        ∙ ap (λ (i : Item). front ++ walk_of d i) (sym (is item))

    pub passed_more : (set new : Outcomes) → Has set (After words d front B) → Has new (After words d (walk_of d item) (In set))
        → Has new (After words d (flat_map (walk_of d) (take (k + 1) (in_order d items))) B)
    passed_more set new h after = subst (λ (w : List Edge). Has new (After words d w B)) (sym more) (has_more front (walk_of d item) B set new h after)

    pub noted_more : (set : Outcomes) (old mid new : ℕ → Bool) → Notes (Marks words d front B) old mid → Has set (After words d front B)
        → Notes (Marks words d (walk_of d item) (In set)) mid new
        → Notes (Marks words d (flat_map (walk_of d) (take (k + 1) (in_order d items))) B) old new
    noted_more set old mid new one h two =
        subst (λ (w : List Edge). Notes (Marks words d w B) old new) (sym more) (notes_more front (walk_of d item) B set old mid new one h two)

  whole : (items : List Item) (k : ℕ) → length items ≤ k → flat_map (walk_of d) (take k (in_order d items)) ≡ in_order d (unfolded items)
  whole items k all =
      ap (flat_map (walk_of d)) (take_all k (in_order d items) (subst (λ n. n ≤ k) (sym (length_in_order d items)) all)) ∙ all_in_order d items

  pub passed_all : (items : List Item) (B : Set) (k : ℕ) (set : Outcomes) → length items ≤ k
      → Has set (After words d (flat_map (walk_of d) (take k (in_order d items))) B) → Has set (After words d (in_order d (unfolded items)) B)
  passed_all items B k set all h = subst (λ (w : List Edge). Has set (After words d w B)) (whole items k all) h

  pub noted_all : (items : List Item) (B : Set) (k : ℕ) (old new : ℕ → Bool) → length items ≤ k
      → Notes (Marks words d (flat_map (walk_of d) (take k (in_order d items))) B) old new → Notes (Marks words d (in_order d (unfolded items)) B) old new
  noted_all items B k old new all notes = subst (λ (w : List Edge). Notes (Marks words d w B) old new) (whole items k all) notes

  -- ## Items

  pub passed_step : (item : Item) (e : Edge) (B : Set) (set : Outcomes) → item ≡ Step e → Has set (Next words d e B) → Has set (After words d (walk_of d item) B)
  passed_step item e B set is h = subst (λ (w : List Edge). Has set (After words d w B)) (sym (step_walk d item e is)) h

  pub noted_step : (item : Item) (e : Edge) (B : Set) (old new : ℕ → Bool) → item ≡ Step e
      → ((a : ℕ) → (new a ≡ true) ↔ ((old a ≡ true) ⊎ ((is_at a e.from ≡ true) × Clashes words d e B))) → Notes (Marks words d (walk_of d item) B) old new
  noted_step item e B old new is notes =
      subst (λ (w : List Edge). Notes (Marks words d w B) old new) (sym (step_walk d item e is))
      (λ a. (λ x. to a ((notes a).0 x), λ x. (notes a).1 (from a x)))
    where
      to : (a : ℕ) → (old a ≡ true) ⊎ ((is_at a e.from ≡ true) × Clashes words d e B) → (old a ≡ true) ⊎ Marks words d (e ∷ []) B a
      to a (inl x) = inl x
      to a (inr c) = inr (inl c)

      from : (a : ℕ) → (old a ≡ true) ⊎ Marks words d (e ∷ []) B a → (old a ≡ true) ⊎ ((is_at a e.from ≡ true) × Clashes words d e B)
      from a (inl x) = inl x
      from a (inr (inl c)) = inr c
      from a (inr (inr n)) = absurd n

  module _ (item : Item) (k : ℕ) (body : Rc (Vec Item Global) Global) (items : List Item) (is : item ≡ Repeat k body) (are : items ≡ body.value.items) where
    pub passed_none : (set : Outcomes) → k ≡ 0 → Has set (After words d (walk_of d item) (In set))
    passed_none set none =
        subst (λ (w : List Edge). Has set (After words d w (In set))) (sym (rounds_walk d item k body items is are ∙ ap (λ n. repeat n (in_order d (unfolded items))) none))
        (λ o. (λ i. i, λ i. i))

    pub passed_repeat : (B : Set) (set : Outcomes) → Has set (After words d (repeat k (in_order d (unfolded items))) B) → Has set (After words d (walk_of d item) B)
    passed_repeat B set h = subst (λ (w : List Edge). Has set (After words d w B)) (sym (rounds_walk d item k body items is are)) h

    pub passed_rounds : (B : Set) (set : Outcomes) → 0 < k → Has set (After words d (in_order d (unfolded items)) B) → Has set (After words d (walk_of d item) B)
    passed_rounds B set some h = passed_repeat B set (has_some_rounds k (in_order d (unfolded items)) B set some h)

    pub noted_rounds : (B : Set) (old new : ℕ → Bool) → Notes (Marks words d (repeat k (in_order d (unfolded items))) B) old new → Notes (Marks words d (walk_of d item) B) old new
    noted_rounds B old new notes = subst (λ (w : List Edge). Notes (Marks words d w B) old new) (sym (rounds_walk d item k body items is are)) notes

  pub rounds_noted : (k : ℕ) (w : List Edge) (set after before : Outcomes) (old new : ℕ → Bool) → 0 < k → Has after (After words d w (In set))
      → (k ≡ 1 → Has before (In set)) → (2 ≤ k → Has before (Either (In set) (In after))) → Notes (Marks words d w (In before)) old new
      → Notes (Marks words d (repeat k w) (In set)) old new
  rounds_noted k w set after before old new some later once more notes = by_count (cases_eq k 1)
    where
      several : k ≢ 1 → k ≡ suc (suc (k - 2))
      several not_one = omega (arith, some, not_one)

      by_count : k ≡ 1 ⊎ k ≢ 1 → Notes (Marks words d (repeat k w) (In set)) old new
      by_count (inl one) = subst (λ n. Notes (Marks words d (repeat n w) (In set)) old new) (sym one) (notes_once w set before old new (once one) notes)
      by_count (inr not_one) =
          subst (λ n. Notes (Marks words d (repeat n w) (In set)) old new) (sym (several not_one))
          (notes_rounds (k - 2) w set after before old new later (more (omega (arith, some, not_one))) notes)

  pub none_noted : (w : List Edge) (B : Set) (k : ℕ) (old : ℕ → Bool) → k ≡ 0 → Notes (Marks words d (repeat k w) B) old old
  none_noted w B k old none = subst (λ n. Notes (Marks words d (repeat n w) B) old old) (sym none) (notes_none B old)
