-- The first item of a list that passes a test, or that gives something, item by item.
use Rattle.std.proofs.Common.{◌≡◌, ◌<◌, ◌≤◌, ◌+◌, ◌∙◌, ℕ, Bool, true, false, cond, List, [], ◌∷◌, length, drop, get_or, map, refl, sym, ap, Option, Some, None}
use Rattle.std.specs.Prelude.{find, option_map}
use Rattle.std.specs.Option.{is_some, option_or}
use Rattle.std.proofs.lemmas.Bool.{false≢true}
use Rattle.std.proofs.lemmas.List.{drop_more}
use Rattle.image.specs.Labels.{NamedAddresses}
use Rattle.statement.specs.declared.spots.Spot.{Spot}
use Rattle.text_refusals.specs.AskedLabels.{first_name, name_at}
use Rattle.text_refusals.specs.Courses.{after}
use Rattle.text_refusals.specs.Outline.{item_of}
use Rattle.text_refusals.specs.declared.course.Course.{Course}
use Rattle.text_refusals.specs.declared.outline.OutlineItem.{OutlineItem as CodeItem}

-- ## By a test

module _ {A B : Type 0} (f : A → B) (p : B → Bool) (xs : List A) (k : ℕ) (d : A) (inside : k < length xs) where
  found_now : find p (map f (drop k xs)) ≡ cond (p (f (get_or xs k d))) (Some (f (get_or xs k d))) (find p (map f (drop (k + 1) xs)))
  found_now = ap (λ (ys : List A). find p (map f ys)) (drop_more xs k d inside)

  pub found : p (f (get_or xs k d)) ≡ true → find p (map f (drop k xs)) ≡ find p (map f xs) → Some (f (get_or xs k d)) ≡ find p (map f xs)
  found passes so_far =
      sym (found_now ∙ ap (λ (b : Bool). cond b (Some (f (get_or xs k d))) (find p (map f (drop (k + 1) xs)))) passes) ∙ so_far

  pub not_found : p (f (get_or xs k d)) ≡ false → find p (map f (drop k xs)) ≡ find p (map f xs) → find p (map f (drop (k + 1) xs)) ≡ find p (map f xs)
  not_found fails so_far =
      sym (found_now ∙ ap (λ (b : Bool). cond b (Some (f (get_or xs k d))) (find p (map f (drop (k + 1) xs)))) fails) ∙ so_far

-- ## By what it gives

or_some : {X : Type 0} (o rest : Option X) → is_some o ≡ true → option_or o rest ≡ o
or_some None rest is = absurd (false≢true is)
or_some (Some x) rest is = refl

or_none : {X : Type 0} (o rest : Option X) → is_some o ≡ false → option_or o rest ≡ rest
or_none None rest is = refl
or_none (Some x) rest is = absurd (false≢true (sym is))

mapped : {X Y : Type 0} (f : X → Y) (o : Option X) → is_some (option_map f o) ≡ is_some o
mapped f None = refl
mapped f (Some x) = refl

module _ {X : Type 0} (f : X → List ℕ) (names : NamedAddresses) (has : Spot → Bool) (c : Course) (items : List CodeItem) (k : ℕ) (d : CodeItem)
    (o : Option X) (whole : Option (List ℕ)) (inside : k < length items) (is : option_map f o ≡ name_at names has c (item_of (get_or items k d)))
    (so_far : first_name names has c (map item_of (drop k items)) ≡ whole) where
  first_now : first_name names has c (map item_of (drop k items)) ≡ option_or (name_at names has c (item_of (get_or items k d))) (first_name names has (after c (item_of (get_or items k d))) (map item_of (drop (k + 1) items)))
  unfolding first_name
  first_now = ap (λ (es : List CodeItem). first_name names has c (map item_of es)) (drop_more items k d inside)

  -- an item that gives a name
  pub gives : is_some o ≡ true → option_map f o ≡ whole
  gives some =
      sym (first_now ∙ ap (λ (n : Option (List ℕ)). option_or n (first_name names has (after c (item_of (get_or items k d))) (map item_of (drop (k + 1) items)))) (sym is) ∙ or_some (option_map f o) (first_name names has (after c (item_of (get_or items k d))) (map item_of (drop (k + 1) items))) (mapped f o ∙ some)) ∙ so_far

  -- one that gives none
  pub gives_none : is_some o ≡ false → first_name names has (after c (item_of (get_or items k d))) (map item_of (drop (k + 1) items)) ≡ whole
  gives_none none =
      sym (first_now ∙ ap (λ (n : Option (List ℕ)). option_or n (first_name names has (after c (item_of (get_or items k d))) (map item_of (drop (k + 1) items)))) (sym is) ∙ or_none (option_map f o) (first_name names has (after c (item_of (get_or items k d))) (map item_of (drop (k + 1) items))) (mapped f o ∙ none)) ∙ so_far

pub no_items : (names : NamedAddresses) (has : Spot → Bool) (c : Course) → first_name names has c [] ≡ None
unfolding first_name
no_items names has c = refl
