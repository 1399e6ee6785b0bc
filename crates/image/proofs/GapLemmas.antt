-- Words in two parts, those below a place and those from there on.
use Rattle.std.proofs.Common.{◌≡◌, ◌∙◌, ℕ, zero, suc, ◌+◌, ◌-◌, ◌%◌, ◌<◌, ◌≤◌, Bool, true, false, cond, eqb, [], ◌∷◌, ◌++◌, length, Option, Some, None, refl, sym, ap, inl, inr, arith, take, get_or, nat_lt}
use Rattle.std.specs.Prelude.{MatchOption, is_some, slice_get, ◌&&◌, ◌||◌}
use Rattle.std.specs.List.{AllByRecursion, list_all, list_any}
use Rattle.std.specs.List.Sorted.{IsNonDecreasingBy}
use Rattle.std.specs.Option.{option_to_list}
use Rattle.std.proofs.lemmas.Bool.{and_parts, cases_eq, le-ltb, lt-ltb, ltb-true, ne_eqb, eq-eqb}
use Rattle.std.proofs.lemmas.List.{append_assoc}
use Rattle.std.proofs.lemmas.List.Folds.{list_all-append, list_any-append}
use Rattle.image.specs.Image.{Words, put_fault, with_word, word_of}
use Rattle.image.specs.Inside.{Ascends}
use Rattle.image.proofs.WordLemmas.{Quads, above, absent_first, absent_rest, all_parts, may_put}

abbrev pub Below : ℕ → Words → Type 0
Below a words = AllByRecursion (λ e. e.0 < a) words

abbrev pub From : ℕ → Words → Type 0
From a words = AllByRecursion (λ e. a ≤ e.0) words

-- a word goes between those below it and those above it
pub with_word_between : (xs ys : Words) (a w : ℕ) → Below a xs → From a ys → word_of ys a ≡ None → with_word (xs ++ ys) a w ≡ xs ++ (a, w) ∷ ys
with_word_between [] [] a w below from none = refl
with_word_between [] (e ∷ ys) a w below from none =
    let other = absent_first e ys a none in
    let le : a ≤ e.0 = from.0 in
    let lt : a < e.0 = omega arith in
    rw (lt-ltb a e.0 lt) refl
with_word_between (e ∷ xs) ys a w below from none =
    let lt : e.0 < a = below.0 in
    rw (le-ltb a e.0 (omega arith)) (ap (λ (ws : Words). e ∷ ws) (with_word_between xs ys a w below.1 from none))

-- it is not among those below it
pub word_of_from : (xs ys : Words) (a : ℕ) → Below a xs → word_of (xs ++ ys) a ≡ word_of ys a
word_of_from [] ys a below = refl
word_of_from (e ∷ xs) ys a below = let lt : e.0 < a = below.0 in rw (ne_eqb e.0 a (λ same. omega arith)) (word_of_from xs ys a below.1)

pub none_above : (ys : Words) (b : ℕ) → AllByRecursion (λ e. b < e.0) ys → word_of ys b ≡ None
none_above [] b all = refl
none_above (e ∷ ys) b all = let lt : b < e.0 = all.0 in rw (ne_eqb e.0 b (λ same. omega arith)) (none_above ys b all.1)

-- nor is it among those above it
word_of_below : (xs ys : Words) (b : ℕ) → AllByRecursion (λ e. b < e.0) ys → word_of (xs ++ ys) b ≡ word_of xs b
word_of_below [] ys b all = none_above ys b all
word_of_below (e ∷ xs) ys b all = ap (λ (o : Option ℕ). cond (eqb e.0 b) (Some e.1) o) (word_of_below xs ys b all)

some_is : (e f : ℕ × ℕ) → Some e ≡ Some f → e ≡ f
some_is e f same = cc

below_more : (a b : ℕ) (xs : Words) → a ≤ b → Below a xs → Below b xs
below_more a b [] le below = tt
below_more a b (e ∷ xs) le below = (let lt : e.0 < a = below.0 in omega arith, below_more a b xs le below.1)

from_le : (x y : ℕ) (ws : Words) → x ≤ y → AllByRecursion (λ f. y < f.0) ws → AllByRecursion (λ f. x < f.0) ws
from_le x y [] le all = tt
from_le x y (e ∷ ws) le all = (let lt : y < e.0 = all.0 in omega arith, from_le x y ws le all.1)

-- where it is free
pub none_between : (xs ys : Words) (a : ℕ) → Below a xs → AllByRecursion (λ e. a < e.0) ys → false ≡ is_some (word_of (xs ++ ys) a)
none_between xs ys a below all = sym (ap is_some (word_of_from xs ys a below ∙ none_above ys a all))

-- the word four before is the last one below
last_only : (xs : Words) (a : ℕ) (o : Option (ℕ × ℕ)) → o ≡ slice_get xs (length xs - 1) → Ascends xs → Quads xs → Below a xs → a % 4 ≡ 0 → word_of (option_to_list o) (a - 4) ≡ word_of xs (a - 4)
last_only [] a o is up quads below a4 = rw is refl
last_only (x ∷ []) a o is up quads below a4 = rw is refl
last_only (x ∷ y ∷ rest) a o is up quads below a4 =
    let x_y : x.0 < y.0 = up.0.0 in
    let y_a : y.0 < a = below.1.0 in
    let x4 : x.0 % 4 ≡ 0 = quads.0 in
    let y4 : y.0 % 4 ≡ 0 = quads.1.0 in
    let m : length (x ∷ y ∷ rest) - 1 ≡ suc (length (y ∷ rest) - 1) = omega arith in
    last_only (y ∷ rest) a o (rw m at is) up.1 quads.1 below.1 a4 ∙ sym (rw (ne_eqb x.0 (a - 4) (λ same. omega arith)) refl)

pub before_low : (xs ys : Words) (a b : ℕ) (o : Option (ℕ × ℕ)) → b ≡ a - 4 → o ≡ slice_get xs (length xs - 1) → Ascends xs → Quads xs → Below a xs → AllByRecursion (λ e. a < e.0) ys → a % 4 ≡ 0
    → is_some (word_of (option_to_list o) b) ≡ is_some (word_of (xs ++ ys) (a - 4))
before_low xs ys a b o b_is is up quads below all a4 =
    rw b_is (ap is_some (last_only xs a o is up quads below a4 ∙ sym (word_of_below xs ys (a - 4) (from_le (a - 4) a ys (omega arith) all))))

-- the word four after is the first one above
first_only : (ys : Words) (a : ℕ) (o : Option (ℕ × ℕ)) → o ≡ slice_get ys 0 → Ascends ys → Quads ys → AllByRecursion (λ e. a < e.0) ys → a % 4 ≡ 0 → word_of (option_to_list o) (a + 4) ≡ word_of ys (a + 4)
first_only [] a o is up quads all a4 = rw is refl
first_only (e ∷ rest) a o is up quads all a4 =
    let lt : a < e.0 = all.0 in
    let e4 : e.0 % 4 ≡ 0 = quads.0 in
    rw is (ap (λ (w : Option ℕ). cond (eqb e.0 (a + 4)) (Some e.1) w) (sym (none_above rest (a + 4) (from_le (a + 4) e.0 rest (omega arith) up.0))))

pub after_high : (xs ys : Words) (a b : ℕ) (o : Option (ℕ × ℕ)) → b ≡ a + 4 → o ≡ slice_get ys 0 → Ascends ys → Quads ys → Below a xs → AllByRecursion (λ e. a < e.0) ys → a % 4 ≡ 0
    → is_some (word_of (option_to_list o) b) ≡ is_some (word_of (xs ++ ys) (a + 4))
after_high xs ys a b o b_is is up quads below all a4 =
    rw b_is (ap is_some (first_only ys a o is up quads all a4 ∙ sym (word_of_from xs ys (a + 4) (below_more a (a + 4) xs (omega arith) below))))

-- a word of either part
pub word_front : (xs ys : Words) (a w : ℕ) → word_of xs a ≡ Some w → word_of (xs ++ ys) a ≡ Some w
word_front [] ys a w is = absurd cc
word_front (e ∷ xs) ys a w is = elim (cases_eq e.0 a) [
  | inl same ↦ rw (eq-eqb e.0 a same) (rw (eq-eqb e.0 a same) at is)
  | inr other ↦ rw (ne_eqb e.0 a other) (word_front xs ys a w (rw (ne_eqb e.0 a other) at is))
]

pub word_back : (xs ys : Words) (a : ℕ) → word_of xs a ≡ None → word_of (xs ++ ys) a ≡ word_of ys a
word_back [] ys a none = refl
word_back (e ∷ xs) ys a none = rw (ne_eqb e.0 a (absent_first e xs a none)) (word_back xs ys a (absent_rest e xs a none))

-- the n-th word of both parts
pub get_front : (xs ys : Words) (n : ℕ) (e : ℕ × ℕ) → slice_get xs n ≡ Some e → slice_get (xs ++ ys) n ≡ Some e
get_front [] ys n e is = absurd cc
get_front (x ∷ xs) ys zero e is = is
get_front (x ∷ xs) ys (suc n) e is = get_front xs ys n e is

pub get_back : (xs ys : Words) (n m : ℕ) → slice_get xs n ≡ None → m ≡ n - length xs → slice_get ys m ≡ slice_get (xs ++ ys) n
get_back [] ys n m none is = ap (slice_get ys) (omega (arith, is))
get_back (x ∷ xs) ys zero m none is = absurd cc
get_back (x ∷ xs) ys (suc n) m none is = get_back xs ys n m none (omega (arith, is))

-- a word that may be put, put after those below it
pub put_between : (words xs ys new : Words) (a w : ℕ) → xs ++ ys ≡ words → Below a xs → From a ys → put_fault words a w ≡ None → new ≡ xs ++ (a, w) ∷ []
    → new ++ ys ≡ with_word words a w
put_between words xs ys new a w is below from allowed pushed =
    let none : word_of ys a ≡ None = sym (word_of_from xs ys a below) ∙ ap (λ (ws : Words). word_of ws a) is ∙ (may_put words a w allowed).free in
    ap (λ (zs : Words). zs ++ ys) pushed ∙ append_assoc xs ((a, w) ∷ []) ys ∙ sym (with_word_between xs ys a w below from none)
    ∙ ap (λ (ws : Words). with_word ws a w) is

-- tests of both parts
pub all_then : (p : ℕ × ℕ → Bool) (xs ys zs : Words) (r : Bool) → xs ++ ys ≡ zs → list_all p xs ≡ true → r ≡ list_all p ys → r ≡ list_all p zs
all_then p xs ys zs r is front back = back ∙ sym (ap (list_all p) (sym is) ∙ list_all-append p xs ys ∙ ap (λ (b : Bool). b && list_all p ys) front)

pub all_else : (p : ℕ × ℕ → Bool) (xs ys zs : Words) → xs ++ ys ≡ zs → list_all p xs ≡ false → list_all p zs ≡ false
all_else p xs ys zs is front = ap (list_all p) (sym is) ∙ list_all-append p xs ys ∙ ap (λ (b : Bool). b && list_all p ys) front

pub any_then : (p : ℕ × ℕ → Bool) (xs ys zs : Words) → xs ++ ys ≡ zs → list_any p xs ≡ true → list_any p zs ≡ true
any_then p xs ys zs is front = ap (list_any p) (sym is) ∙ list_any-append p xs ys ∙ ap (λ (b : Bool). b || list_any p ys) front

pub any_else : (p : ℕ × ℕ → Bool) (xs ys zs : Words) (r : Bool) → xs ++ ys ≡ zs → list_any p xs ≡ false → r ≡ list_any p ys → r ≡ list_any p zs
any_else p xs ys zs r is front back = back ∙ sym (ap (list_any p) (sym is) ∙ list_any-append p xs ys ∙ ap (λ (b : Bool). b || list_any p ys) front)

-- parts of what ascends ascend
pub Ascends-front : (xs ys : Words) → Ascends (xs ++ ys) → Ascends xs
Ascends-front [] ys up = tt
Ascends-front (e ∷ xs) ys up = ((all_parts (λ f. e.0 < f.0) xs ys up.0).0, Ascends-front xs ys up.1)

pub Ascends-back : (xs ys : Words) → Ascends (xs ++ ys) → Ascends ys
Ascends-back [] ys up = up
Ascends-back (e ∷ xs) ys up = Ascends-back xs ys up.1

-- ## The last word and the first

pub all_below : (ws : Words) (a : ℕ) (o : Option (ℕ × ℕ)) → o ≡ slice_get ws (length ws - 1) → list_all (λ e. nat_lt e.0 a) (option_to_list o) ≡ true → Ascends ws → Below a ws
all_below [] a o is test up = tt
all_below (x ∷ []) a o is test up =
    let lt : nat_lt x.0 a ≡ true = (and_parts (nat_lt x.0 a) true (rw is at test)).0 in
    (ltb-true x.0 a lt, tt)
all_below (x ∷ y ∷ rest) a o is test up =
    let m : length (x ∷ y ∷ rest) - 1 ≡ suc (length (y ∷ rest) - 1) = omega arith in
    let more = all_below (y ∷ rest) a o (rw m at is) test up.1 in
    let y_a : y.0 < a = more.0 in
    let x_y : x.0 < y.0 = up.0.0 in
    (omega arith, more)

pub split_last : (ws : Words) (e : ℕ × ℕ) → Some e ≡ slice_get ws (length ws - 1) → ws ≡ take (length ws - 1) ws ++ e ∷ []
split_last [] e is = absurd cc
split_last (x ∷ []) e is = ap (λ (f : ℕ × ℕ). f ∷ []) (some_is x e (sym is))
split_last (x ∷ y ∷ rest) e is =
    let m : length (x ∷ y ∷ rest) - 1 ≡ suc (length (y ∷ rest) - 1) = omega arith in
    rw m (ap (λ (ws : Words). x ∷ ws) (split_last (y ∷ rest) e (rw m at is)))

-- the last word, unless it is below
pub last_not_below : (ws : Words) (a : ℕ) (o : Option (ℕ × ℕ)) → o ≡ slice_get ws (length ws - 1) → list_all (λ e. nat_lt e.0 a) (option_to_list o) ≡ false
    → MatchOption o (Below a ws) (λ e. ws ≡ take (length ws - 1) ws ++ e ∷ [])
last_not_below ws a None is test = absurd cc
last_not_below ws a (Some e) is test = split_last ws e is

at_least : (x : ℕ) (ws : Words) → AllByRecursion (λ f. x < f.0) ws → From x ws
at_least x [] all = tt
at_least x (e ∷ ws) all = (let lt : x < e.0 = all.0 in omega arith, at_least x ws all.1)

pub all_from : (ws : Words) (a : ℕ) (e : ℕ × ℕ) → slice_get ws 0 ≡ Some e → a ≤ e.0 → Ascends ws → From a ws
all_from [] a e is le up = tt
all_from (x ∷ rest) a e is le up =
    let same : x ≡ e = some_is x e is in
    let le_x : a ≤ x.0 = rw same le in
    (le_x, at_least a rest (from_le a x.0 rest le_x up.0))

pub all_above : (ws : Words) (a : ℕ) (o : Option (ℕ × ℕ)) → o ≡ slice_get ws 0 → list_all (λ e. nat_lt a e.0) (option_to_list o) ≡ true → Ascends ws → AllByRecursion (λ e. a < e.0) ws
all_above [] a o is test up = tt
all_above (x ∷ rest) a o is test up =
    let lt : a < x.0 = ltb-true a x.0 (and_parts (nat_lt a x.0) true (rw is at test)).0 in
    (lt, above a x.0 rest lt up.0)

-- ## Searches

all_at : (x : ℕ) (ws : Words) (k : ℕ) (d : ℕ × ℕ) → AllByRecursion (λ f. x < f.0) ws → k < length ws → x < (get_or ws k d).0
all_at x [] k d all lt = absurd (omega arith)
all_at x (e ∷ ws) zero d all lt = all.0
all_at x (e ∷ ws) (suc k) d all lt = all_at x ws k d all.1 (omega arith)

pub rising : (ws : Words) → Ascends ws → IsNonDecreasingBy (λ (e : ℕ × ℕ). e.0) ws
rising [] up = λ i j d le lt. absurd (omega arith)
rising (e ∷ rest) up = λ i j d le lt. at i j d le lt (rising rest up.1)
  where
    at : (i j : ℕ) (d : ℕ × ℕ) → i ≤ j → j < length (e ∷ rest) → IsNonDecreasingBy (λ (f : ℕ × ℕ). f.0) rest → (get_or (e ∷ rest) i d).0 ≤ (get_or (e ∷ rest) j d).0
    at zero zero d le lt more = omega arith
    at zero (suc j) d le lt more = let less = all_at e.0 rest j d up.0 (omega arith) in omega (arith, less)
    at (suc i) zero d le lt more = absurd (omega arith)
    at (suc i) (suc j) d le lt more = more i j d (omega arith) (omega arith)

pub searched : (ws : Words) (a i : ℕ) (o : Option (ℕ × ℕ)) → o ≡ slice_get ws i → ((k : ℕ) (d : ℕ × ℕ) → k < i → (get_or ws k d).0 < a)
    → ((k : ℕ) (d : ℕ × ℕ) → i ≤ k → k < length ws → a ≤ (get_or ws k d).0) → Ascends ws → word_of (option_to_list o) a ≡ word_of ws a
searched [] a i o is low high up = rw is refl
searched (e ∷ rest) a zero o is low high up =
    let le : a ≤ e.0 = high 0 e (omega arith) (omega arith) in
    rw is (ap (λ (w : Option ℕ). cond (eqb e.0 a) (Some e.1) w) (sym (none_above rest a (from_le a e.0 rest le up.0))))
searched (e ∷ rest) a (suc i) o is low high up =
    let lt : e.0 < a = low 0 e (omega arith) in
    rw (ne_eqb e.0 a (λ same. omega arith))
    (searched rest a i o is (λ k d less. low (suc k) d (omega arith)) (λ k d ge less. high (suc k) d (omega arith) (omega arith)) up.1)

-- ## Words that move

pub Below-push : (xs : Words) (a : ℕ) (e : ℕ × ℕ) → Below a xs → e.0 < a → Below a (xs ++ e ∷ [])
Below-push [] a e all lt = (lt, tt)
Below-push (x ∷ xs) a e all lt = (all.0, Below-push xs a e all.1 lt)

pub Quads-front : (xs ys : Words) → Quads (xs ++ ys) → Quads xs
Quads-front [] ys all = tt
Quads-front (e ∷ xs) ys all = (all.0, Quads-front xs ys all.1)

pub Quads-back : (xs ys : Words) → Quads (xs ++ ys) → Quads ys
Quads-back [] ys all = all
Quads-back (e ∷ xs) ys all = Quads-back xs ys all.1
