-- A plan of pages: logical pages in turn on the lowest free physical ones, of which there are enough.
use Rattle.std.proofs.Common.{◌≡◌, ◌≢◌, ◌∙◌, ◌↔◌, ℕ, zero, suc, ◌+◌, ◌<◌, ◌≤◌, inl, inr, Bool, true, false, cond, List, [], ◌∷◌, length, take, map, get_or, Result, Ok, Err, refl, sym, ap, subst, arith}
use Rattle.std.specs.Prelude.{is_ok, nat_eq, not, All}
use Rattle.std.specs.List.{AllByRecursion, Contains, IsDistinct, filter, list_any, range_with_len, zip}
use Rattle.std.specs.List.Sorted.{IsBinarySearchResult, IsStrictlySortedBy}
use Rattle.std.specs.Ordering.{nat_cmp}
use Rattle.std.specs.declared.cmp.Ordering.TheVariants.{Less}
use Rattle.std.proofs.lemmas.Bool.{cases_lt, false_from_ne_true}
use Rattle.std.proofs.lemmas.Bool.Decides.{nat_tests}
use Rattle.std.proofs.lemmas.Cmp.{nat_eq_equiv}
use Rattle.std.proofs.lemmas.List.{get_or-take, get_or_default, length-take}
use Rattle.std.proofs.lemmas.List.Elements.{All-cons, All-contains, All-contains_itself, All-filter, All-from_get_or, All-from_recursion, All-get_or, All-head, All-nil, All-tail, Contains-get_or, filter_passes}
use Rattle.std.proofs.lemmas.List.Filters.{length-filter_both}
use Rattle.std.proofs.lemmas.List.FromFn.{get_or-range_with_len, length-range_with_len}
use Rattle.std.proofs.lemmas.List.Kept.{IsStrictlySortedBy-filter}
use Rattle.std.proofs.lemmas.List.Sorted.{searched}
use Rattle.std.proofs.lemmas.List.Sums.{count_by-le-length, length-filter}
use Rattle.std.proofs.lemmas.Map.Keys.{below_from_sorted, non_decreasing_from_sorted}
use Rattle.std.proofs.lemmas.Map.Made.{length-le_from_is_member}
use Rattle.std.proofs.lemmas.Map.Views.{Contains-from_any, exact_unsigned_eq, list_any-from_Contains}
use Rattle.image.specs.Image.{Words}
use Rattle.image.specs.Pages.{AreHeld, Ascend, HasWordOn}
use Rattle.loader.specs.PagePlan.{IsFree, IsPagePlan, free_pages, is_logical, is_unnamed, placed}
use Rattle.loader.specs.declared.plan.PlacedPage.{PlacedPage}

-- ## Search

pub searched_any : (xs : List ℕ) (x : ℕ) (r : Result ℕ ℕ) → Ascend xs → IsBinarySearchResult (λ y. nat_cmp y x) xs r → is_ok r ≡ list_any (nat_eq x) xs
searched_any xs x (Ok i) up found =
    let f = searched xs x (Ok i) found (λ a b le lt. non_decreasing_from_sorted xs up a b 0 le lt) in
    sym (list_any-from_Contains nat_eq_equiv x xs (subst (λ (y : ℕ). Contains xs y) f.1 (Contains-get_or xs i 0 f.0)))
searched_any xs x (Err i) up found =
    let f = searched xs x (Err i) found (λ a b le lt. non_decreasing_from_sorted xs up a b 0 le lt) in
    let other : All (λ (y : ℕ). y ≢ x) xs =
    All-from_get_or (λ (y : ℕ). y ≢ x) xs 0 (λ k lt. elim (cases_lt k i) [
      | inl low ↦ (λ same. (let h = f.1 k low in omega (arith, h, same)))
      | inr high ↦ (λ same. (let h = f.2 k high lt in omega (arith, h, same)))
    ]) in
    sym (false_from_ne_true (list_any (nat_eq x) xs) (λ h. All-contains (λ (y : ℕ). y ≢ x) xs x other (Contains-from_any exact_unsigned_eq x xs h) refl))

-- ## Numbers that ascend

apart : (x : ℕ) (xs : List ℕ) → AllByRecursion (λ y. nat_cmp x y ≡ Less) xs → AllByRecursion (λ y. nat_eq x y ≡ false) xs
apart x [] all = tt
apart x (y ∷ ys) all = (let h : nat_cmp x y ≡ Less = all.0 in grind (arith, nat_tests, h), apart x ys all.1)

distinct : (xs : List ℕ) → Ascend xs → IsDistinct nat_eq xs
unfolding IsDistinct IsStrictlySortedBy
distinct [] up = tt
distinct (x ∷ xs) up = (apart x xs up.0, distinct xs up.1)

none_equal : (x : ℕ) (xs : List ℕ) → AllByRecursion (λ y. nat_cmp x y ≡ Less) xs → list_any (nat_eq x) xs ≡ false
none_equal x [] all = refl
none_equal x (y ∷ ys) all = let h : nat_cmp x y ≡ Less = all.0 in let e : nat_eq x y ≡ false = grind (arith, nat_tests, h) in rw (e, none_equal x ys all.1) refl

-- the first is none of the others
pub first_apart : (x : ℕ) (xs : List ℕ) → Ascend (x ∷ xs) → list_any (nat_eq x) xs ≡ false
unfolding IsStrictlySortedBy
first_apart x xs up = none_equal x xs up.0

pub rest_ascend : (x : ℕ) (xs : List ℕ) → Ascend (x ∷ xs) → Ascend xs
unfolding IsStrictlySortedBy
rest_ascend x xs up = up.1

front_above : (n x : ℕ) (xs : List ℕ) → AllByRecursion (λ y. nat_cmp x y ≡ Less) xs → AllByRecursion (λ y. nat_cmp x y ≡ Less) (take n xs)
front_above zero x xs all = tt
front_above (suc n) x [] all = tt
front_above (suc n) x (y ∷ ys) all = (all.0, front_above n x ys all.1)

front_ascends : (n : ℕ) (xs : List ℕ) → Ascend xs → Ascend (take n xs)
unfolding IsStrictlySortedBy
front_ascends zero xs up = tt
front_ascends (suc n) [] up = tt
front_ascends (suc n) (x ∷ xs) up = (front_above n x xs up.0, front_ascends n xs up.1)

range_above : (x a n : ℕ) → x < a → AllByRecursion (λ y. nat_cmp x y ≡ Less) (range_with_len a n)
range_above x a zero lt = tt
range_above x a (suc n) lt = (grind (arith, nat_tests, lt), range_above x (a + 1) n (omega (arith, lt)))

range_ascends : (a n : ℕ) → Ascend (range_with_len a n)
unfolding IsStrictlySortedBy
range_ascends a zero = tt
range_ascends a (suc n) = (range_above a (a + 1) n (omega arith), range_ascends (a + 1) n)

range_below : (a n most : ℕ) → a + n ≤ most → AllByRecursion (λ y. y < most) (range_with_len a n)
range_below a zero most le = tt
range_below a (suc n) most le = (omega (arith, le), range_below (a + 1) n most (omega (arith, le)))

-- ## Enough pages are free

longer : (b c : Bool) (x y : ℕ) (xs ys : List ℕ) → b ≡ c → length xs ≡ length ys → length (cond b (x ∷ xs) xs) ≡ length (cond c (y ∷ ys) ys)
longer true true x y xs ys same long = ap suc long
longer true false x y xs ys same long = absurd (cc)
longer false true x y xs ys same long = absurd (cc)
longer false false x y xs ys same long = long

-- the same by their page numbers
moved : (held : List ℕ) (a b n : ℕ) → b ≡ 1024 + a → length (filter (λ p. list_any (nat_eq (1024 + p)) held) (range_with_len a n)) ≡ length (filter (λ p. list_any (nat_eq p) held) (range_with_len b n))
moved held a b zero is = refl
moved held a b (suc n) is = longer _ _ a b _ _ (ap (λ (p : ℕ). list_any (nat_eq p) held) (sym is)) (moved held (a + 1) (b + 1) n (omega (arith, is)))

any_held : (test : ℕ → Bool) (xs : List ℕ) (q : ℕ) → list_any (nat_eq q) (filter test xs) ≡ true → test q ≡ true
any_held test xs q h = All-contains (λ (y : ℕ). test y ≡ true) (filter test xs) q (filter_passes test xs) (Contains-from_any exact_unsigned_eq q (filter test xs) h)

named_few : (held : List ℕ) → length (filter (λ p. list_any (nat_eq (1024 + p)) held) (range_with_len 0 128)) ≤ length held
named_few held =
    let test = λ (p : ℕ). list_any (nat_eq p) held in
    subst (λ (n : ℕ). n ≤ length held) (sym (moved held 0 1024 128 refl))
    (length-le_from_is_member nat_eq_equiv (filter test (range_with_len 1024 128)) held (distinct _ (IsStrictlySortedBy-filter nat_cmp test (range_with_len 1024 128) (range_ascends 1024 128))) (λ q h. any_held test (range_with_len 1024 128) q h))

many_free : (held : List ℕ) → length held ≤ 40 → 88 ≤ length (free_pages held)
many_free held few =
    let both = length-filter_both (λ p. list_any (nat_eq (1024 + p)) held) (is_unnamed held) (λ p. refl) (range_with_len 0 128) in
    let named = named_few held in
    let all = length-range_with_len 0 128 in
    omega (arith, few, both, named, all)

kept_few : (test : ℕ → Bool) (xs : List ℕ) → length (filter test xs) ≤ length xs
kept_few test xs = let e = length-filter test xs in let le = count_by-le-length test xs in omega (arith, e, le)

-- ## Pages in turn

logicals : (ls fs : List ℕ) → length ls ≤ length fs → map (λ p. p.logical) (map placed (zip ls fs)) ≡ ls
logicals [] fs le = refl
logicals (l ∷ ls) [] le = absurd (omega (arith, le))
logicals (l ∷ ls) (f ∷ fs) le = ap (λ (r : List ℕ). l ∷ r) (logicals ls fs (omega (arith, le)))

physicals : (ls fs : List ℕ) → map (λ p. p.physical) (map placed (zip ls fs)) ≡ take (length ls) fs
physicals [] fs = refl
physicals (l ∷ ls) [] = refl
physicals (l ∷ ls) (f ∷ fs) = ap (λ (r : List ℕ). f ∷ r) (physicals ls fs)

placed_long : (ls fs : List ℕ) → length ls ≤ length fs → length (map placed (zip ls fs)) ≡ length ls
placed_long [] fs le = refl
placed_long (l ∷ ls) [] le = absurd (omega (arith, le))
placed_long (l ∷ ls) (f ∷ fs) le = ap suc (placed_long ls fs (omega (arith, le)))

on_free : (words : Words) (ls fs : List ℕ) → All (IsFree words) fs → All (λ (p : PlacedPage). IsFree words p.physical) (map placed (zip ls fs))
on_free words [] fs all = All-nil (λ (p : PlacedPage). IsFree words p.physical)
on_free words (l ∷ ls) [] all = All-nil (λ (p : PlacedPage). IsFree words p.physical)
on_free words (l ∷ ls) (f ∷ fs) all =
    All-cons (λ (p : PlacedPage). IsFree words p.physical) (placed (l, f)) (map placed (zip ls fs)) (All-head (IsFree words) f fs all) (on_free words ls fs (All-tail (IsFree words) f fs all))

spare_over : (ls fs : List ℕ) → Ascend fs → length ls < length fs → All (λ (p : PlacedPage). p.physical < get_or fs (length ls) 0) (map placed (zip ls fs))
spare_over [] fs up lt = All-nil (λ (p : PlacedPage). p.physical < get_or fs 0 0)
spare_over (l ∷ ls) [] up lt = absurd (omega (arith, lt))
spare_over (l ∷ ls) (f ∷ fs) up lt =
    let below = below_from_sorted (f ∷ fs) 0 (suc (length ls)) 0 up (omega arith) lt in
    All-cons (λ (p : PlacedPage). p.physical < get_or fs (length ls) 0) (placed (l, f)) (map placed (zip ls fs)) below (spare_over ls fs (rest_ascend f fs up) (omega (arith, lt)))

-- what is below the n-th of numbers that ascend is one of those before it
in_front : (xs : List ℕ) (n x : ℕ) → Ascend xs → n < length xs → Contains xs x → x < get_or xs n 0 → Contains (take n xs) x
in_front xs n x up lt c below = elim (cases_lt c.0 n) [
  | inl before ↦ (let long = length-take n xs in (c.0, omega (arith, long, before, lt), get_or-take n xs c.0 x before ∙ c.2))
  | inr after ↦
      let le = non_decreasing_from_sorted xs up n c.0 x after c.1 in
      let same = get_or_default xs n x 0 lt in
      let is = c.2 in
      absurd (omega (arith, le, same, is, below))
]

-- ## The plan

in_first : (b : Bool) (y : ℕ) (rest : List ℕ) (x : ℕ) → b ≡ true → y ≡ x → Contains (cond b (y ∷ rest) rest) x
in_first true y rest x pass is = (0, omega arith, is)
in_first false y rest x pass is = absurd (cc)

in_rest : (b : Bool) (y : ℕ) (rest : List ℕ) (x : ℕ) → Contains rest x → Contains (cond b (y ∷ rest) rest) x
in_rest true y rest x c = let lt = c.1 in (suc c.0, omega (arith, lt), c.2)
in_rest false y rest x c = c

kept_at : (test : ℕ → Bool) (xs : List ℕ) (k x : ℕ) → test x ≡ true → k < length xs → get_or xs k x ≡ x → Contains (filter test xs) x
kept_at test [] k x pass lt is = absurd (omega (arith, lt))
kept_at test (y ∷ ys) zero x pass lt is = in_first (test y) y (filter test ys) x (ap test is ∙ pass) is
kept_at test (y ∷ ys) (suc k) x pass lt is = in_rest (test y) y (filter test ys) x (kept_at test ys k x pass (omega (arith, lt)) is)

contains_kept : (test : ℕ → Bool) (xs : List ℕ) (x : ℕ) → test x ≡ true → Contains xs x → Contains (filter test xs) x
contains_kept test xs x pass c = kept_at test xs c.0 x pass c.1 c.2

logical_where : (words : Words) (held : List ℕ) → AreHeld words held → (page : ℕ) → Contains (filter is_logical held) page ↔ ((page < 1024) × HasWordOn words page)
logical_where words held are page = (
  (λ c.
      let low : is_logical page ≡ true = All-contains (λ (y : ℕ). is_logical y ≡ true) (filter is_logical held) page (filter_passes is_logical held) c in
      (grind (arith, nat_tests, low), (are.held page).0 (All-contains (Contains held) (filter is_logical held) page (All-filter is_logical (Contains held) held (All-contains_itself held)) c))),
  (λ h. let low = h.0 in contains_kept is_logical held page (grind (arith, nat_tests, low)) ((are.held page).1 h.1)),
)

unnamed_free : (words : Words) (held : List ℕ) (p : ℕ) → AreHeld words held → p < 128 → is_unnamed held p ≡ true → IsFree words p
unnamed_free words held p are below unnamed = record {
  below = below;
  unnamed = λ on. (let any = list_any-from_Contains nat_eq_equiv (1024 + p) held ((are.held (1024 + p)).1 on) in absurd (cc (ap not any)));
}

all_free : (words : Words) (held : List ℕ) → AreHeld words held → All (IsFree words) (free_pages held)
all_free words held are = λ k d lt.
    unnamed_free words held (get_or (free_pages held) k d) are
    (All-filter (is_unnamed held) (λ (p : ℕ). p < 128) (range_with_len 0 128) (All-from_recursion (λ (p : ℕ). p < 128) (range_with_len 0 128) (range_below 0 128 128 (omega arith))) k d lt)
    (filter_passes (is_unnamed held) (range_with_len 0 128) k d lt)

free_listed : (words : Words) (held : List ℕ) (p : ℕ) → AreHeld words held → IsFree words p → Contains (free_pages held) p
free_listed words held p are open_page =
    let none = false_from_ne_true (list_any (nat_eq (1024 + p)) held) (λ h. open_page.unnamed ((are.held (1024 + p)).0 (Contains-from_any exact_unsigned_eq (1024 + p) held h))) in
    let long = length-range_with_len 0 128 in
    let below = open_page.below in
    let here : 0 + p ≡ p = omega arith in
    contains_kept (is_unnamed held) (range_with_len 0 128) p (ap not none) (p, omega (arith, long, below), get_or-range_with_len 0 128 p p below ∙ here)

abbrev pub pages_on : List ℕ → List ℕ → List PlacedPage
pages_on held free = map placed (zip (filter is_logical held) free)

lows_below : (held free : List ℕ) → length held ≤ 40 → free ≡ free_pages held → length (filter is_logical held) < length free
lows_below held free few frees =
    let low = kept_few is_logical held in
    let many = many_free held few in
    let long : length free ≡ length (free_pages held) = ap length frees in
    omega (arith, few, low, many, long)

lows_fit : (held free : List ℕ) → length held ≤ 40 → free ≡ free_pages held → length (filter is_logical held) ≤ length free
lows_fit held free few frees = let lt = lows_below held free few frees in omega (arith, lt)

pub spare_within : (held free : List ℕ) (pages : List PlacedPage) → length held ≤ 40 → free ≡ free_pages held → pages ≡ pages_on held free → length pages < length free
spare_within held free pages few frees on =
    let lt = lows_below held free few frees in
    let long = placed_long (filter is_logical held) free (lows_fit held free few frees) in
    let same : length pages ≡ length (pages_on held free) = ap length on in
    omega (arith, lt, long, same)

plan_at : (words : Words) (held free : List ℕ) → AreHeld words held → free ≡ free_pages held → IsPagePlan words (pages_on held free) (get_or free (length (filter is_logical held)) 0)
plan_at words held free are frees =
    let lows = filter is_logical held in
    let lt = lows_below held free are.few frees in
    let names = logicals lows free (lows_fit held free are.few frees) in
    let up : Ascend free = subst (λ (fs : List ℕ). Ascend fs) (sym frees) (IsStrictlySortedBy-filter nat_cmp (is_unnamed held) (range_with_len 0 128) (range_ascends 0 128)) in
    let all : All (IsFree words) free = subst (λ (fs : List ℕ). All (IsFree words) fs) (sym frees) (all_free words held are) in
    record {
      logical = λ page. subst (λ (ns : List ℕ). Contains ns page ↔ ((page < 1024) × HasWordOn words page)) (sym names) (logical_where words held are page);
      logical_ascend = subst (λ (ns : List ℕ). Ascend ns) (sym names) (IsStrictlySortedBy-filter nat_cmp is_logical held are.ascend);
      physical_ascend = subst (λ (ns : List ℕ). Ascend ns) (sym (physicals lows free)) (front_ascends (length lows) free up);
      free = on_free words lows free all;
      spare_free = All-get_or (IsFree words) free (length lows) 0 lt all;
      spare_above = spare_over lows free up lt;
      lowest = λ p open_page below. subst (λ (ps : List ℕ). Contains ps p) (sym (physicals lows free)) (in_front free (length lows) p up lt (subst (λ (fs : List ℕ). Contains fs p) (sym frees) (free_listed words held p are open_page)) below);
    }

pub plan_is : (words : Words) (held free : List ℕ) (pages : List PlacedPage) (n spare : ℕ) → AreHeld words held → free ≡ free_pages held → pages ≡ pages_on held free
    → n ≡ length pages → spare ≡ get_or free n spare → IsPagePlan words pages spare
plan_is words held free pages n spare are frees on is last =
    let within = spare_within held free pages are.few frees on in
    let long = placed_long (filter is_logical held) free (lows_fit held free are.few frees) in
    let place : n ≡ length (filter is_logical held) = is ∙ ap length on ∙ long in
    let here : spare ≡ get_or free (length (filter is_logical held)) 0 = last ∙ get_or_default free n spare 0 (omega (arith, is, within)) ∙ ap (λ (k : ℕ). get_or free k 0) place in
    subst (λ (s : ℕ). IsPagePlan words pages s) (sym here) (subst (λ (ps : List PlacedPage). IsPagePlan words ps (get_or free (length (filter is_logical held)) 0)) (sym on) (plan_at words held free are frees))

-- ## What users of a plan want

pub physical_below : (words : Words) (pages : List PlacedPage) (spare : ℕ) → IsPagePlan words pages spare → All (λ (p : PlacedPage). p.physical < 128) pages
physical_below words pages spare plan = λ i d lt. (plan.free i d lt).below
