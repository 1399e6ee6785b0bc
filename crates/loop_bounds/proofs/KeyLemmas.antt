-- Keys of places: how they compare, and where they are.
use Rattle.std.proofs.Common.{◌≡◌, ℕ, zero, suc, ◌+◌, ◌<◌, ◌≤◌, ◌⊎◌, Bool, true, false, cond, eqb, leb, ltb, Option, Some, None, List, [], ◌∷◌, ◌++◌, length, take, get_or, sym, refl, ap, ◌∙◌, inl, inr, ⊎_elim, arith}
use Rattle.std.specs.Prelude.{not, map, ◌&&◌, ◌||◌}
use Rattle.std.specs.Cmp.{IsStrictWeakOrder}
use Rattle.std.specs.Cmp.Lexicographic.{slice_cmp}
use Rattle.std.specs.Option.{option_eq}
use Rattle.std.specs.Ordering.{nat_cmp, ordering_then, is_lt}
use Rattle.std.specs.declared.cmp.Ordering.{Ordering}
use Rattle.std.specs.declared.cmp.Ordering.TheVariants.{Less, Equal, Greater}
use Rattle.std.specs.List.Sorted.{IsSorted, IsPartitionedBy, IsPartitionPoint}
use Rattle.std.proofs.lemmas.Bool.{both_ways, or_right, cases_Bool, cases_eq, cases_lt, cases_order, lt-ltb, le-leb, le-ltb, eq-eqb, ne_eqb}
use Rattle.std.proofs.lemmas.Bool.Decides.{nat_tests}
use Rattle.std.proofs.lemmas.Cmp.{nat_list_cmp_total, same_from_slice_cmp}
use Rattle.std.proofs.lemmas.List.Sorted.{ranks_by, sorted_far}
use Rattle.std.proofs.lemmas.List.{map-append, same_from_push}
use Rattle.control_flow.specs.declared.places.Place.{Place}
use Rattle.control_flow.specs.declared.places.Place.TheVariants.{At, Exit}
use Rattle.control_flow.specs.Places.{place_at}
use Rattle.statement.specs.Stated.{is_apart, lies_at}
use Rattle.statement.specs.declared.apart.ApartStretch.{ApartStretch}
use Rattle.bus_ticks.specs.declared.space.TheConstants.{SPACE_END}
use Rattle.loop_bounds.specs.Instance.{holds}
use Rattle.loop_bounds.specs.Keys.{key_of, by_key, is_before, IsPoint}

-- ## How keys compare

length_less : (n : ℕ) → nat_cmp 0 (suc n) ≡ Less
length_less n = grind (arith, nat_tests)

length_greater : (n : ℕ) → nat_cmp (suc n) 0 ≡ Greater
length_greater n = grind (arith, nat_tests)

length_same : (m n : ℕ) → nat_cmp (suc m) (suc n) ≡ nat_cmp m n
length_same m n = grind (arith, nat_tests)

then_equal : (o : Ordering) → ordering_then o Equal ≡ o
then_equal Less = refl
then_equal Equal = refl
then_equal Greater = refl

then_further : (o p q r : Ordering) → ordering_then (ordering_then (ordering_then o p) q) r ≡ ordering_then o (ordering_then (ordering_then p q) r)
then_further Less p q r = refl
then_further Equal p q r = refl
then_further Greater p q r = refl

empty_less : {X : Type 0} (cmp : X → X → Ordering) (xs : List X) (b : X) → slice_cmp cmp [] (xs ++ b ∷ []) ≡ Less
empty_less cmp [] b = refl
empty_less cmp (x ∷ xs) b = refl

pub before : {X : Type 0} (cmp : X → X → Ordering) (xs : List X) (a : X) → slice_cmp cmp (xs ++ a ∷ []) [] ≡ Greater
before cmp [] a = refl
before cmp (x ∷ xs) a = refl

-- the common part first, then the next element, and then the lengths
pub compared : {X : Type 0} (cmp : X → X → Ordering) (c d : List X) (a b e : X) (n : ℕ) → n ≤ length c → n ≤ length d → (n ≡ length c) ⊎ (n ≡ length d) → slice_cmp cmp (c ++ a ∷ []) (d ++ b ∷ []) ≡ ordering_then (ordering_then (slice_cmp cmp (take n c) (take n d)) (cmp (get_or (c ++ a ∷ []) n e) (get_or (d ++ b ∷ []) n e))) (nat_cmp (length c) (length d))
compared cmp [] [] a b e zero u v at = refl
compared cmp [] (y ∷ d) a b e zero u v at = rw (length_less (length d), empty_less cmp d b) refl
compared cmp (x ∷ c) [] a b e zero u v at = rw (length_greater (length c), before cmp c a) refl
compared cmp (x ∷ c) (y ∷ d) a b e zero u v at = absurd (⊎_elim (λ e. omega arith) (λ e. omega arith) at)
compared cmp [] d a b e (suc n) u v at = absurd (omega arith)
compared cmp (x ∷ c) [] a b e (suc n) u v at = absurd (omega arith)
compared cmp (x ∷ c) (y ∷ d) a b e (suc n) u v at =
    let rest = compared cmp c d a b e n (omega arith) (omega arith) (⊎_elim (λ e. inl (omega arith)) (λ e. inr (omega arith)) at) in
    rw (length_same (length c) (length d), rest)
    (sym (then_further (cmp x y) (slice_cmp cmp (take n c) (take n d)) (cmp (get_or (c ++ a ∷ []) n e) (get_or (d ++ b ∷ []) n e)) (nat_cmp (length c) (length d))))

-- after the same list the last elements decide
pub compared_after : (c : List ℕ) (a b : ℕ) → slice_cmp nat_cmp (c ++ a ∷ []) (c ++ b ∷ []) ≡ nat_cmp a b
compared_after [] a b = then_equal (nat_cmp a b)
compared_after (x ∷ c) a b =
    let same : nat_cmp x x ≡ Equal = grind (arith, nat_tests) in
    rw (same, compared_after c a b) refl

pub same_option : (o p : Option ℕ) → option_eq eqb o p ≡ true → o ≡ p
same_option None None h = refl
same_option None (Some b) h = cc
same_option (Some a) None h = cc
same_option (Some a) (Some b) h = let e : a ≡ b = grind (arith, nat_tests) in ap Some e

-- ## The order as a test

pub before_is : (x y : List ℕ) → is_lt (slice_cmp nat_cmp x y) ≡ is_before x y
before_is x y = same_from_slice_cmp nat_cmp is_lt is_before refl (λ _ _. refl) (λ _ _. refl) (λ x y xs ys o h. grind (arith, nat_tests)) x y (slice_cmp nat_cmp x y) refl

upto_step : (x y z : ℕ) (a b d : Bool) → (a ≡ false → b ≡ true → d ≡ true) → (ltb y x || (eqb y x && a)) ≡ false → (ltb y z || (eqb y z && b)) ≡ true → (ltb x z || (eqb x z && d)) ≡ true
upto_step x y z a b d ih h k = grind (arith, nat_tests)

-- what is not before x is not before what x is not after
pub before_upto : (x y z : List ℕ) → is_before y x ≡ false → is_before y z ≡ true → is_before x z ≡ true
before_upto [] [] z h k = k
before_upto [] (y ∷ ys) [] h k = k
before_upto [] (y ∷ ys) (z ∷ zs) h k = refl
before_upto (x ∷ xs) [] z h k = cc
before_upto (x ∷ xs) (y ∷ ys) [] h k = k
before_upto (x ∷ xs) (y ∷ ys) (z ∷ zs) h k = upto_step x y z (is_before ys xs) (is_before ys zs) (is_before xs zs) (before_upto xs ys zs) h k

pub not_before_itself : (x : List ℕ) → is_before x x ≡ false
not_before_itself [] = refl
not_before_itself (x ∷ xs) = rw (le-ltb x x (omega arith), eq-eqb x x refl) (not_before_itself xs)

one_or_other : (x y : ℕ) (a b : Bool) (xs ys : List ℕ) → (a ≡ false → b ≡ false → xs ≡ ys) → (ltb x y || (eqb x y && a)) ≡ false → (ltb y x || (eqb y x && b)) ≡ false → (x ≡ y) × (xs ≡ ys)
one_or_other x y a b xs ys ih h k = ⊎_elim
    (λ same. (same, ih (let p : (ltb x y || (eqb x y && a)) ≡ false = h in grind (arith, nat_tests)) (let p : (ltb y x || (eqb y x && b)) ≡ false = k in grind (arith, nat_tests))))
    (λ apart. ⊎_elim
    (λ below. absurd (both_ways (ltb x y || (eqb x y && a)) h (rw (lt-ltb x y below) refl)))
    (λ above. absurd (both_ways (ltb y x || (eqb y x && b)) k (rw (lt-ltb y x above) refl)))
    apart)
    (cases_order x y)

-- of two lists one comes before the other, or they are one
pub same_by_order : (x y : List ℕ) → is_before x y ≡ false → is_before y x ≡ false → x ≡ y
same_by_order [] [] h k = refl
same_by_order [] (y ∷ ys) h k = cc
same_by_order (x ∷ xs) [] h k = cc
same_by_order (x ∷ xs) (y ∷ ys) h k =
    let e = one_or_other x y (is_before xs ys) (is_before ys xs) xs ys (same_by_order xs ys) h k in
    (λ i. e.0 i ∷ e.1 i)

-- ## Where words lie

lies_cases : (apart : List ApartStretch) (a : ℕ) → ((lies_at apart a ≡ a) × (a < SPACE_END)) ⊎ (lies_at apart a ≡ a + SPACE_END)
lies_cases apart a = ⊎_elim
    (λ (yes_ : (is_apart apart a || leb SPACE_END a) ≡ true). inr (ap (λ x. cond x (a + SPACE_END) a) yes_))
    (λ (no_ : (is_apart apart a || leb SPACE_END a) ≡ false). inl (ap (λ x. cond x (a + SPACE_END) a) no_, not_from (is_apart apart a) a no_))
    (cases_Bool (is_apart apart a || leb SPACE_END a))
  where
    not_from : (b : Bool) (a : ℕ) → (b || leb SPACE_END a) ≡ false → a < SPACE_END
    not_from b a none = ⊎_elim (λ (l : a < SPACE_END). l) (λ (ge : SPACE_END ≤ a). absurd (both_ways (b || leb SPACE_END a) none (or_right b (leb SPACE_END a) (le-leb SPACE_END a ge)))) (cases_lt a SPACE_END)

-- no two words lie at one place
pub lies_once : (apart : List ApartStretch) (a b : ℕ) → lies_at apart a ≡ lies_at apart b → a ≡ b
lies_once apart a b same = ⊎_elim
    (λ at. ⊎_elim (λ bt. sym at.0 ∙ same ∙ bt.0) (λ bt. absurd (omega (arith, at.0, at.1, bt))) (lies_cases apart b))
    (λ at. ⊎_elim (λ bt. absurd (omega (arith, bt.0, bt.1, at))) (λ bt. omega (arith, at, bt)) (lies_cases apart b))
    (lies_cases apart a)

pub all_lie_once : (apart : List ApartStretch) (xs ys : List ℕ) → map (lies_at apart) xs ≡ map (lies_at apart) ys → xs ≡ ys
all_lie_once apart [] [] same = refl
all_lie_once apart [] (y ∷ ys) same = cc
all_lie_once apart (x ∷ xs) [] same = cc
all_lie_once apart (x ∷ xs) (y ∷ ys) same =
    let head : lies_at apart x ≡ lies_at apart y = cc in
    let tail : map (lies_at apart) xs ≡ map (lies_at apart) ys = cc in
    let one = lies_once apart x y head in
    let rest = all_lie_once apart xs ys tail in
    (λ i. one i ∷ rest i)

same_test : (apart : List ApartStretch) (a b : ℕ) → eqb a b ≡ eqb (lies_at apart a) (lies_at apart b)
same_test apart a b = ⊎_elim
    (λ (same : a ≡ b). eq-eqb a b same ∙ sym (eq-eqb (lies_at apart a) (lies_at apart b) (ap (lies_at apart) same)))
    (λ (differ : a ≡ b → ⊥). ne_eqb a b differ ∙ sym (ne_eqb (lies_at apart a) (lies_at apart b) (λ same. differ (lies_once apart a b same))))
    (cases_eq a b)

-- ## Members are the keys between two

-- the list begins with another, and goes on with a number from first to last
abbrev pub spans : ℕ → ℕ → List ℕ → List ℕ → Bool
spans first last [] [] = false
spans first last [] (a ∷ key) = leb first a && leb a last
spans first last (x ∷ list) [] = false
spans first last (x ∷ list) (a ∷ key) = eqb a x && spans first last list key

pub holds_spans : (apart : List ApartStretch) (f l : ℕ) (c key : List ℕ) → holds apart f l c key ≡ spans (lies_at apart f) (lies_at apart l) (map (lies_at apart) c) (map (lies_at apart) key)
holds_spans apart f l [] [] = refl
holds_spans apart f l [] (k ∷ key) = refl
holds_spans apart f l (x ∷ c) [] = refl
holds_spans apart f l (x ∷ c) (k ∷ key) = (λ i. same_test apart k x i && holds_spans apart f l c key i)

span_base : (f l k : ℕ) (key : List ℕ) → spans f l [] (k ∷ key) ≡ (not (is_before (k ∷ key) (f ∷ [])) && is_before (k ∷ key) ((l + 1) ∷ []))
span_base f l k [] = grind (arith, nat_tests)
span_base f l k (x ∷ key) = grind (arith, nat_tests)

-- an instance's members are the keys from the one bound up to the other
pub spans_between : (f l : ℕ) (c key : List ℕ) → spans f l c key ≡ (not (is_before key (c ++ f ∷ [])) && is_before key (c ++ (l + 1) ∷ []))
spans_between f l [] [] = refl
spans_between f l [] (k ∷ key) = span_base f l k key
spans_between f l (x ∷ c) [] = refl
spans_between f l (x ∷ c) (k ∷ key) = ⊎_elim
    (λ same. rw (eq-eqb k x same, le-ltb k x (omega arith)) (spans_between f l c key))
    (λ apart. ⊎_elim
    (λ below. rw (ne_eqb k x (λ e. absurd (omega arith)), lt-ltb k x below) refl)
    (λ above. rw (ne_eqb k x (λ e. absurd (omega arith)), le-ltb k x (omega arith)) refl)
    apart)
    (cases_order k x)

-- ## Sorted places

-- keys, as they are compared
pub keys_compared : (apart : List ApartStretch) (c d x y : List ℕ) (a b m n : ℕ) → x ≡ c → y ≡ d → m ≡ lies_at apart a → n ≡ lies_at apart b → slice_cmp nat_cmp (map (lies_at apart) x ++ m ∷ []) (map (lies_at apart) y ++ n ∷ []) ≡ by_key apart (At c a) (At d b)
keys_compared apart c d x y a b m n p q r s =
    (λ i. slice_cmp nat_cmp (map (lies_at apart) (p i) ++ r i ∷ []) (map (lies_at apart) (q i) ++ s i ∷ []))
    ∙ (λ i. slice_cmp nat_cmp (sym (map-append (lies_at apart) c (a ∷ [])) i) (sym (map-append (lies_at apart) d (b ∷ [])) i))

pub key_before : (apart : List ApartStretch) (c x y : List ℕ) (a m n : ℕ) → x ≡ c → m ≡ lies_at apart a → is_lt (slice_cmp nat_cmp (map (lies_at apart) x ++ m ∷ []) (map (lies_at apart) y ++ n ∷ [])) ≡ is_before (key_of apart (At c a)) (map (lies_at apart) y ++ n ∷ [])
key_before apart c x y a m n p r =
    before_is (map (lies_at apart) x ++ m ∷ []) (map (lies_at apart) y ++ n ∷ [])
    ∙ (λ i. is_before (map (lies_at apart) (p i) ++ r i ∷ []) (map (lies_at apart) y ++ n ∷ []))
    ∙ (λ i. is_before (sym (map-append (lies_at apart) c (a ∷ [])) i) (map (lies_at apart) y ++ n ∷ []))

-- the test of the order by key is a strict weak order
pub by_key_ranks : (apart : List ApartStretch) → IsStrictWeakOrder (λ (p q : Place). is_lt (by_key apart p q))
by_key_ranks apart = ranks_by nat_list_cmp_total (key_of apart)

pub ascends : (apart : List ApartStretch) (listed : List Place) → IsSorted (by_key apart) listed → (i j : ℕ) (d : Place) → i ≤ j → j < length listed → is_before (key_of apart (get_or listed j d)) (key_of apart (get_or listed i d)) ≡ false
ascends apart listed sorted i j d le lt = sym (before_is (key_of apart (get_or listed j d)) (key_of apart (get_or listed i d))) ∙ sorted_far (λ (p q : Place). is_lt (by_key apart p q)) (by_key_ranks apart) listed sorted i j d le lt

pub parted : (apart : List ApartStretch) (listed : List Place) (bound : List ℕ) → IsSorted (by_key apart) listed → IsPartitionedBy (λ (p : Place). is_before (key_of apart p) bound) listed
parted apart listed bound sorted i j d le lt h = before_upto (key_of apart (get_or listed i d)) (key_of apart (get_or listed j d)) bound (ascends apart listed sorted i j d le lt) h

pub point_from : (apart : List ApartStretch) (listed : List Place) (bound : List ℕ) (n : ℕ) → n ≤ length listed → IsPartitionPoint (λ p. is_before (key_of apart p) bound ≡ true) (λ p. is_before (key_of apart p) bound ≡ false) listed n → IsPoint apart listed bound n
point_from apart listed bound n le parts = record {
  inside = le;
  below = λ k lt. parts.0 k Exit (omega arith) lt;
  from = λ k ge lt. parts.1 k Exit ge lt;
}

-- ## Places with one key

not_empty : (c : List ℕ) (a : ℕ) → [] ≡ c ++ a ∷ [] → ⊥
not_empty [] a e = cc
not_empty (x ∷ c) a e = cc

-- the key determines the place
pub same_key : (apart : List ApartStretch) (p q : Place) → key_of apart p ≡ key_of apart q → p ≡ q
same_key apart (At c a) (At d b) e = let h = same_from_push c d a b (all_lie_once apart (c ++ a ∷ []) (d ++ b ∷ []) e) in (λ i. At (h.0 i) (h.1 i))
same_key apart (At c a) Exit e = absurd (not_empty c a (sym (all_lie_once apart (c ++ a ∷ []) [] e)))
same_key apart Exit (At d b) e = absurd (not_empty d b (all_lie_once apart [] (d ++ b ∷ []) e))
same_key apart Exit Exit e = refl
