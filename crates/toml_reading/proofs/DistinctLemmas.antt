-- Numbers that do not come twice.
use Rattle.std.proofs.Common.{◌≡◌, ℕ, ◌+◌, ◌<◌, length, get_or, take, drop, Bool, true, false, not, cond, List, [], ◌∷◌, ◌++◌, Option, is_some, append_assoc, append-nil, nat_eq, eqb, inl, inr, refl, sym, ap, ◌∙◌}
use Rattle.std.specs.List.{list_any}
use Rattle.std.specs.Map.{keys_of, lookup}
use Rattle.std.proofs.Math.Bool.{and-false, or-true}
use Rattle.std.proofs.lemmas.Bool.{cases_Bool, and_parts, eqb-true, eq-eqb, false≢true}
use Rattle.std.proofs.lemmas.List.{drop_more, map-append, take-append-drop, take_more}
use Rattle.indexmap.specs.IndexMap.{insert_entry}
use Rattle.indexmap.specs.IndexSet.{insert_key}
use Rattle.toml_reading.specs.Documents.{are_distinct}

eqb-sym : (x y : ℕ) → eqb x y ≡ eqb y x
eqb-sym x y = elim (cases_Bool (eqb x y)) [
  | inl same ↦ same ∙ sym (eq-eqb y x (sym (eqb-true x y same)))
  | inr other ↦ elim (cases_Bool (eqb y x)) [
    | inl back ↦ absurd (false≢true (sym other ∙ eq-eqb x y (sym (eqb-true y x back))))
    | inr differs ↦ other ∙ sym differs
  ]
]

-- the number comes after the list
has_last : (xs ys : List ℕ) (x y : ℕ) → eqb y x ≡ true → list_any (nat_eq y) (xs ++ x ∷ ys) ≡ true
has_last [] ys x y same = rw same refl
has_last (z ∷ xs) ys x y same = rw (has_last xs ys x y same) (or-true (eqb y z))

-- a list in which a number comes twice
pub repeats : (xs ys : List ℕ) (x : ℕ) → list_any (nat_eq x) xs ≡ true → are_distinct (xs ++ x ∷ ys) ≡ false
repeats [] ys x h = absurd (false≢true h)
repeats (y ∷ xs) ys x h = elim (cases_Bool (eqb x y)) [
  | inl same ↦ rw (has_last xs ys x y (eqb-sym y x ∙ same)) refl
  | inr other ↦ rw (repeats xs ys x (rw other at h)) (and-false (not (list_any (nat_eq y) (xs ++ x ∷ ys))))
]

no_last : (xs : List ℕ) (x y : ℕ) → eqb x y ≡ false → list_any (nat_eq y) xs ≡ false → list_any (nat_eq y) (xs ++ x ∷ []) ≡ false
no_last [] x y other none = rw (eqb-sym y x ∙ other) refl
no_last (z ∷ xs) x y other none = elim (cases_Bool (eqb y z)) [
  | inl same ↦ absurd (false≢true (sym none ∙ rw same refl))
  | inr differs ↦ rw differs (no_last xs x y other (rw differs at none))
]

-- one more number, that is new
pub distinct_push : (xs : List ℕ) (x : ℕ) → are_distinct xs ≡ true → list_any (nat_eq x) xs ≡ false → are_distinct (xs ++ x ∷ []) ≡ true
distinct_push [] x h new = refl
distinct_push (y ∷ xs) x h new = elim (cases_Bool (eqb x y)) [
  | inl same ↦ absurd (false≢true (sym new ∙ rw same refl))
  | inr other ↦
      let parts = and_parts (not (list_any (nat_eq y) xs)) (are_distinct xs) h in
      rw (no_last xs x y other (not_true (list_any (nat_eq y) xs) parts.0), distinct_push xs x parts.1 (rw other at new)) refl
]
  where
    not_true : (b : Bool) → not b ≡ true → b ≡ false
    not_true true e = sym e
    not_true false e = refl

-- a look-up by keys
pub lookup_none : {X : Type 0} (k : ℕ) (es : List (ℕ × X)) → is_some (lookup (nat_eq k) es) ≡ false → list_any (nat_eq k) (keys_of es) ≡ false
lookup_none k [] h = refl
lookup_none k (e ∷ es) h = elim (cases_Bool (eqb k e.0)) [
  | inl same ↦ absurd (false≢true (sym h ∙ rw same refl))
  | inr other ↦ rw other (lookup_none k es (rw other at h))
]

pub lookup_some : {X : Type 0} (k : ℕ) (es : List (ℕ × X)) → is_some (lookup (nat_eq k) es) ≡ true → list_any (nat_eq k) (keys_of es) ≡ true
lookup_some k [] h = absurd (false≢true h)
lookup_some k (e ∷ es) h = elim (cases_Bool (eqb k e.0)) [
  | inl same ↦ rw same refl
  | inr other ↦ rw other (lookup_some k es (rw other at h))
]

-- ## The next number of a list

from_not : (b c : Bool) → b ≡ not c → b ≡ false → c ≡ true
from_not b true e h = refl
from_not b false e h = absurd (false≢true (sym h ∙ e))

from_not_new : (b c : Bool) → b ≡ not c → b ≡ true → c ≡ false
from_not_new b false e h = refl
from_not_new b true e h = absurd (false≢true (sym e ∙ h))

pub repeats_at : (xs keys : List ℕ) (i : ℕ) (is_new : Bool) → i < length xs → keys ≡ take i xs → is_new ≡ not (list_any (nat_eq (get_or xs i 0)) keys) → is_new ≡ false → false ≡ are_distinct xs
repeats_at xs keys i is_new lt same new old =
    let split : xs ≡ take i xs ++ get_or xs i 0 ∷ drop (i + 1) xs = sym (take-append-drop i xs) ∙ ap (λ ys. take i xs ++ ys) (drop_more xs i 0 lt) in
    let there : list_any (nat_eq (get_or xs i 0)) (take i xs) ≡ true = ap (λ ks. list_any (nat_eq (get_or xs i 0)) ks) (sym same) ∙ from_not is_new (list_any (nat_eq (get_or xs i 0)) keys) new old in
    sym (ap are_distinct split ∙ repeats (take i xs) (drop (i + 1) xs) (get_or xs i 0) there)

pub distinct_at : (xs keys more : List ℕ) (i : ℕ) (is_new : Bool) → i < length xs → (keys ≡ take i xs) × (are_distinct keys ≡ true) → is_new ≡ not (list_any (nat_eq (get_or xs i 0)) keys) → is_new ≡ true → more ≡ insert_key nat_eq keys (get_or xs i 0) → (more ≡ take (i + 1) xs) × (are_distinct more ≡ true)
distinct_at xs keys more i is_new lt known new fresh is =
    let none : list_any (nat_eq (get_or xs i 0)) keys ≡ false = from_not_new is_new (list_any (nat_eq (get_or xs i 0)) keys) new fresh in
    let longer : more ≡ keys ++ get_or xs i 0 ∷ [] = is ∙ ap (λ b. cond b keys (keys ++ get_or xs i 0 ∷ [])) none in (
      longer ∙ ap (λ ks. ks ++ get_or xs i 0 ∷ []) known.0 ∙ sym (take_more xs i 0 lt),
      ap are_distinct longer ∙ distinct_push keys (get_or xs i 0) known.1 none,
    )

-- ## The next entry of a map

module _ {X : Type 0} where
  keys_append : (es fs : List (ℕ × X)) → keys_of (es ++ fs) ≡ keys_of es ++ keys_of fs
  keys_append es fs = map-append (λ (e : ℕ × X). e.0) es fs

  insert_absent : (es : List (ℕ × X)) (k : ℕ) (x : X) → list_any (nat_eq k) (keys_of es) ≡ false → insert_entry nat_eq es k x ≡ es ++ (k, x) ∷ []
  insert_absent [] k x h = refl
  insert_absent (e ∷ es) k x h = elim (cases_Bool (eqb k e.0)) [
    | inl same ↦ absurd (false≢true (sym h ∙ rw same refl))
    | inr other ↦ rw other (ap (λ fs. e ∷ fs) (insert_absent es k x (rw other at h)))
  ]

  pub repeats_entry : (all es rest next : List (ℕ × X)) (k : ℕ) (x : X) (old : Option X) → es ++ rest ≡ all → rest ≡ (k, x) ∷ next → old ≡ lookup (nat_eq k) es → is_some old ≡ true → are_distinct (keys_of all) ≡ false
  repeats_entry all es rest next k x old is first found some =
      ap (λ fs. are_distinct (keys_of fs)) (sym is ∙ ap (λ fs. es ++ fs) first)
      ∙ ap are_distinct (keys_append es ((k, x) ∷ next))
      ∙ repeats (keys_of es) (keys_of next) k (lookup_some k es (ap is_some (sym found) ∙ some))

  pub distinct_entry : (all es more rest next : List (ℕ × X)) (k : ℕ) (x : X) (old : Option X) → es ++ rest ≡ all → are_distinct (keys_of es) ≡ true → rest ≡ (k, x) ∷ next → old ≡ lookup (nat_eq k) es → is_some old ≡ false → more ≡ insert_entry nat_eq es k x → (more ++ next ≡ all) × (are_distinct (keys_of more) ≡ true)
  distinct_entry all es more rest next k x old is known first found none inserted =
      let absent : list_any (nat_eq k) (keys_of es) ≡ false = lookup_none k es (ap is_some (sym found) ∙ none) in
      let longer : more ≡ es ++ (k, x) ∷ [] = inserted ∙ insert_absent es k x absent in (
        ap (λ fs. fs ++ next) longer ∙ append_assoc es ((k, x) ∷ []) next ∙ ap (λ fs. es ++ fs) (sym first) ∙ is,
        ap (λ fs. are_distinct (keys_of fs)) longer ∙ ap are_distinct (keys_append es ((k, x) ∷ [])) ∙ distinct_push (keys_of es) k known absent,
      )

  pub all_entries : (all es rest : List (ℕ × X)) → es ++ rest ≡ all → rest ≡ [] → are_distinct (keys_of es) ≡ true → (es ≡ all) × (are_distinct (keys_of all) ≡ true)
  all_entries all es rest is none known =
      let same : es ≡ all = sym (append-nil es) ∙ ap (λ fs. es ++ fs) (sym none) ∙ is in (same, ap (λ fs. are_distinct (keys_of fs)) (sym same) ∙ known)
