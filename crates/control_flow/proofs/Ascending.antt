-- Lists that ascend by a reversed order, read from their ends.
use Rattle.std.proofs.Common.{◌≡◌, List, [], ◌∷◌, ◌++◌, map, reverse, length, refl, sym, ap, ◌∙◌, subst, ⊎_elim}
use Rattle.std.specs.Prelude.{Contains}
use Rattle.std.specs.List.{AllByRecursion}
use Rattle.std.specs.declared.cmp.Ordering.{Ordering}
use Rattle.std.specs.declared.cmp.Ordering.TheVariants.{Less}
use Rattle.std.specs.declared.cmp.Reverse.{Reverse}
use Rattle.std.specs.List.Sorted.{IsStrictlySortedBy}
use Rattle.std.proofs.lemmas.List.{map-append, length-map, length-reverse}
use Rattle.std.proofs.lemmas.List.Elements.{Contains-append_left, Contains-push, Contains-push_cases}
use Rattle.std.proofs.lemmas.Grind.{reverse_onto}
use Rattle.image.proofs.WordLemmas.{all_push}
use Rattle.control_flow.specs.Search.{ascending}
use Rattle.control_flow.proofs.SortedLemmas.{cons_cases, here, no_member, there}

ascending_cons : {K : Type 0} (k : Reverse K) (ks : List (Reverse K)) → ascending (k ∷ ks) ≡ ascending ks ++ k.0 ∷ []
ascending_cons k ks = ap (map (λ r. r.0)) (reverse_onto ks k []) ∙ map-append (λ r. r.0) (reverse ks) (k ∷ [])

pub length_ascending : {K : Type 0} (ks : List (Reverse K)) → length (ascending ks) ≡ length ks
length_ascending ks = length-map (reverse ks) (λ r. r.0) ∙ length-reverse ks

all_ascending : {K : Type 0} (P : K → Type 0) (ks : List (Reverse K)) → AllByRecursion (λ r. P r.0) ks → AllByRecursion P (ascending ks)
all_ascending P [] all = tt
all_ascending P (k ∷ ks) all = rw (ascending_cons k ks) (all_push P (ascending ks) k.0 (all_ascending P ks all.1) all.0)

pushed_on : {K : Type 0} (R : K → K → Ordering) (xs : List K) (x : K) → IsStrictlySortedBy R xs → AllByRecursion (λ z. R z x ≡ Less) xs → IsStrictlySortedBy R (xs ++ x ∷ [])
unfolding IsStrictlySortedBy
pushed_on R [] x sorted below = (tt, tt)
pushed_on R (y ∷ ys) x sorted below = (all_push (λ z. R y z ≡ Less) ys x sorted.0 below.0, pushed_on R ys x sorted.1 below.1)

pub sorted_ascending : {K : Type 0} (R : K → K → Ordering) (ks : List (Reverse K)) → IsStrictlySortedBy (λ x y. R y.0 x.0) ks → IsStrictlySortedBy R (ascending ks)
unfolding IsStrictlySortedBy
sorted_ascending R [] sorted = tt
sorted_ascending R (k ∷ ks) sorted = rw (ascending_cons k ks) (pushed_on R (ascending ks) k.0 (sorted_ascending R ks sorted.1) (all_ascending (λ z. R z k.0 ≡ Less) ks sorted.0))

-- ## Members

pub ascending_from : {K : Type 0} (ks : List (Reverse K)) (x : K) → Contains (ascending ks) x → Contains ks (record { 0 = x })
ascending_from [] x h = absurd (no_member x h)
ascending_from (k ∷ ks) x h = ⊎_elim
    (λ more. there k ks (record { 0 = x }) (ascending_from ks x more))
    (λ is. subst (Contains (k ∷ ks)) (ap (λ y. record { 0 = y }) is) (here k ks))
    (Contains-push_cases (ascending ks) k.0 x (subst (λ xs. Contains xs x) (ascending_cons k ks) h))

pub ascending_has : {K : Type 0} (ks : List (Reverse K)) (x : K) → Contains ks (record { 0 = x }) → Contains (ascending ks) x
ascending_has [] x h = absurd (no_member _ h)
ascending_has (k ∷ ks) x h = rw (ascending_cons k ks) (⊎_elim
    (λ is. subst (Contains (ascending ks ++ k.0 ∷ [])) (ap (λ r. r.0) is) (Contains-push (ascending ks) k.0))
    (λ more. Contains-append_left (ascending ks) (k.0 ∷ []) x (ascending_has ks x more))
    (cons_cases k ks (record { 0 = x }) h))

pub ascending_push : {K : Type 0} (ks : List (Reverse K)) (k : Reverse K) → ascending (ks ++ k ∷ []) ≡ k.0 ∷ ascending ks
ascending_push [] k = refl
ascending_push (j ∷ ks) k = ascending_cons j (ks ++ k ∷ []) ∙ ap (λ xs. xs ++ j.0 ∷ []) (ascending_push ks k) ∙ ap (λ xs. k.0 ∷ xs) (sym (ascending_cons j ks))
