-- Lines that follow one another.
use Rattle.std.proofs.Common.{◌≡◌, ◌∙◌, Bool, true, List, [], ◌∷◌, ◌++◌, Option, Some, None, option_and_then, map, refl, ap, if◌then◌else◌}
use Rattle.std.specs.Ordering.{is_lt}
use Rattle.std.specs.declared.cmp.Ordering.{Ordering}
use Rattle.std.specs.declared.cmp.Ordering.TheVariants.{Less, Equal, Greater}
use Rattle.std.specs.List.{AllByRecursion, last_or}
use Rattle.std.specs.List.Sorted.{IsStrictlySortedBy}
use Rattle.std.proofs.lemmas.Map.Keys.{sorted_head, sorted_tail}
use Rattle.control_flow.specs.declared.places.Place.{Place}
use Rattle.control_flow.specs.Places.{place_cmp}
use Rattle.control_flow.proofs.PlaceLemmas.{place_total}
use Rattle.longest_walk.specs.declared.rows.PlaceRow.{PlaceRow}
use Rattle.longest_walk.specs.declared.rows.InstanceRow.{InstanceRow}
use Rattle.longest_walk.specs.Rows.{header_of_row, place_of_row}
use Rattle.certificate.specs.declared.draft.Stage.{Stage}
use Rattle.certificate.specs.declared.draft.Stage.TheVariants as s
use Rattle.certificate.specs.declared.line.WalkLine.{WalkLine}
use Rattle.certificate.specs.declared.line.Line.{Line}
use Rattle.certificate.specs.declared.line.Line.TheVariants as l
use Rattle.certificate.specs.Follows.{Reached, at_stage, comes_after, follows, in_walk}
use Rattle.certificate.specs.Walk.{Nest, follow_all, nest_after}

-- ## Any lines

module _ {S L : Type 0} (next : S → L → Option S) where
  pub follow-append : (t : S) (xs ys : List L) → follow_all next t (xs ++ ys) ≡ option_and_then (λ u. follow_all next u ys) (follow_all next t xs)
  follow-append t [] ys = refl
  follow-append t (x ∷ xs) ys = by (λ u. follow-append u xs ys) (next t x)
    where
      by : ((u : S) → follow_all next u (xs ++ ys) ≡ option_and_then (λ v. follow_all next v ys) (follow_all next u xs)) → (o : Option S) → option_and_then (λ u. follow_all next u (xs ++ ys)) o ≡ option_and_then (λ u. follow_all next u ys) (option_and_then (λ u. follow_all next u xs) o)
      by again None = refl
      by again (Some u) = again u

  pub follow-on : (t u : S) (xs ys : List L) → follow_all next t xs ≡ Some u → follow_all next t (xs ++ ys) ≡ follow_all next u ys
  follow-on t u xs ys e = follow-append t xs ys ∙ ap (option_and_then (λ v. follow_all next v ys)) e

  pub follow-none : (t : S) (x : L) (xs : List L) → next t x ≡ None → follow_all next t (x ∷ xs) ≡ None
  follow-none t x xs e = ap (option_and_then (λ v. follow_all next v xs)) e

  pub follow-end : (t u v : S) (xs : List L) (x : L) → follow_all next t xs ≡ Some u → next u x ≡ Some v → follow_all next t (xs ++ x ∷ []) ≡ Some v
  follow-end t u v xs x e f = follow-on t u xs (x ∷ []) e ∙ ap (option_and_then (λ w. follow_all next w [])) f

-- ## Rows that ascend

-- each comes after the one before
abbrev pub Ascends : Option Place → List Place → Type 0
Ascends last [] = Unit {0}
Ascends last (p ∷ ps) = (comes_after last p ≡ true) × Ascends (Some p) ps

less_from : (o : Ordering) → is_lt o ≡ true → o ≡ Less
less_from Less e = refl
less_from Equal e = absurd (cc e)
less_from Greater e = absurd (cc e)

ascends_after : (p : Place) (ps : List Place) → IsStrictlySortedBy place_cmp (p ∷ ps) → Ascends (Some p) ps
ascends_after p [] sorted = tt
ascends_after p (q ∷ ps) sorted = (ap is_lt (sorted_head place_cmp p (q ∷ ps) sorted).0, ascends_after q ps (sorted_tail place_cmp p (q ∷ ps) sorted))

pub ascends_from_sorted : (ps : List Place) → IsStrictlySortedBy place_cmp ps → Ascends None ps
ascends_from_sorted [] sorted = tt
ascends_from_sorted (p ∷ ps) sorted = (refl, ascends_after p ps sorted)

above : (p q : Place) (ps : List Place) → place_cmp p q ≡ Less → AllByRecursion (λ r. place_cmp q r ≡ Less) ps → AllByRecursion (λ r. place_cmp p r ≡ Less) ps
above p q [] below all = tt
above p q (r ∷ ps) below all = (place_total.trans p q r below all.0, above p q ps below all.1)

sorted_after : (p : Place) (ps : List Place) → Ascends (Some p) ps → IsStrictlySortedBy place_cmp (p ∷ ps)
unfolding IsStrictlySortedBy
sorted_after p [] ascends = (tt, tt)
sorted_after p (q ∷ ps) ascends =
    let rest : IsStrictlySortedBy place_cmp (q ∷ ps) = sorted_after q ps ascends.1 in
    let below : place_cmp p q ≡ Less = less_from (place_cmp p q) ascends.0 in
    ((below, above p q ps below (sorted_head place_cmp q ps rest)), rest)

pub sorted_from_ascends : (ps : List Place) → Ascends None ps → IsStrictlySortedBy place_cmp ps
unfolding IsStrictlySortedBy
sorted_from_ascends [] ascends = tt
sorted_from_ascends (p ∷ ps) ascends = sorted_after p ps ascends.1

-- the last of some places
-- ## Sections of a certificate

abbrev pub at : Nest → Stage → Reached
at n stage = record { stage = stage; nest = n }

pub walk_follows : (n m : Nest) (ws : List WalkLine) (rest : List Line) → follow_all nest_after n ws ≡ Some m
    → follow_all follows (at n s.Walk) (map l.Walk ws ++ rest) ≡ follow_all follows (at m s.Walk) rest
walk_follows n m [] rest e = let same : n ≡ m = cc in ap (λ (k : Nest). follow_all follows (at k s.Walk) rest) same
walk_follows n m (x ∷ ws) rest e = by (λ k f. walk_follows k m ws rest f) (nest_after n x) e
  where
    by : ((k : Nest) → follow_all nest_after k ws ≡ Some m → follow_all follows (at k s.Walk) (map l.Walk ws ++ rest) ≡ follow_all follows (at m s.Walk) rest) → (o : Option Nest) → option_and_then (λ k. follow_all nest_after k ws) o ≡ Some m
        → option_and_then (λ t. follow_all follows t (map l.Walk ws ++ rest)) (in_walk o) ≡ follow_all follows (at m s.Walk) rest
    by again None f = absurd (cc f)
    by again (Some k) f = again k f

pub places_follow : (n : Nest) (last : Option Place) (rows : List PlaceRow) (rest : List Line) → Ascends last (map place_of_row rows)
    → follow_all follows (at n (s.Places last)) (map l.Place rows ++ rest) ≡ follow_all follows (at n (s.Places (last_or last (map place_of_row rows)))) rest
places_follow n last [] rest ascends = refl
places_follow n last (r ∷ rows) rest ascends =
    ap (λ (b : Bool). option_and_then (λ t. follow_all follows t (map l.Place rows ++ rest)) (if b then at_stage n (s.Places (Some (place_of_row r))) else None)) ascends.0
    ∙ places_follow n (Some (place_of_row r)) rows rest ascends.1

pub instances_follow : (n : Nest) (last : Option Place) (rows : List InstanceRow) → Ascends last (map header_of_row rows)
    → follow_all follows (at n (s.Instances last)) (map l.Instance rows ++ l.Stop ∷ []) ≡ Some (at n s.Done)
instances_follow n last [] ascends = refl
instances_follow n last (r ∷ rows) ascends =
    ap (λ (b : Bool). option_and_then (λ t. follow_all follows t (map l.Instance rows ++ l.Stop ∷ [])) (if b then at_stage n (s.Instances (Some (header_of_row r))) else None)) ascends.0
    ∙ instances_follow n (Some (header_of_row r)) rows ascends.1

pub tail_follows : (n : Nest) (last : Option Place) (rows : List InstanceRow) → Ascends None (map header_of_row rows)
    → follow_all follows (at n (s.Places last)) (map l.Instance rows ++ l.Stop ∷ []) ≡ Some (at n s.Done)
tail_follows n last [] ascends = refl
tail_follows n last (r ∷ rows) ascends = instances_follow n (Some (header_of_row r)) rows ascends.1
