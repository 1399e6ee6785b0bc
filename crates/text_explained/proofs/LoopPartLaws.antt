-- The loops around a place, and those of which an edge is a back edge.
use Rattle.std.proofs.Common.{◌≡◌, ◌∙◌, ℕ, ◌+◌, ◌<◌, Bool, true, false, List, [], ◌∷◌, Some, None, get_or, length, take, refl, sym, ap}
use Rattle.std.specs.Prelude.{◌||◌, ◌&&◌, Option, slice_get}
use Rattle.std.specs.List.{list_any}
use Rattle.std.proofs.lemmas.Bool.{and_parts, false≢true}
use Rattle.std.proofs.lemmas.List.Folds.{list_any_more}
use Rattle.control_flow.specs.declared.edges.Edge.{Edge}
use Rattle.control_flow.specs.declared.places.Place.{Place}
use Rattle.control_flow.specs.declared.places.Place.TheVariants.{At, Exit}
use Rattle.loop_bounds.specs.Instance.{instance_of, is_back_edge_of, is_back_edge_to, is_header, is_member}
use Rattle.statement.specs.Stated.{lies_within}
use Rattle.statement.specs.declared.apart.ApartStretch.{ApartStretch}
use Rattle.statement.specs.declared.stated.Loop.{Loop}
use Rattle.text_explained.specs.PartSums.{loop_passes, passes_at}
use Rattle.text_explained.specs.Sums.{is_in_loop}
use Rattle.text_explained.proofs.MemberLaws.{members}

-- of the first elements
pub front_more : {X : Type 0} (p : X → Bool) (xs : List X) (i : ℕ) (d : X) → i < length xs → (old now new : Bool) → now ≡ (old || list_any p (take i xs)) → new ≡ (now || p (get_or xs i d))
    → new ≡ (old || list_any p (take (i + 1) xs))
front_more p xs i d lt old now new before is =
    is ∙ ap (λ b. b || p (get_or xs i d)) before ∙ joined old (list_any p (take i xs)) (p (get_or xs i d)) ∙ ap (λ b. old || b) (sym (list_any_more p xs i d lt))
  where
    joined : (a b c : Bool) → ((a || b) || c) ≡ (a || (b || c))
    joined true b c = refl
    joined false b c = refl

module _ (apart : List ApartStretch) (loops : List Loop) (n : ℕ) where
  abbrev lies : ℕ → Loop → Bool
  lies a l = lies_within apart l.first a l.last

  none : (calls : List ℕ) → list_any (λ call. false) calls ≡ false
  none [] = refl
  none (c ∷ calls) = none calls

  by_loop : (calls : List ℕ) (a : ℕ) (o : Option Loop)
      → (list_any (λ call. loop_passes (lies call) o) calls || loop_passes (lies a) o) ≡ loop_passes (λ (l : Loop). is_in_loop apart l (At calls a)) o
  by_loop calls a None = ap (λ b. b || false) (none calls)
  by_loop calls a (Some l) = refl

  pub around_place : (from : Place) (calls shown : List ℕ) (a : ℕ) (mid new : Bool) → from ≡ At calls a → shown ≡ calls
      → mid ≡ (false || list_any (λ call. passes_at loops (λ (l : Loop). lies_within apart l.first call l.last) n) shown)
      → new ≡ (mid || passes_at loops (λ (l : Loop). lies_within apart l.first a l.last) n) → new ≡ passes_at loops (λ (l : Loop). is_in_loop apart l from) n
  around_place from calls shown a mid new from_is shown_is mid_is new_is =
      new_is ∙ ap (λ b. b || passes_at loops (lies a) n) (mid_is ∙ ap (λ cs. list_any (λ call. passes_at loops (lies call) n) cs) shown_is)
      ∙ by_loop calls a (slice_get loops n) ∙ ap (λ (p : Place). passes_at loops (λ (l : Loop). is_in_loop apart l p) n) (sym from_is)

  -- a back edge comes from a word in the loop
  within : (l : Loop) (e : Edge) (p : Place) → is_back_edge_to apart l e p ≡ true → is_in_loop apart l e.from ≡ true
  within l e (At list a) back = (members apart l e.from).1 (list, (and_parts (is_member (instance_of apart l list) e.from) (is_header (instance_of apart l list) e.to) back).0)
  within l e Exit back = absurd (false≢true back)

  held : (x y : Bool) → (y ≡ true → x ≡ true) → (x && y) ≡ y
  held x true h = ap (λ b. b && true) (h refl)
  held true false h = refl
  held false false h = refl

  by_back : (e : Edge) (o : Option Loop)
      → (loop_passes (λ (l : Loop). is_in_loop apart l e.from) o && loop_passes (λ (l : Loop). is_back_edge_of apart l e) o) ≡ loop_passes (λ (l : Loop). is_back_edge_of apart l e) o
  by_back e None = refl
  by_back e (Some l) = held (is_in_loop apart l e.from) (is_back_edge_of apart l e) (within l e e.to)

  pub begun_inside : (e : Edge) → (passes_at loops (λ (l : Loop). is_in_loop apart l e.from) n && passes_at loops (λ (l : Loop). is_back_edge_of apart l e) n)
      ≡ passes_at loops (λ (l : Loop). is_back_edge_of apart l e) n
  begun_inside e = by_back e (slice_get loops n)
