-- What a step of the search changes.
use Rattle.std.proofs.Common.{◌≡◌, ◌≢◌, ℕ, ◌+◌, ◌<◌, List, [], length, get_or, set, ⊎_elim, refl, sym, ap, ◌∙◌, subst, arith}
use Rattle.std.specs.Prelude.{sum}
use Rattle.std.proofs.lemmas.List.{get_or-set_same, get_or-set_other, get_or_read}
use Rattle.std.proofs.lemmas.List.Sums.{sum_by-set}
use Rattle.std.proofs.lemmas.Bool.{cases_eq}
use Rattle.numbered_walks.specs.declared.span.NumberedEdge.{NumberedEdge}
use Rattle.loop_bounds.specs.declared.order.Colour.{Colour}
use Rattle.loop_bounds.specs.declared.order.Colour.TheVariants.{White, Grey, Black}
use Rattle.loop_bounds.specs.Edges.{IsGrouped, exit_of}
use Rattle.loop_bounds.specs.declared.order.Search.{Search}
use Rattle.loop_bounds.specs.Search.{colour_at, IsAtHand, IsSearched, IsSearching, IsVisiting}

pub black_met : Black ≢ White
black_met e = cc

pub grey_met : Grey ≢ White
grey_met e = cc

-- a node that is white when another has been met was white before
pub met_before : (colours : List Colour) (node : ℕ) (x : Colour) → node < length colours → x ≢ White → (v : ℕ) → colour_at (set colours node x) v ≡ White
    → colour_at colours v ≡ White
met_before colours node x inside other v white = ⊎_elim
    (λ (same : v ≡ node). absurd (other (sym (get_or-set_same colours node x White inside) ∙ ap (colour_at (set colours node x)) (sym same) ∙ white)))
    (λ (ne : v ≡ node → ⊥). sym (get_or-set_other colours node v x White ne) ∙ white)
    (cases_eq v node)

pub followed : (next : List ℕ) (node k : ℕ) → node < length next → k ≡ get_or next node 0 → sum (set next node (k + 1)) ≡ sum next + 1
followed next node k inside is =
    let one : sum (set next node (k + 1)) + get_or next node 0 ≡ sum next + (k + 1) = sum_by-set (λ (x : ℕ). x) next node (k + 1) 0 inside in
    omega arith

module _ (firsts : List ℕ) (edges : List NumberedEdge) (grouped : IsGrouped firsts edges) (search : Search) (s : IsSearching firsts edges search) where
  pub hand_inside : (top node k : ℕ) → IsAtHand search.path.items search.next.items top node k → node < exit_of firsts
  hand_inside top node k h = subst (λ (n : ℕ). n < exit_of firsts) (sym h.node_is) (s.inside top (omega (arith, h.top_is)))

  pub hand_in_colours : (top node k : ℕ) → IsAtHand search.path.items search.next.items top node k → node < length search.colours.items
  hand_in_colours top node k h = omega (arith, hand_inside top node k h, s.whole)

  pub hand_in_next : (top node k : ℕ) → IsAtHand search.path.items search.next.items top node k → node < length search.next.items
  hand_in_next top node k h = omega (arith, hand_inside top node k h, s.wide)

-- no node is grey where the path is empty
none_grey : (firsts : List ℕ) (edges : List NumberedEdge) (search : Search) → IsSearching firsts edges search → search.path.items ≡ [] → (v : ℕ) → colour_at search.colours.items v ≡ Grey → ⊥
none_grey firsts edges search s idle v grey =
    let at = s.held v grey in
    let none : length search.path.items ≡ 0 = ap length idle in
    absurd (omega (arith, at.1, none))

black_left : (firsts : List ℕ) (edges : List NumberedEdge) (search : Search) → IsSearching firsts edges search → search.path.items ≡ [] → (v : ℕ) (seen : Colour)
    → colour_at search.colours.items v ≡ seen → seen ≢ White → colour_at search.colours.items v ≡ Black
black_left firsts edges search s idle v White is other = absurd (other refl)
black_left firsts edges search s idle v Grey is other = absurd (none_grey firsts edges search s idle v is)
black_left firsts edges search s idle v Black is other = is

-- a node that is met between visits is black
pub passed : (firsts : List ℕ) (edges : List NumberedEdge) → IsGrouped firsts edges → (search : Search) (node : ℕ) → node < exit_of firsts → IsSearched firsts edges search node → (seen : Colour)
    → seen ≡ get_or search.colours.items node seen → seen ≢ White → IsSearched firsts edges search (node + 1)
passed firsts edges grouped search node inside s seen read other =
    let in_colours : node < length search.colours.items = omega (arith, s.searching.whole) in
    let is : colour_at search.colours.items node ≡ seen = sym (get_or_read search.colours.items node seen in_colours read White) in
    let black = black_left firsts edges search s.searching s.idle node seen is other in
    record {
      searching = s.searching;
      idle = s.idle;
      below = λ v l. ⊎_elim
          (λ (same : v ≡ node). ap (colour_at search.colours.items) same ∙ black)
          (λ (ne : v ≡ node → ⊥). s.below v (omega arith))
          (cases_eq v node);
    }

-- the path has ended
pub visited : (firsts : List ℕ) (edges : List NumberedEdge) (search : Search) (node : ℕ) → IsVisiting firsts edges search node → search.path.items ≡ [] → IsSearched firsts edges search (node + 1)
visited firsts edges search node s idle = record {
  searching = s.searching;
  idle = idle;
  below = λ v l. black_left firsts edges search s.searching idle v (colour_at search.colours.items v) refl (s.met v l);
}
