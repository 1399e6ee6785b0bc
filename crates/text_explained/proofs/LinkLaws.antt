-- Where R14 is lost: words, edges, and the search for places step by step.
use Rattle.std.proofs.Common.{◌≡◌, ◌∙◌, ℕ, ◌+◌, ◌-◌, ◌<◌, ◌≤◌, Bool, true, false, cond, List, [], ◌∷◌, ◌++◌, length, length-append, get_or, take, drop, Ok, Err, inl, inr, ⊎_elim, refl, sym, ap, subst, arith}
use Rattle.std.specs.Prelude.{◌↔◌, Contains, IsTrue}
use Rattle.std.specs.BTreeSet as sets
use Rattle.std.specs.BTreeSet.{BTreeSet, btree_set_len}
use Rattle.std.specs.List.{slice_range}
use Rattle.std.specs.List.Sorted.{IsBinarySearchResult, IsSearchInRange, IsStrictlySortedBy}
use Rattle.std.specs.Ordering.{nat_cmp}
use Rattle.std.proofs.lemmas.Bool.{eq-eqb, eqb-true, false≢true, or_cases}
use Rattle.std.proofs.lemmas.Cmp.{nat_cmp_total}
use Rattle.std.proofs.lemmas.List.{get_or-drop, get_or-take, get_or_append_left, get_or_read, length-drop, length-take, take_all, take_more}
use Rattle.std.proofs.lemmas.List.Elements.{Contains-append_left, Contains-get_or, Contains-push, Contains-push_cases}
use Rattle.std.proofs.lemmas.List.Folds.{list_any_at}
use Rattle.std.proofs.lemmas.Map.Lookups.{exact_unsigned}
use Rattle.std.proofs.lemmas.Map.Views.{btree_set_contains_iff}
use Rattle.control_flow.specs.Flow.{Flow, HasEdge, IsEdgeRange, IsWellFormed}
use Rattle.control_flow.specs.Places.{place_at}
use Rattle.control_flow.specs.Search.{by_order}
use Rattle.control_flow.specs.declared.edges.Edge.{Edge}
use Rattle.control_flow.specs.declared.places.Place.{Place}
use Rattle.control_flow.specs.declared.places.Place.TheVariants.{At, Exit}
use Rattle.control_flow.proofs.FoundLemmas.{same_more}
use Rattle.control_flow.proofs.PlaceLemmas.{by_order_exact, by_order_total, place_total, sorted_by_place}
use Rattle.control_flow.proofs.SortedLemmas.{here, length_within, no_member, there}
use Rattle.image.specs.Image.{Words}
use Rattle.loop_bounds.proofs.Positions.{place_known}
use Rattle.control_flow.proofs.Firsts.{whole_range}
use Rattle.word_shapes.specs.Growing.{Grows, HasSameMembers}
use Rattle.word_shapes.proofs.GrowLaws.{grows_none, grows_on, kept, keys_listed, no_shorter}
use Rattle.statement.specs.Stated.{Stated}
use Rattle.text_explained.specs.Links.{AreLostLinks, Does, DoesTo, IsLost, MayReturnByLink, kept_along, overwritten}
use Rattle.text_explained.specs.Losing.{ByEdge, HasRoom, LeadsTo}
use Rattle.text_explained.specs.declared.links.LinkStep.{LinkStep}
use Rattle.text_explained.specs.declared.links.LinkStep.TheVariants.{Overwrites, Keeps}
use Rattle.text_explained.specs.declared.links.Overwrite.{Overwrite}
use Rattle.text_explained.specs.Taken.{is_at, is_reached}
use borrow.Author.Count.{below_more}

-- ## Edges

pub led_one : (image : Words) (st : Stated) (step : LinkStep) (e : Edge) → Does image st step e.from e.to → (p : Place) → LeadsTo image st step e p ↔ (e.to ≡ p)
led_one image st step e does p = (λ w. w.1, λ same. (does, same))

pub does_decides : (image : Words) (st : Stated) (step : LinkStep) (from to : Place) (calls inner : List ℕ) (a b : ℕ) (r : Bool) → from ≡ At calls a → to ≡ At inner b → IsTrue r ↔ DoesTo image st step calls inner a
    → IsTrue r ↔ Does image st step from to
does_decides image st step from to calls inner a b r from_is to_is is =
    subst (λ (f : Place). IsTrue r ↔ Does image st step f to) (sym from_is) (subst (λ (t : Place). IsTrue r ↔ Does image st step (At calls a) t) (sym to_is) is)

-- ## Edges of a place

pub in_range : (es : List Edge) (a b : ℕ) (e : Edge) → Contains (slice_range es a b) e → (k : ℕ) × (a ≤ k) × (k < b) × (k < length es) × (get_or es k e ≡ e)
in_range es a b e h =
    let n = b - a in
    let rest = drop a es in
    let lt : h.0 < length (take n rest) = h.1 in
    let few : h.0 < n = omega (arith, lt, length-take n rest) in
    let inside : h.0 < length rest = omega (arith, lt, length-take n rest) in
    let len : length rest ≡ length es - a = length-drop a es in
    let at : get_or es (a + h.0) e ≡ e = sym (get_or-take n rest h.0 e few ∙ get_or-drop a es h.0 e) ∙ h.2 in
    (a + h.0, omega arith, omega (arith, few), omega (arith, inside, len), at)

pub from_range : (es : List Edge) (a b k : ℕ) (e : Edge) → a ≤ k → k < b → b ≤ length es → get_or es k e ≡ e → Contains (slice_range es a b) e
from_range es a b k e low high fits at =
    let n = b - a in
    let rest = drop a es in
    let few : k - a < n = omega (arith, low, high) in
    let len : length rest ≡ length es - a = length-drop a es in
    let lt : k - a < length (take n rest) = omega (arith, low, high, fits, len, length-take n rest) in
    let same : a + (k - a) ≡ k = omega (arith, low) in
    (k - a, lt, get_or-take n rest (k - a) e few ∙ get_or-drop a es (k - a) e ∙ ap (λ j. get_or es j e) same ∙ at)

module _ (flow : Flow) (well : IsWellFormed flow) where
  -- the edges of a place's range are exactly those that leave it
  pub leaving_found : (es : List Edge) (a b : ℕ) (p : Place) → es ≡ flow.edges → IsEdgeRange flow p a b
      → (e : Edge) → Contains (slice_range es a b) e ↔ (HasEdge flow e × (e.from ≡ p))
  leaving_found es a b p same range e = (
    λ h.
        let k = in_range flow.edges a b e (subst (λ (xs : List Edge). Contains (slice_range xs a b) e) same h) in
        ((k.0, k.3, k.4), sym (ap (λ (x : Edge). x.from) k.4) ∙ range.own k.0 e k.1 k.2),
    λ h.
        let k = h.0.0 in
        let part = whole_range flow p a b range k e h.0.1 (ap (λ (x : Edge). x.from) h.0.2 ∙ h.1) in
        subst (λ (xs : List Edge). Contains (slice_range xs a b) e) (sym same) (from_range flow.edges a b k e part.0 part.1 range.fits h.0.2),
  )

  -- no edge leaves a place that the graph has not
  pub none_leave : (places : List Place) (p : Place) (i : ℕ) → places ≡ flow.places → IsSearchInRange (Err i) (length places) → IsBinarySearchResult (λ y. by_order y p) places (Err i)
      → (e : Edge) → Contains [] e ↔ (HasEdge flow e × (e.from ≡ p))
  none_leave places p i same range found e = (
    λ h. absurd (no_member e h),
    λ h. absurd (false≢true ((place_known flow places p (Err i) false well same range found refl).1 (subst (Contains flow.places) h.1 (well.starts e h.0)))),
  )

  pub index_is : (places : List Place) (p : Place) (i : ℕ) → places ≡ flow.places → IsBinarySearchResult (λ y. by_order y p) places (Ok i) → place_at flow.places i ≡ p
  index_is places p i same found = ap (λ ps. place_at ps i) (sym same) ∙ by_order_exact (get_or places i Exit) p (found Exit)

-- ## Lists that grow

module _ (image : Words) (st : Stated) (step : LinkStep) (edges : List Edge) where
  pub grows_begun : (order : List Place) → Grows HasRoom (ByEdge image st step (take 0 edges)) order order
  grows_begun order = grows_none (ByEdge image st step (take 0 edges)) order (λ p w. no_member w.0 w.1)

  pub grows_more : (i : ℕ) (e : Edge) (old mid new : List Place) → i < length edges → e ≡ get_or edges i e → Grows HasRoom (ByEdge image st step (take i edges)) old mid → Grows HasRoom (LeadsTo image st step e) mid new
      → Grows HasRoom (ByEdge image st step (take (i + 1) edges)) old new
  grows_more i e old mid new lt is g h =
      let more : take (i + 1) edges ≡ take i edges ++ e ∷ [] = take_more edges i e lt ∙ ap (λ (x : Edge). take i edges ++ x ∷ []) (sym is) in
      grows_on (ByEdge image st step (take i edges)) (LeadsTo image st step e) (ByEdge image st step (take (i + 1) edges)) old mid new
      (λ p. (
        λ w. ⊎_elim (λ before. inl (w.0, before, w.2)) (λ same. inr (subst (λ (x : Edge). LeadsTo image st step x p) (sym same) w.2)) (Contains-push_cases (take i edges) e w.0 (subst (λ t. Contains t w.0) more w.1)),
        λ w. ⊎_elim
            (λ v. (v.0, subst (λ t. Contains t v.0) (sym more) (Contains-append_left (take i edges) (e ∷ []) v.0 v.1), v.2))
            (λ by. (e, subst (λ t. Contains t e) (sym more) (Contains-push (take i edges) e), by)) w,
      ))
      (λ longer room. room) g h

  pub grows_all : (i : ℕ) (old new : List Place) → length edges ≤ i → Grows HasRoom (ByEdge image st step (take i edges)) old new → Grows HasRoom (ByEdge image st step edges) old new
  grows_all i old new le g = subst (λ (t : List Edge). Grows HasRoom (ByEdge image st step t) old new) (take_all i edges le) g

-- ## Found places

pub one_found : (seen new : BTreeSet Place) (order : List Place) (p : Place) (is_new : Bool) → HasSameMembers by_order seen order → sets.Updates by_order seen new p true
    → btree_set_len new ≡ btree_set_len seen + cond is_new 1 0 → is_new ≡ true → HasSameMembers by_order new (order ++ p ∷ [])
one_found seen new order p is_new found updates len is_new_is =
    let one : btree_set_len new ≡ btree_set_len seen + 1 = len ∙ ap (λ b. btree_set_len seen + cond b 1 0) is_new_is in
    let longer : length (order ++ p ∷ []) ≡ length order + 1 = length-append order (p ∷ []) in
    let was : length order ≡ btree_set_len seen = found.count in
    record { same = same_more by_order_total by_order_exact (λ q. q) (λ p q e. e) seen new order p found.same updates; count = omega arith }

-- ## The search

module _ (image : Words) (st : Stated) (flow : Flow) (by : Overwrite) where
  -- from the place those edges that keep R14 lead to known places
  abbrev pub IsFollowed : List Place → Place → Type 0
  IsFollowed order p = (e : Edge) → HasEdge flow e → e.from ≡ p → Does image st Keeps e.from e.to → Contains order e.to

  pub record IsSearch (order : List Place) (next : ℕ) : Type 0 where
    pub after : (e : Edge) → HasEdge flow e → Does image st (Overwrites by) e.from e.to → Contains order e.to
    pub lost : (p : Place) → Contains order p → IsLost image st flow by p
    pub bound : next ≤ length order
    pub followed : (k : ℕ) (d : Place) → k < next → IsFollowed order (get_or order k d)

  inside : (step : LinkStep) (from to : Place) → Does image st step from to → to ≡ Exit → ⊥
  inside step (At calls a) (At inner b) does out = cc
  inside step (At calls a) Exit does out = does
  inside step Exit to does out = does

  led_into : (step : LinkStep) (e : Edge) → IsWellFormed flow → HasEdge flow e → Does image st step e.from e.to → Contains flow.places e.to
  led_into step e well has does = ⊎_elim (λ out. absurd (inside step e.from e.to does out)) (λ known_one. known_one) (well.ends e has)

  in_graph : IsWellFormed flow → (p : Place) → IsLost image st flow by p → Contains flow.places p
  in_graph well p (overwritten e has does) = led_into (Overwrites by) e well has does
  in_graph well p (kept_along e has lost keeps) = led_into Keeps e well has keeps

  pub search_begun : (old order : List Place) (edges : List Edge) → old ≡ [] → edges ≡ flow.edges → Grows HasRoom (ByEdge image st (Overwrites by) edges) old order → IsSearch order 0
  search_begun old order edges empty same g = record {
    after = λ e has does. g.to tt e.to (e, subst (λ (es : List Edge). Contains es e) (sym same) has, (does, refl));
    lost = λ p h. ⊎_elim (λ w. absurd (no_member p (subst (λ t. Contains t p) empty w)))
        (λ w. subst (IsLost image st flow by) w.2.1 (overwritten w.0 (subst (λ (es : List Edge). Contains es w.0) same w.1) w.2.0)) (g.from p h);
    bound = omega arith;
    followed = λ k d lt. absurd (omega (arith, lt));
  }

  pub search_more : (order new : List Place) (next : ℕ) (p : Place) (edges : List Edge) → IsSearch order next → next < length order → p ≡ get_or order next p
      → ((e : Edge) → Contains edges e ↔ (HasEdge flow e × (e.from ≡ p))) → Grows HasRoom (ByEdge image st Keeps edges) order new → IsSearch new (next + 1)
  search_more order new next p edges s lt is leave g =
      let longer = no_shorter order new g in
      let here : IsLost image st flow by p = s.lost p (subst (Contains order) (sym is) (Contains-get_or order next p lt)) in
      let each : (k : ℕ) → k < next + 1 → (d : Place) → IsFollowed new (get_or order k d) =
      below_more (λ (j : ℕ). (d : Place) → IsFollowed new (get_or order j d)) next
      (λ j l d. λ e has from keeps. kept order new e.to g (s.followed j d l e has from keeps))
      (λ d. subst (IsFollowed new) (get_or_read order next p lt is d) (λ e has from keeps. g.to tt e.to (e, (leave e).1 (has, from), (keeps, refl)))) in
      record {
        after = λ e has does. kept order new e.to g (s.after e has does);
        lost = λ q h. ⊎_elim (λ w. s.lost q w)
            (λ w.
            let edge = (leave w.0).0 w.1 in
            subst (IsLost image st flow by) w.2.1 (kept_along w.0 edge.0 (subst (IsLost image st flow by) (sym edge.1) here) w.2.0))
            (g.from q h);
        bound = omega (arith, longer, lt);
        followed = λ k d l. subst (IsFollowed new)
            (sym (ap (λ t. get_or t k d) g.more.1 ∙ get_or_append_left order g.more.0 d k (omega (arith, l, lt)))) (each k l d);
      }

  -- what holds the places after overwriting edges, and with a place all to which R14 is kept from it, holds all
  closed : (order : List Place) → ((e : Edge) → HasEdge flow e → Does image st (Overwrites by) e.from e.to → Contains order e.to)
      → ((e : Edge) → HasEdge flow e → Contains order e.from → Does image st Keeps e.from e.to → Contains order e.to) → (p : Place) → IsLost image st flow by p → Contains order p
  closed order after next p (overwritten e has does) = after e has does
  closed order after next p (kept_along e has lost keeps) = next e has (closed order after next e.from lost) keeps

  pub search_done : (order : List Place) (next : ℕ) → IsSearch order next → length order ≤ next → (p : Place) → Contains order p ↔ IsLost image st flow by p
  search_done order next s all p = (
    s.lost p,
    closed order s.after (λ e has at keeps. s.followed at.0 e.from (let lt : at.0 < length order = at.1 in omega (arith, lt, all)) e has (sym at.2) keeps) p,
  )

  -- no more are found than the graph has
  pub few_found : IsWellFormed flow → (seen : BTreeSet Place) (order : List Place) (next : ℕ) → HasSameMembers by_order seen order → sets.IsOrdered by_order seen → IsSearch order next → btree_set_len seen ≤ 16384
  few_found well seen order next found ordered s =
      let within : length seen.keys ≤ length flow.places =
      length_within place_total seen.keys flow.places (sorted_by_place seen.keys ordered) well.ordered
      (λ p h. in_graph well p (s.lost p ((keys_listed by_order_total by_order_exact seen order found p).0 h))) in
      omega (arith, within, well.few)

-- ## Addresses

at_place : (a : ℕ) (p : Place) → is_at a p ≡ true → (calls : List ℕ) × (p ≡ At calls a)
at_place a (At calls b) h = (calls, ap (At calls) (eqb-true b a h))
at_place a Exit h = absurd (false≢true h)

is_there : (calls : List ℕ) (a : ℕ) (p : Place) → p ≡ At calls a → is_at a p ≡ true
is_there calls a p is = ap (is_at a) is ∙ eq-eqb a a refl

place_at_it : (places : List Place) (a : ℕ) → is_reached places a ≡ true → (calls : List ℕ) × Contains places (At calls a)
place_at_it [] a h = absurd (false≢true h)
place_at_it (p ∷ ps) a h = ⊎_elim
    (λ first. let w = at_place a p first in (w.0, subst (Contains (p ∷ ps)) w.1 (here p ps)))
    (λ later. let w = place_at_it ps a later in (w.0, there p ps (At w.0 a) w.1))
    (or_cases (is_at a p) (is_reached ps a) h)

reached_by : (places : List Place) (a : ℕ) (calls : List ℕ) → Contains places (At calls a) → is_reached places a ≡ true
reached_by places a calls h = list_any_at (is_at a) places h.0 (At calls a) h.1 (is_there calls a (get_or places h.0 (At calls a)) h.2)

pub are_lost : (image : Words) (st : Stated) (flow : Flow) (by : Overwrite) (places given : List Place) (set : BTreeSet ℕ) (items : List ℕ) → given ≡ places → ((p : Place) → Contains places p ↔ IsLost image st flow by p)
    → ((a : ℕ) → (sets.contains nat_cmp set a ≡ true) ↔ ((is_reached given a ≡ true) × MayReturnByLink image st a)) → items ≡ set.keys → IsStrictlySortedBy nat_cmp items
    → AreLostLinks image st flow by items
are_lost image st flow by places given set items same lost named is ascending = record {
  ascending = ascending;
  each = λ a.
      let iff = btree_set_contains_iff nat_cmp_total exact_unsigned set a in
      let at = ap (λ (ps : List Place). is_reached ps a) same in (
        λ h.
            let w = (named a).0 (iff.1 (subst (λ xs. Contains xs a) is h)) in
            let r = place_at_it places a (sym at ∙ w.0) in
            (r.0, (lost (At r.0 a)).0 r.1, w.1),
        λ h. subst (λ xs. Contains xs a) (sym is) (iff.0 ((named a).1 (at ∙ reached_by places a h.0 ((lost (At h.0 a)).1 h.1), h.2))),
      );
}
