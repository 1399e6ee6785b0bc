-- When words begin at the latest.
use Rattle.std.proofs.Common.{◌≡◌, ◌∙◌, ℕ, ◌+◌, ◌<◌, ◌≤◌, min, max, Bool, true, false, cond, List, [], ◌∷◌, ◌++◌, map, length, get_or, take, Option, Some, None, ◌⊎◌, inl, inr, ⊎_elim, append-nil, refl, sym, ap, subst, arith}
use Rattle.std.specs.Prelude.{◌↔◌, Contains, filter, fold, if◌then◌else◌}
use Rattle.std.specs.List.{AllZip, zip}
use Rattle.std.proofs.lemmas.Bool.{cases_Bool, cases_lt, false≢true}
use Rattle.std.proofs.lemmas.List.{map-append, take_all}
use Rattle.std.proofs.lemmas.List.Elements.{filter_more}
use Rattle.std.proofs.lemmas.List.Sums.{fold-append}
use Rattle.std.proofs.lemmas.Slice.Zip.{get_or-zip, length-zip}
use Rattle.walks.specs.Walk.{Leads}
use Rattle.control_flow.specs.Flow.{Flow, HasEdge, IsWellFormed, edge_shape}
use Rattle.control_flow.specs.declared.edges.Edge.{Edge}
use Rattle.control_flow.specs.declared.places.Place.{Place}
use Rattle.control_flow.specs.declared.places.Place.TheVariants.{Exit}
use Rattle.control_flow.proofs.SortedLemmas.{cons_cases, here, no_member, there}
use Rattle.loop_bounds.specs.Tree.{Tree}
use Rattle.longest_walk.specs.Starts.{AreWorstStarts, IsWorstStart}
use Rattle.text_explained.specs.Starts.{Begins, ReachesAt, IsLatestStart, greatest_of, later, latest_at, starts_at}
use Rattle.text_explained.specs.Taken.{is_at}

-- ## A place more

module _ (places : List Place) (starts : List ℕ) where
  -- of the first so many places the starts at the address
  abbrev front_at : ℕ → ℕ → List ℕ
  front_at k a = map (λ (e : Place × ℕ). e.1) (filter (λ (e : Place × ℕ). is_at a e.0) (take k (zip places starts)))

  -- `found` says the greatest of them
  abbrev pub AreLatestSoFar : ℕ → (ℕ → Option ℕ) → Type 0
  AreLatestSoFar k found = (a : ℕ) → found a ≡ greatest_of (front_at k a)

  module _ (k : ℕ) (place : Place) (start : ℕ) (in_places : k < length places) (in_starts : k < length starts)
      (place_is : place ≡ get_or places k place) (start_is : start ≡ get_or starts k start) where
    pair_is : get_or (zip places starts) k (place, start) ≡ (place, start)
    pair_is =
        get_or-zip places starts k (place, start) in_places in_starts
        ∙ ap (λ (p : Place). (p, get_or starts k start)) (sym place_is) ∙ ap (λ (n : ℕ). (place, n)) (sym start_is)

    front_more : (a : ℕ) → front_at (k + 1) a ≡ front_at k a ++ map (λ (e : Place × ℕ). e.1) (cond (is_at a place) ((place, start) ∷ []) [])
    front_more a =
        let pairs = zip places starts in
        let is_there = λ (e : Place × ℕ). is_at a e.0 in
        let lt : k < length pairs = omega (arith, length-zip places starts) in
        let one : filter is_there (take (k + 1) pairs) ≡ filter is_there (take k pairs) ++ cond (is_at a place) ((place, start) ∷ []) [] =
        filter_more is_there pairs k (place, start) lt
        ∙ ap (λ (e : Place × ℕ). filter is_there (take k pairs) ++ cond (is_at a e.0) (e ∷ []) []) pair_is in
        ap (map (λ (e : Place × ℕ). e.1)) one ∙ map-append (λ (e : Place × ℕ). e.1) (filter is_there (take k pairs)) (cond (is_at a place) ((place, start) ∷ []) [])

    pub one_more : (old new : ℕ → Option ℕ) → AreLatestSoFar k old → Begins place start old new → AreLatestSoFar (k + 1) new
    one_more old new before adds a = adds a ∙ ⊎_elim
        (λ (here : is_at a place ≡ true).
        ap (λ b. if b then later (old a) start else old a) here ∙ ap (λ o. later o start) (before a)
        ∙ sym (ap (λ ns. greatest_of ns) (front_more a ∙ ap (λ b. front_at k a ++ map (λ (e : Place × ℕ). e.1) (cond b ((place, start) ∷ []) [])) here)
        ∙ fold-append later None (front_at k a) (start ∷ [])))
        (λ (apart : is_at a place ≡ false).
        ap (λ b. if b then later (old a) start else old a) apart ∙ before a
        ∙ sym (ap (λ ns. greatest_of ns) (front_more a ∙ ap (λ b. front_at k a ++ map (λ (e : Place × ℕ). e.1) (cond b ((place, start) ∷ []) [])) apart ∙ append-nil (front_at k a))))
        (cases_Bool (is_at a place))

  pub all_latest : (k : ℕ) (found : ℕ → Option ℕ) → k ≡ min (length places) (length starts) → AreLatestSoFar k found → (a : ℕ) → found a ≡ latest_at places starts a
  all_latest k found is are a =
      let pairs = zip places starts in
      let le : length pairs ≤ k = omega (arith, length-zip places starts) in
      are a ∙ ap (λ (es : List (Place × ℕ)). greatest_of (map (λ (e : Place × ℕ). e.1) (filter (λ (e : Place × ℕ). is_at a e.0) es))) (take_all k pairs le)

-- ## The greatest of some numbers

abbrev IsMost : (ℕ → Type 0) → Option ℕ → Type 0
IsMost Has None = (n : ℕ) → Has n → ⊥
IsMost Has (Some m) = Has m × ((n : ℕ) → Has n → n ≤ m)

most_like : (F G : ℕ → Type 0) → ((n : ℕ) → F n ↔ G n) → (r : Option ℕ) → IsMost F r → IsMost G r
most_like F G same None none = λ n g. none n ((same n).1 g)
most_like F G same (Some m) most = ((same m).0 most.0, λ n g. most.1 n ((same n).1 g))

one_most : (F : ℕ → Type 0) (r : Option ℕ) (x : ℕ) → IsMost F r → IsMost (λ n. F n ⊎ (x ≡ n)) (later r x)
one_most F None x none = (inr refl, λ n h. ⊎_elim (λ old. absurd (none n old)) (λ (e : x ≡ n). omega (arith, e)) h)
one_most F (Some m) x most = (
  ⊎_elim
      (λ (lt : m < x). let e : x ≡ max m x = omega arith in inr e)
      (λ (le : x ≤ m). let e : m ≡ max m x = omega arith in subst (λ k. F k ⊎ (x ≡ k)) e (inl most.0))
      (cases_lt m x),
  λ n h. ⊎_elim (λ old. let le : n ≤ m = most.1 n old in omega (arith, le)) (λ (e : x ≡ n). omega (arith, e)) h,
)

all_most : (F : ℕ → Type 0) (r : Option ℕ) (xs : List ℕ) → IsMost F r → IsMost (λ n. F n ⊎ Contains xs n) (fold later r xs)
all_most F r [] most = most_like F (λ n. F n ⊎ Contains {X = ℕ} [] n) (λ n. (λ f. inl f, λ h. ⊎_elim (λ f. f) (λ has. absurd (no_member n has)) h)) r most
all_most F r (x ∷ xs) most =
    most_like (λ n. (F n ⊎ (x ≡ n)) ⊎ Contains xs n) (λ n. F n ⊎ Contains (x ∷ xs) n)
    (λ n. (
      λ h. ⊎_elim (λ f. ⊎_elim (λ old. inl old) (λ (e : x ≡ n). inr (subst (Contains (x ∷ xs)) e (here x xs))) f) (λ has. inr (there x xs n has)) h,
      λ h. ⊎_elim (λ old. inl (inl old)) (λ has. ⊎_elim (λ e. inl (inr e)) (λ more. inr more) (cons_cases x xs n has)) h,
    ))
    (fold later (later r x) xs) (all_most (λ n. F n ⊎ (x ≡ n)) (later r x) xs (one_most F r x most))

greatest_is : (xs : List ℕ) → IsMost (Contains xs) (greatest_of xs)
greatest_is xs =
    most_like (λ n. ⊥ ⊎ Contains xs n) (Contains xs) (λ n. (λ h. ⊎_elim (λ never. absurd never) (λ has. has) h, λ has. inr has))
    (fold later None xs) (all_most (λ n. ⊥) None xs (λ n never. never))

-- ## The starts of places

module _ (R : Place → ℕ → Type 0) (a : ℕ) where
  kept : (p : Place) (ps : List Place) (s : ℕ) (ss : List ℕ) → is_at a p ≡ true → starts_at (p ∷ ps) (s ∷ ss) a ≡ s ∷ starts_at ps ss a
  kept p ps s ss here =
      ap (λ (b : Bool). map (λ (e : Place × ℕ). e.1) (cond b ((p, s) ∷ filter (λ (e : Place × ℕ). is_at a e.0) (zip ps ss)) (filter (λ (e : Place × ℕ). is_at a e.0) (zip ps ss)))) here

  left : (p : Place) (ps : List Place) (s : ℕ) (ss : List ℕ) → is_at a p ≡ false → starts_at (p ∷ ps) (s ∷ ss) a ≡ starts_at ps ss a
  left p ps s ss apart =
      ap (λ (b : Bool). map (λ (e : Place × ℕ). e.1) (cond b ((p, s) ∷ filter (λ (e : Place × ℕ). is_at a e.0) (zip ps ss)) (filter (λ (e : Place × ℕ). is_at a e.0) (zip ps ss)))) apart

  -- each of them is that of a place there
  of_place : (ps : List Place) (ss : List ℕ) → AllZip R ps ss → (n : ℕ) → Contains (starts_at ps ss a) n → (p : Place) × (is_at a p ≡ true) × R p n
  of_place [] [] all n has = absurd (no_member n has)
  of_place [] (s ∷ ss) all n has = absurd all
  of_place (p ∷ ps) [] all n has = absurd all
  of_place (p ∷ ps) (s ∷ ss) all n has = ⊎_elim
      (λ here. ⊎_elim
      (λ (same : s ≡ n). (p, here, subst (R p) same all.0))
      (λ more. of_place ps ss all.1 n more)
      (cons_cases s (starts_at ps ss a) n (subst (λ xs. Contains xs n) (kept p ps s ss here) has)))
      (λ apart. of_place ps ss all.1 n (subst (λ xs. Contains xs n) (left p ps s ss apart) has))
      (cases_Bool (is_at a p))

  -- each place there has one of them
  has_start : (ps : List Place) (ss : List ℕ) → AllZip R ps ss → (p : Place) → Contains ps p → is_at a p ≡ true → (n : ℕ) × R p n × Contains (starts_at ps ss a) n
  has_start [] ss all p has at = absurd (no_member p has)
  has_start (q ∷ ps) [] all p has at = absurd all
  has_start (q ∷ ps) (s ∷ ss) all p has at = ⊎_elim
      (λ (same : q ≡ p). (s, subst (λ (o : Place). R o s) same all.0, subst (λ xs. Contains xs s) (sym (kept q ps s ss (ap (is_at a) same ∙ at))) (here s (starts_at ps ss a))))
      (λ later_one.
      let w = has_start ps ss all.1 p later_one at in (
        w.0,
        w.1,
        ⊎_elim
            (λ first. subst (λ xs. Contains xs w.0) (sym (kept q ps s ss first)) (there s (starts_at ps ss a) w.0 w.2))
            (λ apart. subst (λ xs. Contains xs w.0) (sym (left q ps s ss apart)) w.2)
            (cases_Bool (is_at a q)),
      ))
      (cons_cases q ps p has)

-- ## Walks

module _ (flow : Flow) (well : IsWellFormed flow) where
  -- a walk from a place of the graph leads to one or out
  end_known : (walk : List Edge) (p q : Place) → (p ≡ Exit) ⊎ Contains flow.places p → Leads edge_shape (HasEdge flow) p walk q → (q ≡ Exit) ⊎ Contains flow.places q
  end_known [] p q from leads = subst (λ (r : Place). (r ≡ Exit) ⊎ Contains flow.places r) leads from
  end_known (e ∷ rest) p q from leads = end_known rest e.to q (well.ends e leads.0) leads.2

  module _ (tree : Tree) (starts : List ℕ) (a : ℕ) (are : AreWorstStarts flow tree starts) where
    place_in : (n : ℕ) (comes : ReachesAt flow tree a n) → Contains flow.places comes.place
    place_in n comes = ⊎_elim
        (λ (out : comes.place ≡ Exit). absurd (false≢true (sym (ap (is_at a) out) ∙ comes.there)))
        (λ known. known)
        (end_known comes.walk flow.entry comes.place (inr well.entry_in) comes.leads)

    its_start : (n : ℕ) (comes : ReachesAt flow tree a n) → (m : ℕ) × IsWorstStart flow tree comes.place m × Contains (starts_at flow.places starts a) m
    its_start n comes = has_start (IsWorstStart flow tree) a flow.places starts are comes.place (place_in n comes) comes.there

    by_most : (r : Option ℕ) → IsMost (Contains (starts_at flow.places starts a)) r → IsLatestStart flow tree a r
    by_most None none = λ n comes. let w = its_start n comes in none w.0 w.2
    by_most (Some m) most = (
      let w = of_place (IsWorstStart flow tree) a flow.places starts are m most.0 in
          record { place = w.0; there = w.1; walk = w.2.walk; leads = w.2.complete; kept = w.2.kept; costs = w.2.costs },
      λ n comes.
          let w = its_start n comes in
          let upper = w.1.upper comes.walk comes.leads comes.kept in
          let below = most.1 w.0 w.2 in
          omega (arith, upper, below, comes.costs),
    )

    latest_start : IsLatestStart flow tree a (latest_at flow.places starts a)
    latest_start = by_most (latest_at flow.places starts a) (greatest_is (starts_at flow.places starts a))

pub latest_is : (flow : Flow) (tree : Tree) (starts : List ℕ) (a : ℕ) → IsWellFormed flow → AreWorstStarts flow tree starts → IsLatestStart flow tree a (latest_at flow.places starts a)
latest_is flow tree starts a well are = latest_start flow well tree starts a are
