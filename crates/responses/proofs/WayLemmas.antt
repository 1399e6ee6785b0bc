-- Ways found one after another, and the greatest cost to where walks end.
use Rattle.std.proofs.Common.{◌≡◌, ◌∙◌, ℕ, ◌+◌, ◌<◌, ◌≤◌, ◌⊎◌, max, Bool, true, false, not, List, [], ◌∷◌}
use Rattle.std.proofs.Common.{◌++◌, length, get_or, Contains, Option, Some, None, ⊎_elim, inl, inr, Vec, refl}
use Rattle.std.proofs.Common.{sym, ap, subst, arith}
use Rattle.std.specs.Global.{Global}
use Rattle.std.specs.Option.{IfSome}
use Rattle.std.proofs.lemmas.Bool.{both_ways, cases_lt, lt-ltb, ltb-true}
use Rattle.std.proofs.lemmas.List.{get_or_append_left, get_or_default, get_or_push, length_push}
use Rattle.std.proofs.lemmas.List.Elements.{Contains-get_or}
use Rattle.walks.specs.declared.limits.TheConstants.{COST_LIMIT}
use Rattle.numbered_walks.specs.declared.span.NumberedEdge.{NumberedEdge}
use Rattle.numbered_walks.specs.declared.span.Span.{Span}
use Rattle.numbered_walks.specs.Index.{AreGrouped, edge_at}
use Rattle.numbered_walks.specs.Ordered.{IsGreatest, TooLarge}
use Rattle.numbered_walks.proofs.Members.{no_numbered_edge}
use Rattle.responses.specs.declared.ways.Way.{Way}
use Rattle.responses.specs.declared.ways.Way.TheVariants.{Apart, Before, There}
use Rattle.responses.specs.Arriving.{AreWays, HasGreatestThere, IsReachedUp, IsGreatestThere, greater}
use Rattle.responses.specs.Arriving.{is_before, is_reached, is_there, way_at}

-- ## Edges up to a number

module _ (edges : List NumberedEdge) (groups : List (Vec ℕ Global)) (ways : List Way) (p : ℕ)
    (d : Vec ℕ Global) (small : p < length groups) (all : AreGrouped edges (length edges) true groups) where
  -- one of the group begins where walks go on
  abbrev pub HasEntering : List ℕ → Type 0
  HasEntering group = (k : ℕ) × Contains group k × (is_before (way_at ways (edge_at edges k).from) ≡ true)

  pub came_by : (group : List ℕ) → group ≡ (get_or groups p d).items → HasEntering group
      → IsReachedUp edges ways p
  came_by group is (k, has, on) =
      let known = (all p d small k).0 (subst (λ (l : List ℕ). Contains l k) is has) in (
        edge_at edges k,
        Contains-get_or edges k no_numbered_edge known.0,
        known.1,
        omega
            (arith, known.1, ltb-true (edge_at edges k).from (edge_at edges k).to known.2),
        on,
      )

  pub entering_of : (group : List ℕ) → group ≡ (get_or groups p d).items → IsReachedUp edges ways p
      → HasEntering group
  entering_of group is (e, (k, inside, here), ends, up, on) =
      let at : edge_at edges k ≡ e = get_or_default edges k no_numbered_edge e inside ∙ here in
      let to_is : (edge_at edges k).to ≡ p = ap (λ (x : NumberedEdge). x.to) at ∙ ends in
      let from_is : (edge_at edges k).from ≡ e.from = ap (λ (x : NumberedEdge). x.from) at in (
        k,
        subst (λ (l : List ℕ). Contains l k) (sym is)
            ((all p d small k).1 (
              inside,
              to_is,
              lt-ltb (edge_at edges k).from (edge_at edges k).to
                  (omega (arith, to_is, from_is, up)),
            )),
        subst (λ (n : ℕ). is_before (way_at ways n) ≡ true) (sym from_is) on,
      )

-- ## One more way

module _ (edges : List NumberedEdge) (at : ℕ → Bool) (ways : List Way)
    (known : AreWays edges at (length ways) ways) where
  abbrev way : Way → ℕ → Way
  way v p = way_at (ways ++ v ∷ []) p

  old : (v : Way) (p : ℕ) → p < length ways → way v p ≡ way_at ways p
  old v p lt = get_or_append_left ways (v ∷ []) Apart p lt

  new : (v : Way) (p : ℕ) → p ≡ length ways → way v p ≡ v
  new v p is = get_or_push ways v Apart p (sym is)

  came : (v : Way) (p : ℕ) → p < length ways + 1 → IsReachedUp edges ways p
      → IsReachedUp edges (ways ++ v ∷ []) p
  came v p lt (e, has, ends, up, on) = (e, has, ends, up, ap is_before (old v e.from (omega arith)) ∙ on)

  grown : (v : Way) → (is_reached v ≡ true → (length ways ≡ 0) ⊎ IsReachedUp edges ways (length ways))
      → ((length ways ≡ 0) ⊎ IsReachedUp edges ways (length ways) → is_reached v ≡ true)
      → (is_reached v ≡ true → is_before v ≡ not (at (length ways)))
      → AreWays edges at (length ways + 1) (ways ++ v ∷ [])
  grown v by comes go = record {
    whole = length_push ways v;
    first = λ lt. ⊎_elim
        (λ (some : 0 < length ways). ap is_reached (old v 0 some) ∙ known.first some)
        (λ none. let is : length ways ≡ 0 = omega arith in ap is_reached (new v 0 (sym is)) ∙ comes (inl is))
        (cases_lt 0 (length ways));
    reached = λ p lt holds. ⊎_elim
        (λ (low : p < length ways). ⊎_elim
        (λ (zero_is : p ≡ 0). inl zero_is)
        (λ h. inr (came v p lt h))
        (known.reached p low (ap is_reached (sym (old v p low)) ∙ holds)))
        (λ high.
        let is : p ≡ length ways = omega arith in
        ⊎_elim
        (λ (none : length ways ≡ 0). inl (is ∙ none))
        (λ h. inr (came v p lt (subst (λ (m : ℕ). IsReachedUp edges ways m) (sym is) h)))
        (by (ap is_reached (sym (new v p is)) ∙ holds)))
        (cases_lt p (length ways));
    all = λ e has up lt on.
        let before : is_before (way_at ways e.from) ≡ true = ap is_before (sym (old v e.from (omega arith)))
        ∙ on in
        ⊎_elim
        (λ (low : e.to < length ways). ap is_reached (old v e.to low) ∙ known.all e has up low before)
        (λ high.
        let is : e.to ≡ length ways = omega arith in
        ap is_reached (new v e.to is) ∙ comes (inr (e, has, is, omega arith, before)))
        (cases_lt e.to (length ways));
    go_on = λ p lt holds. ⊎_elim
        (λ (low : p < length ways). ap is_before (old v p low)
        ∙ known.go_on p low (ap is_reached (sym (old v p low)) ∙ holds))
        (λ high.
        let is : p ≡ length ways = omega arith in
        ap is_before (new v p is) ∙ go (ap is_reached (sym (new v p is)) ∙ holds)
        ∙ ap (λ (m : ℕ). not (at m)) (sym is))
        (cases_lt p (length ways));
  }

  pub grown_apart : ((length ways ≡ 0) ⊎ IsReachedUp edges ways (length ways) → ⊥)
      → AreWays edges at (length ways + 1) (ways ++ Apart ∷ [])
  grown_apart none = grown Apart (λ holds. absurd (both_ways false refl holds)) (λ h. absurd (none h))
      (λ holds. absurd (both_ways false refl holds))

  pub grown_there : (length ways ≡ 0) ⊎ IsReachedUp edges ways (length ways) → at (length ways) ≡ true
      → AreWays edges at (length ways + 1) (ways ++ There ∷ [])
  grown_there h is = grown There (λ holds. h) (λ holds. refl) (λ holds. sym (ap not is))

  pub grown_before : (length ways ≡ 0) ⊎ IsReachedUp edges ways (length ways) → at (length ways) ≡ false
      → AreWays edges at (length ways + 1) (ways ++ Before ∷ [])
  grown_before h is = grown Before (λ holds. h) (λ holds. refl) (λ holds. sym (ap not is))

pub no_ways : (edges : List NumberedEdge) (at : ℕ → Bool) (ways : List Way) → ways ≡ []
    → AreWays edges at 0 ways
no_ways edges at ways none = record {
  whole = ap (λ (v : List Way). length v) none;
  first = λ lt. absurd (omega arith);
  reached = λ p lt holds. absurd (omega arith);
  all = λ e has up lt on. absurd (omega arith);
  go_on = λ p lt holds. absurd (omega arith);
}

-- ## The greatest cost

module _ (edges : List NumberedEdge) (spans : List Span) (ways : List Way) where
  pub other_number : (done : ℕ) (greatest : Option ℕ) → is_there (way_at ways done) ≡ false
      → IsGreatestThere edges spans ways done greatest → IsGreatestThere edges spans ways (done + 1) greatest
  other_number done None out is = λ p lt. ⊎_elim
      (λ (low : p < done). is p low)
      (λ high. let same : p ≡ done = omega arith in ap (λ (m : ℕ). is_there (way_at ways m)) same ∙ out)
      (cases_lt p done)
  other_number done (Some n) out is = (
    is.0,
    λ p lt holds. ⊎_elim
        (λ (low : p < done). is.1 p low holds)
        (λ high. let same : p ≡ done = omega arith in absurd
        (both_ways (is_there (way_at ways p)) (ap (λ (m : ℕ). is_there (way_at ways m)) same ∙ out) holds))
        (cases_lt p done),
  )

  abbrev HasAtMost : ℕ → ℕ → Type 0
  HasAtMost n p = (m : ℕ) × IsGreatest p edges spans m × (m ≤ n)

  at_most : (n top p : ℕ) → n ≤ top → HasAtMost n p → HasAtMost top p
  at_most n top p le (m, is, small) = (m, is, omega arith)

  of_both : (done n ticks : ℕ) → is_there (way_at ways done) ≡ true → IsGreatest done edges spans ticks
      → IsGreatestThere edges spans ways done (Some n) → HasGreatestThere edges spans ways (max n ticks)
  of_both done n ticks here is others = ⊎_elim
      (λ (less : n < ticks). let top : ticks ≡ max n ticks = omega arith in
      subst (λ (m : ℕ). HasGreatestThere edges spans ways m) top (done, here, is))
      (λ more. let top : n ≡ max n ticks = omega arith in
      subst (λ (m : ℕ). HasGreatestThere edges spans ways m) top others.0)
      (cases_lt n ticks)

  pub there_number : (done : ℕ) (greatest : Option ℕ) (ticks : ℕ) → is_there (way_at ways done) ≡ true
      → IsGreatest done edges spans ticks → IsGreatestThere edges spans ways done greatest
      → IsGreatestThere edges spans ways (done + 1) (greater greatest ticks)
  there_number done None ticks here is others = (
    (done, here, is),
    λ p lt holds. ⊎_elim
        (λ (low : p < done). absurd (both_ways (is_there (way_at ways p)) (others p low) holds))
        (λ high. let same : done ≡ p = omega arith in subst (λ (m : ℕ). HasAtMost ticks m) same
        (ticks, is, omega arith))
        (cases_lt p done),
  )
  there_number done (Some n) ticks here is others = (
    of_both done n ticks here is others,
    λ p lt holds. ⊎_elim
        (λ (low : p < done). at_most n (max n ticks) p (omega arith) (others.1 p low holds))
        (λ high. let same : done ≡ p = omega arith in subst (λ (m : ℕ). HasAtMost (max n ticks) m) same
        (ticks, is, omega arith))
        (cases_lt p done),
  )

  pub none_yet : IsGreatestThere edges spans ways 0 None
  none_yet = λ p lt. absurd (omega arith)

  pub there_small : (exit done : ℕ) (greatest : Option ℕ) → (TooLarge exit edges spans → ⊥)
      → IsGreatestThere edges spans ways done greatest → IfSome greatest (λ ticks. ticks < COST_LIMIT)
  there_small exit done None none is = tt
  there_small exit done (Some n) none is =
      let p = is.0.0 in
      let g : IsGreatest p edges spans n = is.0.2 in
      ⊎_elim
      (λ (small : n < COST_LIMIT). small)
      (λ (large : COST_LIMIT ≤ n). absurd
      (none (record {
        place = p;
        walk = g.walk;
        leads = g.complete;
        kept = g.kept;
        costs = subst (λ (m : ℕ). COST_LIMIT ≤ m) (sym g.costs) large;
      })))
      (cases_lt n COST_LIMIT)
