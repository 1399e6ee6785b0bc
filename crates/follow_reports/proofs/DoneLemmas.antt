-- Which words a run does, by what it does at each place.
use Rattle.std.proofs.Common.{◌≡◌, ◌∙◌, ◌⊎◌, ℕ, ◌+◌, ◌<◌, Bool, true, false, ◌&&◌, eqb, List, length, get_or, inl, inr, ⊎_elim, refl, sym, ap, subst, arith}
use Rattle.std.specs.Prelude.{◌↔◌}
use Rattle.std.proofs.lemmas.Bool.{and_from, and_parts, cases_lt, eq-eqb, eqb-true, false≢true}
use Rattle.std.proofs.lemmas.List.Elements.{All-contains}
use Rattle.control_flow.specs.declared.places.Place.{Place}
use Rattle.control_flow.specs.declared.places.Place.TheVariants.{At, Exit}
use Rattle.control_flow.specs.Flow.{Flow}
use Rattle.control_flow.specs.Places.{place_at}
use Rattle.image.specs.Image.{Words}
use Rattle.sources.specs.declared.read.Source.{Source}
use Rattle.statement.specs.Stated.{Stated}
use Rattle.text_explained.specs.Assumed.{AreDone, AreDoneReturns, IsSection}
use Rattle.text_explained.specs.Taken.{is_at}
use Rattle.text_explained.proofs.RangeLaws.{is_counted, some_counted}
use Rattle.kept_runs.specs.Passing.{IsTally, Pass, nothing, passed_at}
use Rattle.kept_runs.specs.declared.tally.Passed.{Passed}
use Rattle.follow_reports.specs.FollowText.{IsDoneAt}
use Rattle.follow_reports.specs.FollowWork.{DoesAt, HasDone, NotesDone}

-- ## One place

module _ (place : Place) (p : Passed) (calls : List ℕ) (at : ℕ) (is : place ≡ At calls at) where
  here_is : (a : ℕ) → is_at a place ≡ true → at ≡ a
  here_is a here = eqb-true at a (sym (ap (is_at a) is) ∙ here)

  pub one_noted : (old new : ℕ → Bool) → 0 < p.done → ((a : ℕ) → (new a ≡ true) ↔ ((old a ≡ true) ⊎ (at ≡ a))) → NotesDone place p old new
  one_noted old new done adds a = (
    λ h. ⊎_elim (λ was. inl was) (λ same. inr (record { here = ap (is_at a) is ∙ eq-eqb at a same; done = done })) ((adds a).0 h),
    λ h. (adds a).1 (⊎_elim (λ was. inl was) (λ (d : DoesAt a place p). inr (here_is a d.here)) h),
  )

pub none_noted : (place : Place) (p : Passed) (old : ℕ → Bool) → ((a : ℕ) → DoesAt a place p → ⊥) → NotesDone place p old old
none_noted place p old none a = (λ h. inl h, λ h. ⊎_elim (λ was. was) (λ d. absurd (none a d)) h)

pub nowhere_noted : (place : Place) (p : Passed) (old : ℕ → Bool) → place ≡ Exit → NotesDone place p old old
nowhere_noted place p old is = none_noted place p old (λ a d. absurd (false≢true (sym (ap (is_at a) is) ∙ d.here)))

-- ## All places

pub none_yet : (places : List Place) (by_place : List Passed) (set : ℕ → Bool) → ((a : ℕ) → set a ≡ false) → HasDone places by_place 0 set
none_yet places by_place set empty a = (λ h. absurd (false≢true (sym (empty a) ∙ h)), λ h. absurd (let lt : h.0 < 0 = h.1 in omega arith))

module _ (places : List Place) (by_place : List Passed) where
  abbrev at_place : ℕ → ℕ → Type 0
  at_place a k = DoesAt a (place_at places k) (get_or by_place k nothing)

  before_or_here : (a n k : ℕ) → k < n + 1 → at_place a k → ((j : ℕ) × (j < n) × at_place a j) ⊎ at_place a n
  before_or_here a n k lt d = ⊎_elim
      (λ below. inl (k, below, d))
      (λ above. let same : k ≡ n = omega arith in inr (subst (at_place a) same d))
      (cases_lt k n)

  pub one_more : (n : ℕ) (old new : ℕ → Bool) → HasDone places by_place n old → NotesDone (place_at places n) (get_or by_place n nothing) old new
      → HasDone places by_place (n + 1) new
  one_more n old new before notes a = (
    λ h. ⊎_elim
        (λ was. let w = (before a).0 was in let lt : w.0 < n = w.1 in let more : w.0 < n + 1 = omega arith in (w.0, more, w.2))
        (λ here. let lt : n < n + 1 = omega arith in (n, lt, here))
        ((notes a).0 h),
    λ h. (notes a).1 (⊎_elim (λ earlier. inl ((before a).1 earlier)) (λ here. inr here) (before_or_here a n h.0 h.1 h.2)),
  )

-- ## The steps

module _ (flow : Flow) (passes : List Pass) (by_place : List Passed) (tally : IsTally flow passes by_place) where
  does_at : (a k : ℕ) → k < length flow.places → DoesAt a (place_at flow.places k) (get_or by_place k nothing) → IsDoneAt flow passes a
  does_at a k lt d =
      let some : 0 < (passed_at passes k).done = subst (λ (p : Passed). 0 < p.done) (tally.each k lt) d.done in
      let w = some_counted (λ (p : Pass). eqb p.place k && p.done) passes some in
      let both = and_parts (eqb w.0.place k) w.0.done w.2 in
      let here : w.0.place ≡ k = eqb-true w.0.place k both.0 in
      (w.0, w.1, both.1, subst (λ (j : ℕ). is_at a (place_at flow.places j) ≡ true) (sym here) d.here)

  is_done : (a : ℕ) → IsDoneAt flow passes a → (k : ℕ) × (k < length flow.places) × DoesAt a (place_at flow.places k) (get_or by_place k nothing)
  is_done a h =
      let p = h.0 in
      let lt = All-contains (λ (q : Pass). q.place < length flow.places) passes p tally.inside h.1 in
      let some : 0 < (passed_at passes p.place).done = is_counted (λ (q : Pass). eqb q.place p.place && q.done) passes p h.1 (and_from (eqb p.place p.place) p.done (eq-eqb p.place p.place refl) h.2) in
      (p.place, lt, record { here = h.3; done = subst (λ (q : Passed). 0 < q.done) (sym (tally.each p.place lt)) some })

  -- the words that the steps do are those of the set
  pub done_exactly : (set : ℕ → Bool) → HasDone flow.places by_place (length flow.places) set → (a : ℕ) → (set a ≡ true) ↔ IsDoneAt flow passes a
  done_exactly set has a = (λ h. let w = (has a).0 h in does_at a w.0 w.1 w.2, λ h. (has a).1 (is_done a h))

-- ## Their texts

module _ (Of Is : ℕ → Type 0) (same : (a : ℕ) → Of a ↔ Is a) where
  named_as : (AreNamed : List ℕ → Type 0) (named : List ℕ) → AreDone Of AreNamed named → AreDone Is AreNamed named
  named_as AreNamed named d = record {
    all = d.all;
    are_named = d.are_named;
    ascending = d.ascending;
    each = λ a. (λ h. let w = (d.each a).0 h in (w.0, (same a).0 w.1), λ h. (d.each a).1 (h.0, (same a).1 h.1));
  }

  section_as : (source : Source) (heading : List ℕ) (AreNamed : List ℕ → Type 0) (text : List ℕ)
      → IsSection source heading (AreDone Of AreNamed) text → IsSection source heading (AreDone Is AreNamed) text
  section_as source heading AreNamed text s = record { named = s.named; rows = s.rows; are_named = named_as AreNamed s.named s.are_named; are_rows = s.are_rows; text_is = s.text_is }

  pub returns_as : (source : Source) (image : Words) (st : Stated) (flow : Flow) (text : List ℕ) → AreDoneReturns source image st flow Of text → AreDoneReturns source image st flow Is text
  returns_as source image st flow text r = record {
    returns = r.returns;
    flags = r.flags;
    called = r.called;
    addressed = r.addressed;
    are_returns = section_as source _ _ r.returns r.are_returns;
    are_flags = section_as source _ _ r.flags r.are_flags;
    are_called = section_as source _ _ r.called r.are_called;
    are_addressed = section_as source _ _ r.addressed r.are_addressed;
    text_is = r.text_is;
  }
