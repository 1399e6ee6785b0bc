-- The steps of a run, counted by the places where they begin.
use Rattle.std.proofs.Common.{◌≡◌, ◌≢◌, ◌∙◌, ℕ, ◌+◌, ◌<◌, ◌≤◌, Bool, cond, eqb, true, false, List, [], ◌∷◌, ◌++◌, length, get_or, replicate, ⊎_elim, refl, sym, ap, arith, get_or-set_same, get_or-set_other}
use Rattle.std.specs.Prelude.{◌&&◌, count_by, sum_by}
use Rattle.std.proofs.Math.ListN.{length-set}
use Rattle.std.proofs.lemmas.Bool.{cases_eq, eq-eqb, ne_eqb}
use Rattle.std.proofs.lemmas.List.{get_or-replicate, length-replicate}
use Rattle.std.proofs.lemmas.List.Elements.{All-nil, All-push}
use Rattle.std.proofs.lemmas.List.Sums.{sum_by_push}
use Rattle.control_flow.specs.Flow.{Flow}
use Rattle.kept_runs.specs.declared.following.Follower.{Follower}
use Rattle.kept_runs.specs.declared.tally.Passed.{Passed}
use Rattle.kept_runs.specs.Following.{IsTallyOf}
use Rattle.kept_runs.specs.Passing.{IsTally, Pass, counted, nothing, passed_at, with_step}

same_passed : (p q : Passed) → p.passes ≡ q.passes → p.done ≡ q.done → p.ticks ≡ q.ticks → p ≡ q
same_passed p q passes done ticks = λ i. record { passes = passes i; done = done i; ticks = ticks i }

-- ## Before a run

module _ (flow : Flow) (by_place : List Passed) (n : ℕ) (is : by_place ≡ replicate n nothing) (same : n ≡ length flow.places) where
  none_long : length by_place ≡ length flow.places
  none_long = ap length is ∙ length-replicate n nothing ∙ same

  none_each : (k : ℕ) → k < length flow.places → get_or by_place k nothing ≡ nothing
  none_each k lt = ap (λ (xs : List Passed). get_or xs k nothing) is ∙ get_or-replicate n k nothing nothing (omega (arith, lt, same))

  pub none_passed : IsTally flow [] by_place
  none_passed = record { inside = All-nil (λ p. p.place < length flow.places); whole = none_long; each = none_each }

pub fresh_tally : (flow : Flow) (x : Follower) (n : ℕ) → x.by_place.items ≡ replicate n nothing → n ≡ length flow.places → IsTallyOf flow x
fresh_tally flow x n is same = record {
  whole = none_long flow x.by_place.items n is same;
  passes = λ k lt. omega (arith, ap (λ (p : Passed). p.passes) (none_each flow x.by_place.items n is same k lt));
  done = λ k lt. omega (arith, ap (λ (p : Passed). p.done) (none_each flow x.by_place.items n is same k lt));
  ticks = λ k lt. omega (arith, ap (λ (p : Passed). p.ticks) (none_each flow x.by_place.items n is same k lt));
}

-- ## A step more

module _ (flow : Flow) (old new : List Passed) (place : ℕ) (done : Bool) (ticks : ℕ) (whole : length old ≡ length flow.places) (known : place < length flow.places) (is : new ≡ counted old place done ticks) where
  new_long : length new ≡ length flow.places
  new_long = ap length is ∙ length-set old place _ ∙ whole

  at_place : get_or new place nothing ≡ with_step (get_or old place nothing) done ticks
  at_place =
      ap (λ (xs : List Passed). get_or xs place nothing) is
      ∙ get_or-set_same old place (with_step (get_or old place nothing) done ticks) nothing (omega (arith, known, whole))

  elsewhere : (k : ℕ) → k ≢ place → get_or new k nothing ≡ get_or old k nothing
  elsewhere k other =
      ap (λ (xs : List Passed). get_or xs k nothing) is ∙ get_or-set_other old place k (with_step (get_or old place nothing) done ticks) nothing other

  -- the step's own place has it, and no other
  passed_here : (passes : List Pass) → passed_at (passes ++ record { place = place; done = done; ticks = ticks } ∷ []) place ≡ with_step (passed_at passes place) done ticks
  passed_here passes =
      let own : eqb place place ≡ true = eq-eqb place place refl in
      same_passed _ _
      (sum_by_push (λ (p : Pass). cond (eqb p.place place) 1 0) passes (record { place = place; done = done; ticks = ticks })
      ∙ ap (λ b. count_by (λ (p : Pass). eqb p.place place) passes + cond b 1 0) own)
      (sum_by_push (λ (p : Pass). cond (eqb p.place place && p.done) 1 0) passes (record { place = place; done = done; ticks = ticks })
      ∙ ap (λ b. count_by (λ (p : Pass). eqb p.place place && p.done) passes + cond (b && done) 1 0) own)
      (sum_by_push (λ (p : Pass). cond (eqb p.place place) p.ticks 0) passes (record { place = place; done = done; ticks = ticks })
      ∙ ap (λ b. sum_by (λ (p : Pass). cond (eqb p.place place) p.ticks 0) passes + cond b ticks 0) own)

  plus_none : (n : ℕ) → n + 0 ≡ n
  plus_none n = omega arith

  passed_elsewhere : (passes : List Pass) (k : ℕ) → k ≢ place → passed_at (passes ++ record { place = place; done = done; ticks = ticks } ∷ []) k ≡ passed_at passes k
  passed_elsewhere passes k other =
      let apart : eqb place k ≡ false = ne_eqb place k (λ e. other (sym e)) in
      same_passed _ _
      (sum_by_push (λ (p : Pass). cond (eqb p.place k) 1 0) passes (record { place = place; done = done; ticks = ticks })
      ∙ ap (λ b. count_by (λ (p : Pass). eqb p.place k) passes + cond b 1 0) apart ∙ plus_none _)
      (sum_by_push (λ (p : Pass). cond (eqb p.place k && p.done) 1 0) passes (record { place = place; done = done; ticks = ticks })
      ∙ ap (λ b. count_by (λ (p : Pass). eqb p.place k && p.done) passes + cond (b && done) 1 0) apart ∙ plus_none _)
      (sum_by_push (λ (p : Pass). cond (eqb p.place k) p.ticks 0) passes (record { place = place; done = done; ticks = ticks })
      ∙ ap (λ b. sum_by (λ (p : Pass). cond (eqb p.place k) p.ticks 0) passes + cond b ticks 0) apart ∙ plus_none _)

  pub one_passed : (passes : List Pass) → IsTally flow passes old → IsTally flow (passes ++ record { place = place; done = done; ticks = ticks } ∷ []) new
  one_passed passes t = record {
    inside = All-push (λ p. p.place < length flow.places) passes (record { place = place; done = done; ticks = ticks }) t.inside known;
    whole = new_long;
    each = λ k lt. ⊎_elim
        (λ (own : k ≡ place).
        ap (λ j. get_or new j nothing) own ∙ at_place ∙ ap (λ (p : Passed). with_step p done ticks) (t.each place known)
        ∙ sym (passed_here passes) ∙ ap (passed_at (passes ++ record { place = place; done = done; ticks = ticks } ∷ [])) (sym own))
        (λ (other : k ≢ place). elsewhere k other ∙ t.each k lt ∙ sym (passed_elsewhere passes k other))
        (cases_eq k place);
  }

pub tally_more : (flow : Flow) (x y : Follower) (place : ℕ) (done : Bool) (ticks : ℕ) → place < length flow.places → IsTallyOf flow x → y.by_place.items ≡ counted x.by_place.items place done ticks
    → y.steps ≡ x.steps + 1 → y.ticks ≡ x.ticks + ticks → IsTallyOf flow y
tally_more flow x y place done ticks known t is steps more = record {
  whole = new_long flow x.by_place.items y.by_place.items place done ticks t.whole known is;
  passes = λ k lt. ⊎_elim
      (λ (own : k ≡ place). let most = t.passes place known in omega (arith, most, steps, ap (λ j. (get_or y.by_place.items j nothing).passes) own, ap (λ (p : Passed). p.passes) here))
      (λ (other : k ≢ place). let most = t.passes k lt in omega (arith, most, steps, ap (λ (p : Passed). p.passes) (there k other)))
      (cases_eq k place);
  done = λ k lt. ⊎_elim
      (λ (own : k ≡ place). let most = t.done place known in let one = one_most done in omega (arith, most, one, steps, ap (λ j. (get_or y.by_place.items j nothing).done) own, ap (λ (p : Passed). p.done) here))
      (λ (other : k ≢ place). let most = t.done k lt in omega (arith, most, steps, ap (λ (p : Passed). p.done) (there k other)))
      (cases_eq k place);
  ticks = λ k lt. ⊎_elim
      (λ (own : k ≡ place). let most = t.ticks place known in omega (arith, most, more, ap (λ j. (get_or y.by_place.items j nothing).ticks) own, ap (λ (p : Passed). p.ticks) here))
      (λ (other : k ≢ place). let most = t.ticks k lt in omega (arith, most, more, ap (λ (p : Passed). p.ticks) (there k other)))
      (cases_eq k place);
}
  where
    one_most : (b : Bool) → cond b 1 0 ≤ 1
    one_most true = omega arith
    one_most false = omega arith

    here : get_or y.by_place.items place nothing ≡ with_step (get_or x.by_place.items place nothing) done ticks
    here = at_place flow x.by_place.items y.by_place.items place done ticks t.whole known is

    there : (k : ℕ) → k ≢ place → get_or y.by_place.items k nothing ≡ get_or x.by_place.items k nothing
    there = elsewhere flow x.by_place.items y.by_place.items place done ticks t.whole known is
