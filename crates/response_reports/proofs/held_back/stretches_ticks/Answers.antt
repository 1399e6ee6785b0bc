use Rattle.std.proofs.Common.{◌≡◌, ◌+◌, ◌∙◌, ◌∷◌, [], List, ℕ, ap, drop, map, rules, subst, sym}
use Rattle.std.specs.Prelude.{Vec}
use Rattle.std.specs.declared.alloc.Global.{Global}
use Rattle.std.proofs.lemmas.List.{at_drop_all, at_drop_more}
use Rattle.response_reports.specs.RespondWork.{IsBoundOf}
use Rattle.response_reports.proofs.HeldBackLemmas.{IsSoFar, ends, goes_on}
use Rattle.response_reports.proofs.held_back.stretches_ticks.Goals as goal

abbrev texts_of : List (Vec ℕ Global) → List (List ℕ)
texts_of vs = map (λ v. v.items) vs

pub loop-statement-preserved : goal.loop-statement-preserved
loop-statement-preserved c =
    let all = c.args.statements.now in
    let profile = c.args.profile.now in
    let said = c.args.said.now in
    let l = c.loop-statement in
    let v = c.statement-item.result in
    let rest = drop (l.statement-index + 1) all in
    let front : drop l.statement-index all ≡ v ∷ rest =
    at_drop_more (λ (vs : List (Vec ℕ Global)). vs) all l.statement-index v c.loop-statement-test.true ∙ ap (λ (x : Vec ℕ Global). x ∷ rest) (sym c.statement-item.is) in
    record {
      so_far = λ source is.
          let far = subst (λ (vs : List (Vec ℕ Global)). IsSoFar source profile said (texts_of all) (texts_of vs) l.total) front (l.invariant.so_far source is) in
          let bound = subst (λ (t : List ℕ). IsBoundOf source t profile c.in_ok-ticks.ticks) c.deref.ensures.value (c.in_ok-ticks.ensures.bound source is) in
          subst (λ (n : ℕ). IsSoFar source profile said (texts_of all) (texts_of rest) (l.total + n)) (sym c.from-total.ensures)
          (goes_on source profile said (texts_of all) (texts_of rest) v.items l.total far c.in_ok-ticks.ticks bound);
      small = search rules;
    }

pub returns-clause-add_up : goal.returns-clause-add_up
returns-clause-add_up c = λ source is.
    let all = c.args.statements.now in
    let l = c.loop-statement in
    ends source c.args.profile.now c.args.said.now (texts_of all) l.total
    (subst (λ (vs : List (Vec ℕ Global)). IsSoFar source c.args.profile.now c.args.said.now (texts_of all) (texts_of vs) l.total)
    (at_drop_all (λ (vs : List (Vec ℕ Global)). vs) all l.statement-index c.loop-statement-test.false) (l.invariant.so_far source is))
