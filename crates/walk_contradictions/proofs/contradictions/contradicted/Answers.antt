use Rattle.std.proofs.Common.{List, subst, sym}
use Rattle.std.specs.Prelude.{◌↔◌}
use Rattle.std.proofs.lemmas.Result.{IfOk-weaker}
use Rattle.longest_walk.specs.Folded.{unfolded}
use Rattle.longest_walk.specs.declared.folded.Item.{Item}
use Rattle.walk_contradictions.specs.Contradictions.{IsContradicted}
use Rattle.walk_contradictions.proofs.SieveLemmas.{same_contradictions}
use Rattle.walk_contradictions.proofs.contradictions.contradicted.Goals as goal

pub returns-then-sieve : goal.returns-then-sieve
returns-then-sieve c =
    IfOk-weaker c.contradicted_in.result _ _
    (λ named each a.
    let same : IsContradicted c.args.image.now (unfolded c.deref.result.now) a ↔ IsContradicted c.args.image.now (unfolded c.args.walk.now) a =
    subst (λ (xs : List Item). IsContradicted c.args.image.now (unfolded xs) a ↔ IsContradicted c.args.image.now (unfolded c.args.walk.now) a)
    (sym c.deref.ensures.value)
    (subst (λ (xs : List Item). IsContradicted c.args.image.now (unfolded c.in_ok-sieve.sieve.items.items) a ↔ IsContradicted c.args.image.now (unfolded xs) a)
    c.items.ensures
    (same_contradictions c.args.image.now (unfolded c.items.result.now) c.in_ok-sieve.sieve c.in_ok-sieve.ensures c.if-sieve.true a)) in
    (λ x. same.0 ((each a).0 x), λ x. (each a).1 (same.1 x)))
    c.contradicted_in.ensures
