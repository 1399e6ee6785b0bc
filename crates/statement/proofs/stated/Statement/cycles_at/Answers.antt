use Rattle.std.proofs.Common.{◌≤◌, ap, subst, sym, ◌∙◌}
use Rattle.std.specs.Prelude.{unwrap_or}
use Rattle.shifter.specs.declared.shifts.TheConstants.{MOST_MULTIPLY_CYCLES}
use Rattle.statement.proofs.CycleLemmas.{cycles_few, within_limits}
use Rattle.statement.proofs.stated.Statement.cycles_at.Goals as goal

pub returns-clause-value : goal.returns-clause-value
returns-clause-value c =
    let few = cycles_few c.self.inside.multiplies.entries c.args.address c.self.invariant.stated.cycles in
    rw (← c.self.view_is)
    (c.unwrap_or.ensures ∙ ap (λ o. unwrap_or o MOST_MULTIPLY_CYCLES) (c.copied.ensures ∙ c.get.ensures.value) ∙ sym (within_limits _ few))

pub returns-clause-some : goal.returns-clause-some
returns-clause-some c =
    let few = cycles_few c.self.inside.multiplies.entries c.args.address c.self.invariant.stated.cycles in
    subst (λ n. 1 ≤ n) (sym (c.unwrap_or.ensures ∙ ap (λ o. unwrap_or o MOST_MULTIPLY_CYCLES) (c.copied.ensures ∙ c.get.ensures.value))) few.0

pub returns-clause-few : goal.returns-clause-few
returns-clause-few c =
    let few = cycles_few c.self.inside.multiplies.entries c.args.address c.self.invariant.stated.cycles in
    subst (λ n. n ≤ MOST_MULTIPLY_CYCLES) (sym (c.unwrap_or.ensures ∙ ap (λ o. unwrap_or o MOST_MULTIPLY_CYCLES) (c.copied.ensures ∙ c.get.ensures.value))) few.1
