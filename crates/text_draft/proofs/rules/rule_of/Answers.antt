use Rattle.std.proofs.Common.{◌≡◌, ◌∙◌, false, true, refl, sym, rules}
use Rattle.std.proofs.lemmas.Bool.{false≢true}
use Rattle.text_draft.proofs.RuleLaws.{may_not, rule_made, rule_only, too_few}
use Rattle.text_draft.proofs.rules.rule_of.Goals as goal

pub returns-then-tally-lt2-clause-only : goal.returns-then-tally-lt2-clause-only
returns-then-tally-lt2-clause-only c = λ accesses are r is at.
    absurd (too_few c.args.image.now c.args.open_left accesses c.args.register c.most_frequent-class.result (c.most_frequent-class.ensures accesses are)
    c.tally_at-tally.result (c.tally_at-tally.ensures accesses are) c.if-tally-lt2.true r is at)

pub returns-then-not-may_rule-clause-only : goal.returns-then-not-may_rule-clause-only
returns-then-not-may_rule-clause-only c = λ accesses are r is at.
    absurd (may_not c.args.image.now c.args.open_left accesses c.args.register c.most_frequent-class.result (c.most_frequent-class.ensures accesses are)
    c.tally_at-tally.result (c.tally_at-tally.ensures accesses are)
    (λ may. false≢true ((let no : false ≡ c.may_rule.result = search rules in no) ∙ c.may_rule.ensures.1 may)) r is at)

pub returns-clause-some : goal.returns-clause-some
returns-clause-some c = λ accesses are. (
  rule_made c.args.image.now c.args.open_left accesses c.args.register c.most_frequent-class.result (c.most_frequent-class.ensures accesses are)
      c.tally_at-tally.result (c.tally_at-tally.ensures accesses are) (c.may_rule.ensures.0 (let yes : c.may_rule.result ≡ true = search rules in yes)) c.if-tally-lt2.false,
  refl,
)

pub returns-clause-only : goal.returns-clause-only
returns-clause-only c = λ accesses are r is at.
    rule_only c.args.image.now c.args.open_left accesses c.args.register c.most_frequent-class.result (c.most_frequent-class.ensures accesses are)
    c.tally_at-tally.result (c.tally_at-tally.ensures accesses are) r is at
