use Rattle.std.proofs.Common.{subst, sym}
use Rattle.text_draft.specs.Tallies.{AreTallies}
use Rattle.text_draft.proofs.RuleLaws.{all_rules, rules_more}
use Rattle.text_draft.proofs.rules.find_rules.Goals as goal

pub loop-number-preserved : goal.loop-number-preserved
loop-number-preserved c =
    let accesses = c.args.accesses.now in
    let are = subst (AreTallies accesses) (sym c.deref.ensures.value) c.in_ok-table.ensures.tallies in
    rules_more c.args.image.now c.args.open_left accesses c.args.begun.now c.loop-number.number c.of-register.result c.of-register.ensures c.loop-number.rules.items
    c.loop-number.invariant c.new_rule_of-rule.result c.push_rule.new.rules.items (c.new_rule_of-rule.ensures.some accesses are) (c.new_rule_of-rule.ensures.only accesses are) c.in_ok-push_rule.ensures

pub returns : goal.returns
returns c =
    all_rules c.args.image.now c.args.open_left c.args.accesses.now c.args.begun.now c.loop-number.number c.loop-number.rules.items
    c.loop-number-test.false c.loop-number.invariant
