use Rattle.std.proofs.Common.{◌∙◌, ◌++◌, ◌∷◌, [], ap, refl}
use Rattle.std.specs.Prelude.{map}
use Rattle.text_draft.specs.Grounds.{with_ground}
use Rattle.text_draft.proofs.Mapped.{mapped_all, mapped_more, mapped_none}
use Rattle.text_draft.proofs.grounds.all_with_ground.Goals as goal

pub loop-rule-init : goal.loop-rule-init
loop-rule-init c = mapped_none (with_ground c.args.accesses.now) c.args.rules.now c.new-found.result.items c.new-found.ensures.items

pub loop-rule-preserved : goal.loop-rule-preserved
loop-rule-preserved c =
    mapped_more (with_ground c.args.accesses.now) c.args.rules.now c.loop-rule.rule-index _ _ c.loop-rule.found.items _ _ c.loop-rule.invariant c.loop-rule-test.true refl
    (c.in_ok-push.ensures.items ∙ ap (λ x. c.loop-rule.found.items ++ x ∷ []) c.with_ground.ensures)

pub returns : goal.returns
returns c = mapped_all (with_ground c.args.accesses.now) c.args.rules.now c.loop-rule.rule-index c.loop-rule.found.items _ c.loop-rule.invariant c.loop-rule-test.false
