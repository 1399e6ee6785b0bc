use Rattle.std.proofs.Common.{◌∙◌}
use Rattle.std.proofs.lemmas.Result.{IfOk-weaker}
use Rattle.text_explained.proofs.RuleLaws.{done_ones}
use Rattle.text_explained.proofs.rules.done_coverages.Goals as goal

pub returns : goal.returns
returns c =
    IfOk-weaker c.coverages.result _ _
    (λ counts are.
    done_ones c.args.handler.now.image.now c.args.handler.now.statement c.args.handler.now.graph c.in_ok-done.done c.deref.result.now counts.items
    (c.deref.ensures.value ∙ c.in_ok-addresses.ensures.keys) c.in_ok-done.ensures are)
    c.coverages.ensures
