use Rattle.std.proofs.Common.{◌∙◌, ap, sym}
use Rattle.statement.specs.Stated.{class_at}
use Rattle.text_explained.proofs.assumptions.is_loose.Goals as goal

pub returns-then-may_transfer : goal.returns-then-may_transfer
returns-then-may_transfer c =
    let class = c.class_at.ensures ∙ ap (class_at c.args.statement.now c.args.at) c.base_of.ensures in (
      λ e. record { transfers = sym c.may_transfer.ensures ∙ c.if-may_transfer.true; loose = sym class ∙ c.is_any.ensures.0 e },
      λ h. c.is_any.ensures.1 (class ∙ h.loose),
    )
