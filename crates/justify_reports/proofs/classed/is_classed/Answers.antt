use Rattle.std.proofs.Common.{◌∙◌, ap, sym}
use Rattle.statement.specs.Stated.{class_at}
use Rattle.std.proofs.lemmas.Bool.{false≢true}
use Rattle.justify_reports.proofs.classed.is_classed.Goals as goal

pub returns-then-not-may_transfer : goal.returns-then-not-may_transfer
returns-then-not-may_transfer c = (
  λ e. absurd (false≢true e),
  λ h. absurd (false≢true (sym c.if-not-may_transfer.true ∙ c.may_transfer.ensures ∙ h.transfers)),
)

pub returns : goal.returns
returns c =
    let class = c.class_at.ensures ∙ ap (class_at c.args.statement.now c.args.at) c.base_of.ensures in (
      λ e. record {
        transfers = sym c.may_transfer.ensures ∙ c.if-not-may_transfer.false;
        stated = λ any. c.is_narrow.ensures.0 e (class ∙ any);
      },
      λ h. c.is_narrow.ensures.1 (λ any. h.stated (sym class ∙ any)),
    )
