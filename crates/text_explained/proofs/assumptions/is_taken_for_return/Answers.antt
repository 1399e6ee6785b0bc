use Rattle.std.proofs.Common.{Bor}
use Rattle.statement.specs.Stated.{Target, target_of}
use Rattle.text_explained.proofs.AssumedLaws.{none_found}
use Rattle.text_explained.proofs.assumptions.is_taken_for_return.Goals as goal

pub returns-then-may_write_oddly_at : goal.returns-then-may_write_oddly_at
returns-then-may_write_oddly_at c =
    let decides =
    none_found (λ (target : Bor Target). target.now) c.target_at.result (target_of c.args.statement.now c.args.at) c.is_none.result c.target_at.ensures.value c.is_none.ensures in (
      λ e. record { writes = c.may_write_oddly_at.ensures.0 c.if-may_write_oddly_at.true; unstated = decides.0 e },
      λ h. decides.1 h.unstated,
    )
