use Rattle.std.proofs.Common.{inl}
use Rattle.std.proofs.lemmas.Result.{IfOk-weaker}
use Rattle.text_refusals.proofs.reasons.shared_reason.Goals as goal

pub returns-in-Some : goal.returns-in-Some
returns-in-Some c =
    IfOk-weaker c.shared_text.result _ _ (λ text shown. inl ((c.in-Some.one, c.in-Some.other), c.in-Some.ensures.shared, shown)) c.shared_text.ensures
