use Rattle.std.proofs.Common.{inl}
use Rattle.std.proofs.lemmas.Result.{IfOk-weaker}
use Rattle.text_refusals.specs.Nested.{IsDeep}
use Rattle.text_refusals.proofs.ReasonLemmas.{found}
use Rattle.text_refusals.proofs.reasons.deep_reason.Goals as goal

pub returns-in-Some : goal.returns-in-Some
returns-in-Some c =
    let is = found (IsDeep c.args.graph.now c.args.loops.now) c.in_ok-deep.field-0 c.in-Some.deep c.in-Some.is c.in_ok-deep.ensures.deep in
    IfOk-weaker c.deep_text.result _ _ (λ text shown. inl (c.in-Some.deep, is, shown)) c.deep_text.ensures
