use Rattle.std.proofs.Common.{◌∙◌, ap, sym, reverse, length, arith}
use Rattle.std.specs.Prelude.{List}
use Rattle.objasm.specs.Evaluation.{first}
use Rattle.objasm.specs.declared.evaluation.Waiting.{Waiting}
use Rattle.objasm.proofs.EvaluationLaws.{kept, none_waits, taken}
use Rattle.objasm.proofs.evaluation.reduce.Goals as goal

pub returns-then-not-is_ready : goal.returns-then-not-is_ready
returns-then-not-is_ready c =
    let top = ap (λ (ws : List Waiting). first (reverse ws)) (sym c.deref.ensures.value) ∙ sym c.last.ensures ∙ c.in-Some.is in
    sym c.loop-waiting.invariant ∙ kept c.args.by (reverse c.loop-waiting.stack.items) c.loop-waiting.value c.in-Some.waiting top (sym c.is_ready.ensures ∙ c.if-not-is_ready.true)

pub loop-waiting-preserved : goal.loop-waiting-preserved
loop-waiting-preserved c =
    let top = ap (λ (ws : List Waiting). first (reverse ws)) (sym c.deref.ensures.value) ∙ sym c.last.ensures ∙ c.in-Some.is in
    rw c.released-value.ensures (taken c.args.by c.loop-waiting.stack.items c.pop.new.self.items c.pop.result c.loop-waiting.value c.in-Some.waiting c.pop.ensures.items (λ lt. c.pop.ensures.variant.1 (omega (arith, ap length c.deref.ensures.value, c.deref.ensures.len, lt))) top (sym c.is_ready.ensures ∙ c.if-not-is_ready.false)
    ∙ c.loop-waiting.invariant)

pub returns : goal.returns
returns c =
    let top = ap (λ (ws : List Waiting). first (reverse ws)) (sym c.deref.ensures.value) ∙ sym c.last.ensures ∙ c.in_default.is in
    sym c.loop-waiting.invariant ∙ none_waits c.args.by (reverse c.loop-waiting.stack.items) c.loop-waiting.value top
