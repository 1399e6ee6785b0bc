use Rattle.std.proofs.Common.{◌∙◌, ◌++◌, ℕ, List, ap, string_bytes}
use Rattle.std.proofs.lemmas.Result.{on_ok_weaker}
use Rattle.json_trace.proofs.WriteLaws.{lines_put}
use Rattle.json_trace.proofs.step_line.put_lines.Goals as goal

pub returns : goal.returns
returns c =
    let members =
    lines_put c.args.lines c.args.asserted.fiq c.args.asserted.irq c.word_or_null-lines.result.bytes
    c.boolean-fiq.result.now c.boolean-irq.result.now c.word_or_null-lines.ensures c.boolean-fiq.ensures
    c.boolean-irq.ensures in
    on_ok_weaker c.write.result
    (λ is. is ∙ ap (λ (t : List ℕ). string_bytes c.args.out.now ++ t) members) c.write.ensures.bytes
