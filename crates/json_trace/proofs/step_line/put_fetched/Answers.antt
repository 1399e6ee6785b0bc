use Rattle.std.proofs.Common.{◌∙◌, ◌++◌, ℕ, List, ap, string_bytes}
use Rattle.std.proofs.lemmas.Result.{on_ok_weaker}
use Rattle.json_trace.proofs.WriteLaws.{fetched_put}
use Rattle.json_trace.proofs.step_line.put_fetched.Goals as goal

pub returns : goal.returns
returns c =
    let step = c.args.step.now in
    let members =
    fetched_put step.number step.traced.stepped.from step.traced.word c.args.text.now c.word_or_null-from.result.bytes
    c.word_or_null-word.result.bytes c.word_or_null-from.ensures c.word_or_null-word.ensures in
    on_ok_weaker c.write.result
    (λ is. is ∙ ap (λ (t : List ℕ). string_bytes c.args.out.now ++ t) members) c.write.ensures.bytes
