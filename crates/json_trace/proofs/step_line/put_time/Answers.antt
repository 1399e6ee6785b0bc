use Rattle.std.proofs.Common.{◌∙◌, ◌++◌, ℕ, List, ap, string_bytes}
use Rattle.std.proofs.lemmas.Result.{on_ok_weaker}
use Rattle.json_trace.proofs.WriteLaws.{time_put}
use Rattle.json_trace.proofs.step_line.put_time.Goals as goal

pub returns : goal.returns
returns c =
    let step = c.args.step.now in
    let members =
    time_put step.traced.stepped step.elapsed c.word_or_null-next.result.bytes c.word_or_null-next.ensures in
    on_ok_weaker c.write.result
    (λ is. is ∙ ap (λ (t : List ℕ). string_bytes c.args.out.now ++ t) members) c.write.ensures.bytes
