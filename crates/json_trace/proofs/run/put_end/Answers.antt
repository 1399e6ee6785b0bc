use Rattle.std.proofs.Common.{◌∙◌, ◌++◌, ℕ, List, Option, ap, string_bytes}
use Rattle.std.proofs.lemmas.Result.{on_ok_weaker}
use Rattle.json_trace.specs.Json.{name_value, word_value}
use Rattle.json_trace.proofs.WriteLaws.{end_put}
use Rattle.json_trace.proofs.run.put_end.Goals as goal

pub returns : goal.returns
returns c =
    let stopped =
    c.name_value-stopped.ensures ∙ ap (λ (name : Option (List ℕ)). name_value name) c.stop_name.ensures.name in
    let next = c.word_or_null-next.ensures ∙ ap (λ (a : ℕ). word_value a) c.address.ensures.address in
    let line =
    end_put c.args.ran.now c.args.machine.now c.name_value-stopped.result.bytes c.word_or_null-next.result.bytes
    stopped next in
    on_ok_weaker c.write.result (λ is. is ∙ ap (λ (t : List ℕ). string_bytes c.args.out.now ++ t) line)
    c.write.ensures.bytes
