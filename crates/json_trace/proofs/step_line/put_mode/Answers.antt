use Rattle.std.proofs.Common.{◌∙◌, ◌++◌, ℕ, List, ap, string_bytes}
use Rattle.std.proofs.lemmas.Result.{on_ok_weaker}
use Rattle.json_trace.proofs.WriteLaws.{mode_put}
use Rattle.json_trace.proofs.step_line.put_mode.Goals as goal

pub returns : goal.returns
returns c =
    on_ok_weaker c.write.result
    (λ is. is ∙ ap (λ (t : List ℕ). string_bytes c.args.out.now ++ t) (mode_put c.args.mode.now c.args.flags.now))
    c.write.ensures.bytes
