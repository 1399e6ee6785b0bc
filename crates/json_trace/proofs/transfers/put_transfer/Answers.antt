use Rattle.std.proofs.Common.{◌∙◌, ◌++◌, ℕ, List, ap, string_bytes}
use Rattle.std.proofs.lemmas.Result.{on_ok_weaker}
use Rattle.json_trace.specs.StepLine.{word_or_null}
use Rattle.json_trace.proofs.WriteLaws.{transfer_put}
use Rattle.json_trace.proofs.transfers.put_transfer.Goals as goal

pub returns : goal.returns
returns c =
    let whole =
    transfer_put c.args.word c.args.memc.now c.args.store c.args.address c.size_of-size.result c.transfer_kind-kind.result.now
    c.word_or_null-place.result.bytes c.word_or_null-memory.result.bytes c.transfer_kind-kind.ensures c.word_or_null-place.ensures
    c.size_of-size.ensures (c.word_or_null-memory.ensures ∙ ap word_or_null c.memory_word.ensures) in
    on_ok_weaker c.write.result (λ is. is ∙ ap (λ (t : List ℕ). string_bytes c.args.out.now ++ t) whole) c.write.ensures.bytes
