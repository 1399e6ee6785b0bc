use Rattle.std.proofs.Common.{◌<◌, ◌^◌, rules}
use Rattle.assembler.proofs.CodeLaws.{means_word}
use Rattle.assembler.proofs.encoded.word_of.Goals as goal

pub returns : goal.returns
returns c =
    let below : c.encode.result < 2 ^ 32 = search rules in
    means_word c.encode.result (record { cond = c.args.cond; operation = c.args.operation }) below c.encode.ensures.word
