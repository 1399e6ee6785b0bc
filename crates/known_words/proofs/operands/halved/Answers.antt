use Rattle.std.proofs.Math.Pow.{shr_mono}
use Rattle.std.proofs.Common.{◌/◌, ◌^◌}
use Rattle.known_words.proofs.operands.halved.Goals as goal

pub returns : goal.returns
returns c = λ entry turns word is.
    c.between.ensures entry turns (word / 2 ^ c.args.amount) (shr_mono c.args.amount is.0) (shr_mono c.args.amount is.1)
