use Rattle.known_words.proofs.forgetting.learned.Goals as goal
use Rattle.known_words.proofs.ForgetLemmas.{learned_holds}
use Rattle.std.proofs.Common.{refl}

pub returns : goal.returns
returns c = λ entry turns now holds is.
    rw (c.with_flags.ensures)
    (learned_holds entry turns now c.args.before.now
    (record c.entered.result { compared = c.args.before.now.compared }) c.args.register c.args.known
    c.entered.ensures.registers refl holds is)
