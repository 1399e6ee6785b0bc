use Rattle.std.proofs.Common.{subst}
use Rattle.known_words.specs.Known.{IsIn}
use Rattle.known_words.specs.Turning.{turns_at}
use Rattle.known_words.proofs.TurningLemmas.{word_at}
use Rattle.known_words.proofs.turning.misses.Goals as goal

pub returns : goal.returns
returns c = λ seen entry turns word at known.
    let sum = c.args.word.sum in
    let p = known.0 in
    c.is_apart.ensures seen p.more p.within
    (subst (IsIn c.args.word.range)
    (word_at entry turns sum word c.in-Some.step (turns_at c.args.depth turns) c.args.count c.least_at-least.result
    (c.is_zero.ensures c.if-not-is_zero.false) (c.in-Some.ensures turns) at c.least_at-least.ensures p)
    known.1)
