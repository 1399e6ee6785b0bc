use Rattle.std.proofs.Common.{sym, ◌∙◌}
use Rattle.known_words.proofs.given.with_fact.Goals as goal

pub returns : goal.returns
returns c = λ entry turns words low high holds.
    c.learned.ensures entry turns entry holds
    (c.known_by.ensures entry turns (words c.args.given.now.register (sym c.is_pc.ensures ∙ c.if-is_pc.false)) low high)
