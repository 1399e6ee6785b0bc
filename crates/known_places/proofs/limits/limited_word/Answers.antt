use Rattle.known_places.proofs.limits.limited_word.Goals as goal

pub returns-in-Some : goal.returns-in-Some
returns-in-Some c = λ entry turns word within k.
    (k.0, c.common.ensures word k.1 (c.in-Some.ensures entry turns word within k.0))
