use Rattle.known_places.specs.Around.{turns_in}
use Rattle.known_places.proofs.limits.limited.Goals as goal

pub returns-in-Some : goal.returns-in-Some
returns-in-Some c = λ entry now walk keeps holds.
    c.limited_by.ensures entry (turns_in c.args.spans.now c.args.around walk) now (c.in-Some.ensures walk keeps) holds
