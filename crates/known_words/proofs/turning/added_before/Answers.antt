use Rattle.known_words.proofs.TurningLemmas.{again_added, begins_added, stays_added}
use Rattle.known_words.proofs.turning.added_before.Goals as goal

pub returns-in-Stays : goal.returns-in-Stays
returns-in-Stays c = rw c.in-Stays.is (λ before after is. stays_added c.args.step before after is)

pub returns-in-Again : goal.returns-in-Again
returns-in-Again c = rw c.in-Again.is (λ before after is. again_added c.args.step before after is)

pub returns-in-Begins : goal.returns-in-Begins
returns-in-Begins c = rw c.in-Begins.is (λ before after is. begins_added c.args.step before after is)
