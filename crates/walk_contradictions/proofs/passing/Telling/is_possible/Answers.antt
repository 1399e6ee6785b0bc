use Rattle.walk_contradictions.proofs.TellLemmas.{possible_none, possible_some}
use Rattle.walk_contradictions.proofs.passing.Telling.is_possible.Goals as goal

pub returns-in-Some : goal.returns-in-Some
returns-in-Some c =
    λ yes words e telling. possible_some words e c.args.self.now telling c.in-Some.outcome c.in-Some.is (c.is_possible.ensures yes)

pub returns-in-None : goal.returns-in-None
returns-in-None c = λ yes words e telling. possible_none words e c.args.self.now telling c.in-None.is
