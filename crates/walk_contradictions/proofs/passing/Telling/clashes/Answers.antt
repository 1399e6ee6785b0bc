use Rattle.walk_contradictions.proofs.TellLemmas.{clash_none, clash_some, tells_so}
use Rattle.walk_contradictions.proofs.passing.Telling.clashes.Goals as goal

pub returns-in-Some : goal.returns-in-Some
returns-in-Some c =
    λ words e telling. clash_some words e c.args.self.now.outcome telling.only c.args.direction c.in-Some.outcome c.in-Some.is
    (tells_so words e c.args.self.now telling c.in-Some.outcome c.in-Some.is) c.args.before.now c.met-met.result (c.met-met.ensures words e telling)
    c.excludes.result c.excludes.ensures

pub returns-in-None : goal.returns-in-None
returns-in-None c =
    λ words e telling. clash_none words e c.args.self.now.outcome telling.only c.args.direction c.in-None.is c.args.before.now
