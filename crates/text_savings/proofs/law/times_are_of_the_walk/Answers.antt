use Rattle.text_savings.proofs.CarriedLaws.{times_of_walk}
use Rattle.text_savings.proofs.law.times_are_of_the_walk.Goals as goal

pub returns : goal.returns
returns c = times_of_walk
