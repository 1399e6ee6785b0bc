use Rattle.text_explained.proofs.TotalLaws.{numbers_of_walk}
use Rattle.text_explained.proofs.law.numbers_are_of_the_walk.Goals as goal

pub returns : goal.returns
returns c = numbers_of_walk
