use Rattle.image.proofs.SpellLemmas.{spelled_read}
use Rattle.image.proofs.law.images_are_read.Goals as goal

pub returns : goal.returns
returns c = spelled_read
