use Rattle.loader.proofs.PlannedLemmas.{beside_given, image_fits, image_given, image_stays, mapped_stays}
use Rattle.loader.proofs.law.planned_words_are_loaded.Goals as goal

pub returns : goal.returns
returns c = record { mapped = mapped_stays; image = image_given; fits = image_fits; stays = image_stays; beside = beside_given }
