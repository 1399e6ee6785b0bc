use Rattle.text_explained.proofs.StartLaws.{latest_is}
use Rattle.text_explained.proofs.law.latest_starts_are_of_walks.Goals as goal

pub returns : goal.returns
returns c = latest_is
