use Rattle.known_words.proofs.stepping.known_where_skipped.Goals as goal
use Rattle.known_words.proofs.ForgetLemmas.{skipped_holds}

pub returns : goal.returns
returns c = skipped_holds
