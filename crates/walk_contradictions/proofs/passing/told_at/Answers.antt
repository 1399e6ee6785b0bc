use Rattle.std.proofs.Common.{◌∙◌, sym}
use Rattle.walk_contradictions.proofs.TellLemmas.{telling_by}
use Rattle.walk_contradictions.proofs.passing.told_at.Goals as goal

pub returns-in-Some : goal.returns-in-Some
returns-in-Some c =
    telling_by c.args.image.now c.args.edge.now c.address.result c.in-Some.word c.is_done.result c.told_by.result c.address.ensures
    (sym c.word_at.ensures.value ∙ c.in-Some.is) c.is_done.ensures c.told_by.ensures
