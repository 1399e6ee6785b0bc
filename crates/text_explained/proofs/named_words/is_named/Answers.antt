use Rattle.std.proofs.Common.{◌∙◌}
use Rattle.text_explained.proofs.AssumedLaws.{named_decides}
use Rattle.text_explained.proofs.named_words.is_named.Goals as goal

pub returns : goal.returns
returns c = c.is_ok.ensures.value ∙ named_decides c.args.named.now c.args.at c.binary_search.result c.requires c.binary_search.ensures.position
