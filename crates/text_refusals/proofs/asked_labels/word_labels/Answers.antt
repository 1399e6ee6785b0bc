use Rattle.std.proofs.Common.{◌∙◌, rules}
use Rattle.std.specs.BTreeMap.{values}
use Rattle.std.proofs.lemmas.Iterator.{YieldsList-from_map_by}
use Rattle.std.proofs.lemmas.Iterator.Consumers.{YieldsList-from_rest, map_from_collect}
use Rattle.text_refusals.proofs.asked_labels.word_labels.Goals as goal

pub returns : goal.returns
returns c =
    map_from_collect c.collect.result c.collect.ensures.ran
    (YieldsList-from_map_by _ (λ l. l.now) (λ line. line.label.now) (YieldsList-from_rest (values c.args.lines.now) (search rules)) c.map.ensures.closure (λ x r q called. search rules))
