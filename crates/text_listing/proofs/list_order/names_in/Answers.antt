use Rattle.std.proofs.Common.{◌∙◌, rules}
use Rattle.std.proofs.lemmas.Iterator.Consumers.{map_from_collect}
use Rattle.std.proofs.lemmas.Iterator.Splits.{YieldsList-from_slice_split}
use Rattle.text_listing.specs.ListOrder.{in_braces, is_between}
use Rattle.text_listing.proofs.list_order.names_in.Goals as goal

pub returns : goal.returns
returns c =
    map_from_collect c.collect.result c.collect.ensures.ran
    (YieldsList-from_slice_split _ is_between (in_braces c.args.line.now) (c.split.ensures.rest ∙ c.in_braces.ensures) c.split.ensures.done c.split.ensures.closure (λ x b q k. search rules))
