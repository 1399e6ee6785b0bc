use Rattle.std.proofs.Common.{◌∙◌, ◌+◌, ap, drop}
use Rattle.text_listing.proofs.OrderLaws.{rest_of}
use Rattle.text_listing.proofs.list_order.after.Goals as goal

pub returns : goal.returns
returns c = rest_of c.args.text.now (c.len_before-len.result + 1) ∙ ap (λ n. drop (n + 1) c.args.text.now) c.len_before-len.ensures.len
