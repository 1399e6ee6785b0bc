use Rattle.std.proofs.Common.{◌∙◌, Bool, Some, ap, cond}
use Rattle.std.specs.BTreeMap.{get}
use Rattle.std.specs.Cmp.{unsigned_tied}
use Rattle.std.specs.Ordering.{nat_cmp}
use Rattle.text_graph.proofs.tables.put_caller.Goals as goal

pub returns : goal.returns
returns c = λ n.
    c.in_ok-insert.ensures.updates.0 n ∙ ap (λ (b : Bool). cond b (Some c.args.from) (get nat_cmp c.args.callers.now n)) (unsigned_tied c.args.to n)
