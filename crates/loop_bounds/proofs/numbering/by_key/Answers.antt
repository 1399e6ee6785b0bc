use Rattle.std.proofs.Common.{◌++◌, [], ◌∷◌, map, sym, ◌∙◌}
use Rattle.std.specs.Ordering.{nat_cmp}
use Rattle.std.proofs.lemmas.List.{map-append}
use Rattle.statement.specs.Stated.{lies_at}
use Rattle.loop_bounds.proofs.KeyLemmas.{before, keys_compared}
use Rattle.loop_bounds.proofs.numbering.by_key.Goals as goal

pub returns-in-At-right : goal.returns-in-At-right
returns-in-At-right c =
    rw (c.in-At.is, c.in-At-right.is)
    (c.compare_keys.ensures ∙ keys_compared c.args.apart.now c.in-At.calls c.in-At-right.others c.items.result.now c.items-in-At-right.result.now c.in-At.address c.in-At-right.other c.lies_at-place.result c.lies_at-next.result c.items.ensures.value c.items-in-At-right.ensures.value c.lies_at-place.ensures c.lies_at-next.ensures)

pub returns-in-Exit-right : goal.returns-in-Exit-right
returns-in-Exit-right c = rw (c.in-At.is, c.in-Exit-right.is, map-append (lies_at c.args.apart.now) c.in-At.calls (c.in-At.address ∷ [])) (sym (before nat_cmp (map (lies_at c.args.apart.now) c.in-At.calls) (lies_at c.args.apart.now c.in-At.address)))
