use Rattle.std.proofs.Common.{◌≡◌, ◌∙◌, ap}
use Rattle.std.specs.Ordering.{is_lt}
use Rattle.loop_bounds.proofs.KeyLemmas.{key_before}
use Rattle.loop_bounds.proofs.numbering.is_before.Goals as goal

pub returns-in-At : goal.returns-in-At
returns-in-At c =
    rw c.in-At.is
    (c.is_lt.ensures ∙ ap is_lt c.compare_keys.ensures ∙ key_before c.args.apart.now c.in-At.own c.items.result.now c.args.calls.now c.in-At.address c.lies_at.result c.args.number c.items.ensures.value c.lies_at.ensures)
