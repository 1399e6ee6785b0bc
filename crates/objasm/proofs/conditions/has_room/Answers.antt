use Rattle.std.proofs.Common.{sym, ap, length, ◌∙◌}
use Rattle.std.specs.Prelude.{ℕ, List, nat_lt}
use Rattle.std.proofs.lemmas.List.{length-reverse}
use Rattle.objasm.specs.declared.conditions.Condition.{Condition}
use Rattle.objasm.proofs.conditions.has_room.Goals as goal

pub returns : goal.returns
returns c =
    c.room.ensures ∙ ap (λ (cs : List Condition). nat_lt (length cs) 64) c.deref.ensures.value
    ∙ ap (λ (n : ℕ). nat_lt n 64) (sym (length-reverse c.args.conditions.now.stack.items))
