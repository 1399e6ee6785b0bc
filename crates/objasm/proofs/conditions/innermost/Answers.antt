use Rattle.std.proofs.Common.{ap, reverse, ◌∙◌}
use Rattle.std.specs.Prelude.{List}
use Rattle.objasm.specs.Conditions.{innermost}
use Rattle.objasm.specs.declared.conditions.Condition.{Condition}
use Rattle.objasm.proofs.conditions.innermost.Goals as goal

pub returns : goal.returns
returns c = c.last.ensures ∙ ap (λ (cs : List Condition). innermost (reverse cs)) c.deref.ensures.value
