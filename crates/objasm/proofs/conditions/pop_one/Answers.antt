use Rattle.std.proofs.Common.{ap, arith, length, reverse, sym, ◌∙◌}
use Rattle.std.specs.Prelude.{List}
use Rattle.objasm.specs.Conditions.{innermost}
use Rattle.objasm.specs.declared.conditions.Condition.{Condition}
use Rattle.objasm.proofs.ConditionLaws.{popped}
use Rattle.objasm.proofs.conditions.pop_one.Goals as goal

pub returns : goal.returns
returns c =
    let top = ap (λ (cs : List Condition). innermost (reverse cs)) (sym c.deref.ensures.value) ∙ sym c.last-found.ensures in
    popped c.args.conditions.now.stack.items c.pop.new.self.items c.pop.result c.last-found.result c.pop.ensures.items (λ lt. c.pop.ensures.variant.1 (omega (arith, ap length c.deref.ensures.value, c.deref.ensures.len, lt))) top
