use Rattle.std.proofs.Common.{◌∙◌, subst, sym}
use Rattle.arm2_effect.specs.Operands.{current_in}
use Rattle.known_words.specs.Known.{IsKnown}
use Rattle.known_words.proofs.knowledge.Knowledge.bounds_by.Goals as goal

pub returns : goal.returns
returns c = λ seen entry turns now at holds.
    let register = c.args.register in
    let word = current_in register now in
    c.has_none_at.ensures seen entry turns word at
    (subst (λ k. IsKnown entry turns k word) (sym c.of.ensures)
    (holds.registers register (sym c.is_pc.ensures ∙ c.if-is_pc.false)))
