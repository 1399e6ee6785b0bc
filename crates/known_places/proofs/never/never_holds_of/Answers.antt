use Rattle.std.proofs.Common.{◌∙◌, subst, sym}
use Rattle.arm2_effect.specs.Operands.{current_in}
use Rattle.known_words.specs.Known.{IsKnown}
use Rattle.known_places.proofs.never.never_holds_of.Goals as goal

pub returns : goal.returns
returns c = λ seen entry turns now holds.
    let register = c.args.register in
    let word = current_in register now in
    c.has_none.ensures seen entry turns word
    (subst (λ k. IsKnown entry turns k word) (sym c.of.ensures)
    (holds.registers register (sym c.is_pc.ensures ∙ c.if-is_pc.false)))
