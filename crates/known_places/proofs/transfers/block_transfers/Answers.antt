use Rattle.std.proofs.Common.{◌∙◌, not, refl, subst, sym}
use Rattle.arm2_effect.specs.Operands.{current_in}
use Rattle.arm2_transfer.specs.Block.{lowest_of}
use Rattle.known_words.specs.Known.{IsKnown}
use Rattle.known_places.proofs.transfers.block_transfers.Goals as goal

pub returns-clause-so : goal.returns-clause-so
returns-clause-so c = λ entry turns regs at holds.
    let x = c.args.x.now in
    let base = current_in x.rn regs in
    let known =
    subst (λ k. IsKnown entry turns k base) (sym c.of.ensures)
    (holds.registers x.rn (sym c.is_pc.ensures ∙ c.if-is_pc.false)) in
    let count = c.word_count-words.result in
    rw (sym c.word_count-words.ensures.count) (
      lowest_of x base count,
      not x.load,
      refl,
      c.block_address-lowest.ensures entry turns base known,
    )
