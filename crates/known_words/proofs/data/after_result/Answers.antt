use Rattle.std.proofs.Common.{subst}
use Rattle.known_words.specs.Entering.{SetsSigns}
use Rattle.known_words.specs.declared.knowledge.Compared.TheVariants.{Of}
use Rattle.known_words.proofs.data.after_result.Goals as goal
use Rattle.known_words.proofs.HoldLemmas.{entered_flags, entered_holds, entered_keeps}

pub returns-then-sets_flags : goal.returns-then-sets_flags
returns-then-sets_flags c = λ entry turns regs after word is enters signs holds.
    let entered = c.entered-entered.result in
    let set = subst (λ b. SetsSigns b word regs after) c.if-sets_flags.true signs in
    let new = record entered { compared = Of c.args.rd } in
    let are = c.entered-entered.ensures.registers in
    rw (c.with_flags.ensures)
    (entered_holds entry turns regs after c.args.before.now new c.args.rd c.args.known word are is enters holds
    (c.requires, entered_flags entry turns regs after c.args.before.now new c.args.rd c.args.known word are is enters holds set))

pub returns : goal.returns
returns c = λ entry turns regs after word is enters signs holds.
    let stay = subst (λ b. SetsSigns b word regs after) c.if-sets_flags.false signs in
    entered_keeps entry turns regs after c.args.before.now c.entered-entered.result c.args.rd c.args.known word
    c.entered-entered.ensures.registers is enters holds stay c.entered-entered.ensures.compared
