use Rattle.std.proofs.Common.{not, refl}
use Rattle.arm2_effect.specs.Operands.{first_of}
use Rattle.arm2_transfer.specs.Registers.{address_by}
use Rattle.known_places.proofs.transfers.single_immediate_transfers.Goals as goal

pub returns-clause-so : goal.returns-clause-so
returns-clause-so c = λ entry turns regs at holds.
    let x = c.args.x.now in
    let base = first_of 8 x.rn regs in (
      address_by x.before x.up base x.offset,
      not x.load,
      refl,
      c.single_address-lowest.ensures entry turns base x.offset (c.first_of-base.ensures entry turns regs at holds)
          (c.exactly.ensures entry turns),
    )
