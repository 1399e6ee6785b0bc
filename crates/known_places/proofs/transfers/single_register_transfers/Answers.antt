use Rattle.std.proofs.Common.{not, refl}
use Rattle.arm2_effect.specs.Operands.{first_of, shifted_by_amount}
use Rattle.arm2_transfer.specs.Registers.{address_by}
use Rattle.known_places.proofs.transfers.single_register_transfers.Goals as goal

pub returns-clause-so : goal.returns-clause-so
returns-clause-so c = λ entry turns regs at holds.
    let x = c.args.x.now in
    let base = first_of 8 x.rn regs in
    let offset = (shifted_by_amount x.shift x.amount x.rm regs).value in (
      address_by x.before x.up base offset,
      not x.load,
      refl,
      c.single_address-lowest.ensures entry turns base offset (c.first_of-base.ensures entry turns regs at holds)
          (c.shifted_of-offset.ensures entry turns regs at holds),
    )
