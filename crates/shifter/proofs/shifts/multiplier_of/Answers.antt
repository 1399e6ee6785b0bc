use Rattle.std.proofs.Common.{◌∙◌, arith, sym}
use Rattle.shifter.proofs.ShiftLemmas.{first_cycles, greatest_cycles, shifted_cycles}
use Rattle.shifter.proofs.shifts.multiplier_of.Goals as goal

pub returns-in-1 : goal.returns-in-1
returns-in-1 c = first_cycles ∙ sym c.in-1.is

pub returns-in-16 : goal.returns-in-16
returns-in-16 c = greatest_cycles ∙ sym c.in-16.is

pub returns-in_default : goal.returns-in_default
returns-in_default c =
    shifted_cycles c.args.cycles (omega (arith, c.requires.some, c.in_default)) (omega (arith, c.requires.few, c.in_default))
