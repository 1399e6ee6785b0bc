-- The order of faults, and their names.
use Rattle.std.specs.Prelude.{ℕ, nat_lt, List, Option, Some, None, codes, if◌then◌else◌}
use Rattle.assembler.specs.declared.fault.LineFault.{LineFault}
use Rattle.assembler.specs.declared.fault.LineFault.TheVariants.{NotText, UnknownWord, BadOperand}
use Rattle.assembler.specs.declared.fault.LineFault.TheVariants.{ImmediateNotRotated, BranchTooFar}
use Rattle.assembler.specs.declared.fault.LineFault.TheVariants.{LabelTwice}
use Rattle.assembler.specs.declared.fault.LineFault.TheVariants.{LabelMissing, OutOfRange, Unallocated}
use Rattle.assembler.specs.declared.fault.LineFault.TheVariants.{TooLong}

abbrev pub number : LineFault → ℕ
number NotText = 2
number UnknownWord = 3
number BadOperand = 4
number ImmediateNotRotated = 5
number BranchTooFar = 6
number LabelTwice = 7
number LabelMissing = 8
number OutOfRange = 9
number Unallocated = 10
number TooLong = 11

-- as a refusal says it
abbrev pub name : LineFault → List ℕ
name NotText = codes "NotText"
name UnknownWord = codes "UnknownWord"
name BadOperand = codes "BadOperand"
name ImmediateNotRotated = codes "ImmediateNotRotated"
name BranchTooFar = codes "BranchTooFar"
name LabelTwice = codes "LabelTwice"
name LabelMissing = codes "LabelMissing"
name OutOfRange = codes "OutOfRange"
name Unallocated = codes "Unallocated"
name TooLong = codes "TooLong"

-- the one of the lower number
abbrev pub lower : Option LineFault → Option LineFault → Option LineFault
lower None other = other
lower (Some a) None = Some a
lower (Some a) (Some b) = if nat_lt (number b) (number a) then Some b else Some a
