-- The names of faults.
use Rattle.std.specs.Prelude.{ℕ, List, codes}
use Rattle.objasm.specs.declared.faults.LineFault.{LineFault}
use Rattle.objasm.specs.declared.faults.LineFault.TheVariants.{Memory, UnknownDirective, BadName, NameTwice}
use Rattle.objasm.specs.declared.faults.LineFault.TheVariants.{NameMissing, BadExpression, BadNumber}
use Rattle.objasm.specs.declared.faults.LineFault.TheVariants.{NoValue, BadRegister, BadOperand, NotANumber}
use Rattle.objasm.specs.declared.faults.LineFault.TheVariants.{NotLogical}
use Rattle.objasm.specs.declared.faults.LineFault.TheVariants.{AssertionFailed, ConditionMissing, ElseTwice}
use Rattle.objasm.specs.declared.faults.LineFault.TheVariants.{ConditionOpen, ConditionTooDeep, PoolMissing}
use Rattle.objasm.specs.declared.faults.LineFault.TheVariants.{Scattered}

abbrev pub name : LineFault → List ℕ
name Memory = codes "Memory"
name UnknownDirective = codes "UnknownDirective"
name BadName = codes "BadName"
name NameTwice = codes "NameTwice"
name NameMissing = codes "NameMissing"
name BadExpression = codes "BadExpression"
name BadNumber = codes "BadNumber"
name NoValue = codes "NoValue"
name BadRegister = codes "BadRegister"
name BadOperand = codes "BadOperand"
name NotANumber = codes "NotANumber"
name NotLogical = codes "NotLogical"
name AssertionFailed = codes "AssertionFailed"
name ConditionMissing = codes "ConditionMissing"
name ElseTwice = codes "ElseTwice"
name ConditionOpen = codes "ConditionOpen"
name ConditionTooDeep = codes "ConditionTooDeep"
name PoolMissing = codes "PoolMissing"
name Scattered = codes "Scattered"
