-- What symbols are read to, and what operands.
use Rattle.std.specs.Prelude.{◌≡◌, ℕ, List, Option, Some, Ok}
use Rattle.objasm.specs.Evaluation.{evaluated}
use Rattle.objasm.specs.Expressions.{Expression, Spells, value}
use Rattle.objasm.specs.Names.{Meanings}
use Rattle.objasm.specs.Parts.{Part}
use Rattle.objasm.specs.Settings.{value_of}
use Rattle.objasm.specs.Symbols.{symbols_in}
use Rattle.objasm.specs.declared.operators.Value.{Value}
use Rattle.objasm.specs.declared.operators.Value.TheVariants.{Number}
use Rattle.objasm.specs.declared.symbols.Reading.TheVariants.{Ready}
use Rattle.objasm.specs.declared.symbols.Symbol.{Symbol}

-- symbols that spell an expression are read to its value, and no others are read
abbrev pub ExpressionsAreEvaluated : Type 0
ExpressionsAreEvaluated =
    ((ss : List Symbol) (e : Expression) → Spells ss e → evaluated ss ≡ Some (value e))
    × ((ss : List Symbol) (v : Option Value) → evaluated ss ≡ Some v
    → (e : Expression) × Spells ss e × (value e ≡ v))

-- the parts are written as an expression is whose value is this one
abbrev pub Evaluates : Meanings → List Part → Value → Type 0
Evaluates m ps v =
    (ss : List Symbol) × (e : Expression) × (symbols_in m Ready ps ≡ Ok ss) × Spells ss e × (value e ≡ Some v)

-- operands have the value of the expression that they are, and none where they are none or it has none
abbrev pub ValuesAreOfExpressions : Type 0
ValuesAreOfExpressions =
    ((m : Meanings) (ps : List Part) (n : ℕ) → value_of m ps ≡ Ok n → Evaluates m ps (Number n))
    × ((m : Meanings) (ps : List Part) (n : ℕ) → Evaluates m ps (Number n) → value_of m ps ≡ Ok n)
