-- Expressions as trees, how a tree is written, and its value.
use Rattle.std.specs.Prelude.{◌≡◌, ℕ, nat_lt, nat_le, true, List, [], ◌∷◌, ◌++◌, Option, Some, None}
use Rattle.objasm.specs.Operators.{binary_value, level, unary_value}
use Rattle.objasm.specs.declared.operators.Value.{Value}
use Rattle.objasm.specs.declared.operators.Value.TheVariants as values
use Rattle.objasm.specs.declared.operators.Binary.{Binary}
use Rattle.objasm.specs.declared.operators.Binary.TheVariants.{Plus, Minus}
use Rattle.objasm.specs.declared.operators.Unary.{Unary}
use Rattle.objasm.specs.declared.operators.Unary.TheVariants.{Keep, Negate, Invert, Deny}
use Rattle.objasm.specs.declared.symbols.Symbol.{Symbol}
use Rattle.objasm.specs.declared.symbols.Symbol.TheVariants.{Number, Operator, Not, LogicalNot, Open, Close}

-- a number, an expression in parentheses, an operator in front of one, or one between two
pub data Expression : Type 0 where
  Lone : ℕ → Expression
  Group : Expression → Expression
  Applied : Unary → Expression → Expression
  Between : Binary → Expression → Expression → Expression

-- `+` and `-` are written alike in front of a value and between two
abbrev pub unary_symbol : Unary → Symbol
unary_symbol Keep = Operator Plus
unary_symbol Negate = Operator Minus
unary_symbol Invert = Not
unary_symbol Deny = LogicalNot

abbrev pub symbols_of : Expression → List Symbol
symbols_of (Lone n) = Number n ∷ []
symbols_of (Group e) = Open ∷ (symbols_of e ++ Close ∷ [])
symbols_of (Applied u e) = unary_symbol u ∷ symbols_of e
symbols_of (Between b left right) = symbols_of left ++ Operator b ∷ symbols_of right

-- the level of the operator that is applied last, or 0 where none is between two values
abbrev pub outer_level : Expression → ℕ
outer_level (Between b left right) = level b
outer_level _ = 0

-- what binds tighter is applied first, and of one level what is further left
abbrev pub IsGrouped : Expression → Type 0
IsGrouped (Lone n) = Unit {0}
IsGrouped (Group e) = IsGrouped e
IsGrouped (Applied u e) = (outer_level e ≡ 0) × IsGrouped e
IsGrouped (Between b left right) =
    (nat_le (outer_level left) (level b) ≡ true) × (nat_lt (outer_level right) (level b) ≡ true)
    × IsGrouped left × IsGrouped right

-- of values, none after a division by 0

abbrev pub applied : Unary → Option Value → Option Value
applied u None = None
applied u (Some a) = unary_value u a

abbrev pub between : Binary → Option Value → Option Value → Option Value
between b (Some x) (Some y) = binary_value b x y
between b _ _ = None

-- the value of an expression, none where it divides by 0 or an operator is for values of other kinds
abbrev pub value : Expression → Option Value
value (Lone n) = Some (values.Number n)
value (Group e) = value e
value (Applied u e) = applied u (value e)
value (Between b left right) = between b (value left) (value right)

-- the symbols are those of the expression
pub record Spells (symbols : List Symbol) (e : Expression) : Type 0 where
  pub written : symbols_of e ≡ symbols
  pub grouped : IsGrouped e
