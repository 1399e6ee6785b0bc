-- How symbols are read from the left: what waits for its right value is kept on a stack.
use Rattle.std.specs.Prelude.{ℕ, nat_le, Bool, true, false, List, [], ◌∷◌, Option, Some, None, if◌then◌else◌}
use Rattle.std.specs.Option.{option_and_then}
use Rattle.objasm.specs.Expressions.{applied, between}
use Rattle.objasm.specs.Operators.{level}
use Rattle.objasm.specs.declared.operators.Binary.TheVariants.{Plus, Minus}
use Rattle.objasm.specs.declared.operators.Unary.{Unary}
use Rattle.objasm.specs.declared.operators.Unary.TheVariants.{Keep, Negate, Invert, Deny}
use Rattle.objasm.specs.declared.operators.Value.{Value}
use Rattle.objasm.specs.declared.operators.Value.TheVariants as values
use Rattle.objasm.specs.declared.symbols.Symbol.{Symbol}
use Rattle.objasm.specs.declared.symbols.Symbol.TheVariants.{Number, Operator, Not, LogicalNot, Open, Close}
use Rattle.objasm.specs.declared.evaluation.Waiting.{Waiting}
use Rattle.objasm.specs.declared.evaluation.Waiting.TheVariants.{Before, Between, Opened}
use Rattle.objasm.specs.declared.evaluation.Place.{Place}
use Rattle.objasm.specs.declared.evaluation.Place.TheVariants.{Expects, Has}

-- it is applied by an operator of the level, a `)` or the end
abbrev pub is_ready : ℕ → Waiting → Bool
is_ready k (Before u) = true
is_ready k (Between x b) = nat_le (level b) k
is_ready k Opened = false

-- the value, once what waits for it is applied
abbrev pub released : Waiting → Option Value → Option Value
released (Before u) v = applied u v
released (Between x b) v = between b x v
released Opened v = v

-- what still waits, the last first, once all that is ready is applied, and the value then
unfoldable pub reduced : ℕ → List Waiting → Option Value → List Waiting × Option Value
reduced k [] v = ([], v)
reduced k (w ∷ ws) v = if is_ready k w then reduced k ws (released w v) else (w ∷ ws, v)

abbrev pub first : List Waiting → Option Waiting
first [] = None
first (w ∷ ws) = Some w

abbrev pub unary_of : Symbol → Option Unary
unary_of (Operator Plus) = Some Keep
unary_of (Operator Minus) = Some Negate
unary_of Not = Some Invert
unary_of LogicalNot = Some Deny
unary_of _ = None

abbrev pub operand : List Waiting → Symbol → Option (List Waiting × Place)
operand ws (Number n) = Some (ws, Has (Some (values.Number n)))
operand ws Open = Some (Opened ∷ ws, Expects)
operand ws s = option_and_then (λ u. Some (Before u ∷ ws, Expects)) (unary_of s)

abbrev pub closed : List Waiting × Option Value → Option (List Waiting × Place)
closed (Opened ∷ ws, v) = Some (ws, Has v)
closed _ = None

abbrev pub operator : List Waiting → Option Value → Symbol → Option (List Waiting × Place)
operator ws v (Operator b) = let r = reduced (level b) ws v in Some (Between r.1 b ∷ r.0, Expects)
operator ws v Close = closed (reduced 5 ws v)
operator ws v _ = None

abbrev pub step : List Waiting → Place → Symbol → Option (List Waiting × Place)
step ws Expects s = operand ws s
step ws (Has v) s = operator ws v s

abbrev pub ended : List Waiting × Option Value → Option (Option Value)
ended ([], v) = Some v
ended _ = None

abbrev pub finished : List Waiting → Place → Option (Option Value)
finished ws Expects = None
finished ws (Has v) = ended (reduced 5 ws v)

unfoldable pub run : List Waiting → Place → List Symbol → Option (Option Value)
run ws p [] = finished ws p
run ws p (s ∷ ss) = option_and_then (λ next. run next.0 next.1 ss) (step ws p s)

-- none where the symbols are no expression
abbrev pub evaluated : List Symbol → Option (Option Value)
evaluated ss = run [] Expects ss
