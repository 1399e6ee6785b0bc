-- Operators and what they give, in 32 bits (the operators of ObjAsm, as its manual has them).
use Rattle.std.specs.Prelude.{ℕ, ◌+◌, ◌-◌, ◌*◌, ◌/◌, ◌%◌, ◌^◌, ◌==◌, ◌&&◌, ◌||◌, not, nat_le, nat_lt, Bool}
use Rattle.std.specs.Prelude.{bit_and, bit_or, bit_xor}
use Rattle.std.specs.Prelude.{Option, Some, None, if◌then◌else◌, option_map}
use Rattle.std.specs.Int.{w32, rotate_left, rotate_right}
use Rattle.objasm.specs.declared.operators.Binary.{Binary}
use Rattle.objasm.specs.declared.operators.Binary.TheVariants.{Times, Over, Mod, Shl, Shr, Rol, Ror, Plus}
use Rattle.objasm.specs.declared.operators.Binary.TheVariants.{Minus, And, Or, Eor, Equal, Unequal, Less}
use Rattle.objasm.specs.declared.operators.Binary.TheVariants.{AtMost, Greater, AtLeast, Both, Either}
use Rattle.objasm.specs.declared.operators.Binary.TheVariants.{OneAlone}
use Rattle.objasm.specs.declared.operators.Unary.{Unary}
use Rattle.objasm.specs.declared.operators.Unary.TheVariants.{Keep, Negate, Invert, Deny}
use Rattle.objasm.specs.declared.operators.Value.{Value}
use Rattle.objasm.specs.declared.operators.Value.TheVariants.{Number, Logical}

-- those of a lower level are applied first, and those of one level from the left
abbrev pub level : Binary → ℕ
level Times = 1
level Over = 1
level Mod = 1
level Shl = 2
level Shr = 2
level Rol = 2
level Ror = 2
level Plus = 3
level Minus = 3
level And = 3
level Or = 3
level Eor = 3
level Equal = 4
level Unequal = 4
level Less = 4
level AtMost = 4
level Greater = 4
level AtLeast = 4
level Both = 5
level Either = 5
level OneAlone = 5

-- zeros come in; none by 32 places or more
abbrev pub shl : ℕ → ℕ → Option ℕ
shl a b = if nat_lt b 32 then Some ((a * 2 ^ b) % 2 ^ 32) else None

abbrev pub shr : ℕ → ℕ → Option ℕ
shr a b = if nat_lt b 32 then Some (a / 2 ^ b) else None

-- neither is 2^31 or more, where a sign would matter, and the second is not 0
abbrev pub divides : ℕ → ℕ → Bool
divides a b = nat_lt a (2 ^ 31) && nat_lt b (2 ^ 31) && not (b == 0)

abbrev pub quotient : ℕ → ℕ → Option ℕ
quotient a b = if divides a b then Some (a / b) else None

abbrev pub remainder : ℕ → ℕ → Option ℕ
remainder a b = if divides a b then Some (a % b) else None

abbrev pub numbered : Option ℕ → Option Value
numbered found = option_map Number found

-- none where it is not known what ObjAsm gives; comparisons are of numbers without a sign
abbrev pub number_value : Binary → ℕ → ℕ → Option Value
number_value Times a b = Some (Number ((a * b) % 2 ^ 32))
number_value Over a b = numbered (quotient a b)
number_value Mod a b = numbered (remainder a b)
number_value Shl a b = numbered (shl a b)
number_value Shr a b = numbered (shr a b)
number_value Rol a b = Some (Number (rotate_left w32 a b))
number_value Ror a b = Some (Number (rotate_right w32 a b))
number_value Plus a b = Some (Number ((a + b) % 2 ^ 32))
number_value Minus a b = Some (Number ((a + (2 ^ 32 - b)) % 2 ^ 32))
number_value And a b = Some (Number (bit_and a b))
number_value Or a b = Some (Number (bit_or a b))
number_value Eor a b = Some (Number (bit_xor a b))
number_value Equal a b = Some (Logical (a == b))
number_value Unequal a b = Some (Logical (not (a == b)))
number_value Less a b = Some (Logical (nat_lt a b))
number_value AtMost a b = Some (Logical (nat_le a b))
number_value Greater a b = Some (Logical (nat_lt b a))
number_value AtLeast a b = Some (Logical (nat_le b a))
number_value _ a b = None

abbrev pub differ : Bool → Bool → Bool
differ a b = if a then not b else b

abbrev pub logical_value : Binary → Bool → Bool → Option Value
logical_value Both a b = Some (Logical (a && b))
logical_value Either a b = Some (Logical (a || b))
logical_value OneAlone a b = Some (Logical (differ a b))
logical_value _ a b = None

-- none between a number and a logical value
abbrev pub binary_value : Binary → Value → Value → Option Value
binary_value o (Number a) (Number b) = number_value o a b
binary_value o (Logical a) (Logical b) = logical_value o a b
binary_value o _ _ = None

abbrev pub unary_value : Unary → Value → Option Value
unary_value Keep (Number a) = Some (Number a)
unary_value Negate (Number a) = Some (Number ((2 ^ 32 - a) % 2 ^ 32))
unary_value Invert (Number a) = Some (Number (2 ^ 32 - 1 - a))
unary_value Deny (Logical a) = Some (Logical (not a))
unary_value _ a = None
