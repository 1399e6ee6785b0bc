-- What the lines of a source set: a name, once, for a number or a register.
use Rattle.std.specs.Prelude.{◌==◌, ◌||◌, ℕ, Bool, List, [], ◌∷◌, codes, map, nat_lt, Option, Some, None}
use Rattle.std.specs.Prelude.{is_some}
use Rattle.std.specs.Prelude.{option_map, Result, Ok, Err, if◌then◌else◌}
use Rattle.std.specs.Str.{bytes_eq}
use Rattle.asm_text.specs.Registers.{register_of}
use Rattle.objasm.specs.Evaluation.{evaluated}
use Rattle.objasm.specs.Names.{Meanings, and_then, is_known, is_set, mapped, with_meaning, with_waiting}
use Rattle.objasm.specs.Parts.{Part, Run, Byte, after_blanks, part_of}
use Rattle.objasm.specs.Symbols.{begins_number, symbols_in}
use Rattle.objasm.specs.declared.faults.LineFault.{LineFault}
use Rattle.objasm.specs.declared.faults.LineFault.TheVariants.{BadExpression, NoValue, BadName}
use Rattle.objasm.specs.declared.faults.LineFault.TheVariants.{NameTwice}
use Rattle.objasm.specs.declared.faults.LineFault.TheVariants.{BadRegister, NotANumber, NotLogical}
use Rattle.objasm.specs.declared.faults.LineFault.TheVariants.{NameMissing}
use Rattle.objasm.specs.declared.names.Kind.{Kind}
use Rattle.objasm.specs.declared.names.Kind.TheVariants.{Constant, Register}
use Rattle.objasm.specs.declared.operators.Value.{Value}
use Rattle.objasm.specs.declared.operators.Value.TheVariants.{Number, Logical}
use Rattle.objasm.specs.declared.settings.Setting.{Setting as CodeSetting}
use Rattle.objasm.specs.declared.symbols.Reading.TheVariants.{Ready}

abbrev pub outcome : Option (Option Value) → Result ℕ LineFault
outcome (Some (Some (Number n))) = Ok n
outcome (Some (Some (Logical b))) = Err NotANumber
outcome (Some None) = Err NoValue
outcome None = Err BadExpression

-- the value of the expression that parts are
abbrev pub value_of : Meanings → List Part → Result ℕ LineFault
value_of m ps = and_then (λ ss. outcome (evaluated ss)) (symbols_in m Ready ps)

abbrev pub truth : Option (Option Value) → Result Bool LineFault
truth (Some (Some (Logical b))) = Ok b
truth (Some (Some (Number n))) = Err NotLogical
truth (Some None) = Err NoValue
truth None = Err BadExpression

-- whether the expression that parts are holds
abbrev pub truth_of : Meanings → List Part → Result Bool LineFault
truth_of m ps = and_then (λ ss. truth (evaluated ss)) (symbols_in m Ready ps)

pub record Setting : Type 0 where
  pub name : List ℕ
  pub kind : Kind
  pub value : List Part

abbrev pub setting_view : CodeSetting → Setting
setting_view s = record { name = s.name.now; kind = s.kind; value = map part_of s.value.now }

abbrev pub kind_named : List ℕ → Option Kind
kind_named word =
    if bytes_eq word (codes "EQU") || bytes_eq word (codes "equ") then Some Constant
    else if bytes_eq word (codes "RN") || bytes_eq word (codes "rn") then Some Register
    else None

abbrev pub set_as : List ℕ → List Part → Option Setting
set_as name (Run word ∷ ps) =
    option_map (λ kind. record { name = name; kind = kind; value = ps }) (kind_named word)
set_as name (Byte b ∷ ps) =
    if b == 42 then Some (record { name = name; kind = Constant; value = ps }) else None
set_as name [] = None

-- a name in the first column, and `EQU`, `*` or `RN` after it
abbrev pub setting_of : List Part → Option Setting
setting_of (Run name ∷ ps) = set_as name (after_blanks ps)
setting_of _ = None

abbrev pub is_no_name : List ℕ → Bool
is_no_name name = begins_number name || is_some (register_of name)

abbrev pub allowed : Kind → ℕ → Result ℕ LineFault
allowed Register n = if nat_lt 15 n then Err BadRegister else Ok n
allowed Constant n = Ok n

abbrev pub setting_value : Meanings → Setting → Result ℕ LineFault
setting_value m s =
    if is_no_name s.name then Err BadName
    else if is_set m s.name then Err NameTwice
    else and_then (allowed s.kind) (value_of m s.value)

-- a name whose value needs one that is not known waits for it
abbrev pub set_or_waits : Meanings → Setting → Result ℕ LineFault → Result Meanings LineFault
set_or_waits m s (Ok n) = Ok (with_meaning s.name s.kind n m)
set_or_waits m s (Err NameMissing) = Ok (with_waiting s.name m)
set_or_waits m s (Err fault) = Err fault

abbrev pub set_by : Meanings → Option Setting → Result Meanings LineFault
set_by m None = Ok m
set_by m (Some s) = set_or_waits m s (setting_value m s)

-- the same of a line that is read again: it sets the name that waited
abbrev pub set_again : Meanings → Option Setting → Result Meanings LineFault
set_again m None = Ok m
set_again m (Some s) =
    if is_known m s.name then Ok m
    else mapped (λ n. with_meaning s.name s.kind n m) (and_then (allowed s.kind) (value_of m s.value))
