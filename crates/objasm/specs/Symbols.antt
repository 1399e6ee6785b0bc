-- How symbols are written: parts, of which a symbol has one or more.
use Rattle.std.specs.Prelude.{◌==◌, ◌||◌, ℕ, Bool, false, List, [], ◌∷◌, codes, Option, Some, None, is_some}
use Rattle.std.specs.Prelude.{Result, Ok, Err, if◌then◌else◌}
use Rattle.std.specs.Char.{is_ascii_digit}
use Rattle.std.specs.List.{cons_option, list_any}
use Rattle.std.specs.Option.{ok_or}
use Rattle.std.specs.Str.{bytes_eq}
use Rattle.asm_text.specs.Numbers.{number_by}
use Rattle.objasm.specs.Names.{Meanings, and_then, mapped}
use Rattle.objasm.specs.Numerals.{read_numeral}
use Rattle.objasm.specs.Parts.{Part, Run, Byte}
use Rattle.objasm.specs.declared.faults.LineFault.{LineFault}
use Rattle.objasm.specs.declared.faults.LineFault.TheVariants.{BadExpression, BadNumber, NameMissing}
use Rattle.objasm.specs.declared.faults.LineFault.TheVariants.{NotANumber}
use Rattle.objasm.specs.declared.operators.Binary.TheVariants.{Times, Over, Mod, Shl, Shr, Rol, Ror, Plus}
use Rattle.objasm.specs.declared.operators.Binary.TheVariants.{Minus}
use Rattle.objasm.specs.declared.operators.Binary.TheVariants.{And, Or, Eor, Equal, Unequal, AtMost}
use Rattle.objasm.specs.declared.operators.Binary.TheVariants.{AtLeast, Both, Either, OneAlone}
use Rattle.objasm.specs.declared.operators.Binary.TheVariants as binary
use Rattle.objasm.specs.declared.operators.Binary.{Binary}
use Rattle.objasm.specs.declared.symbols.Reading.{Reading}
use Rattle.objasm.specs.declared.symbols.Reading.TheVariants.{Ready, Hex, Slash, Less, Greater, Colon}
use Rattle.objasm.specs.declared.symbols.Reading.TheVariants.{Named, Quote, Quoted}
use Rattle.objasm.specs.declared.symbols.Symbol.{Symbol}
use Rattle.objasm.specs.declared.symbols.Symbol.TheVariants.{Number, Operator, Not, LogicalNot, Open}
use Rattle.objasm.specs.declared.symbols.Symbol.TheVariants.{Close}

-- the operators with names, which stand between two colons
abbrev pub operator_named : List ℕ → Option Symbol
operator_named name =
    if bytes_eq name (codes "MOD") then Some (Operator Mod)
    else if bytes_eq name (codes "SHL") then Some (Operator Shl)
    else if bytes_eq name (codes "SHR") then Some (Operator Shr)
    else if bytes_eq name (codes "ROL") then Some (Operator Rol)
    else if bytes_eq name (codes "ROR") then Some (Operator Ror)
    else if bytes_eq name (codes "AND") then Some (Operator And)
    else if bytes_eq name (codes "OR") then Some (Operator Or)
    else if bytes_eq name (codes "EOR") then Some (Operator Eor)
    else if bytes_eq name (codes "NOT") then Some Not
    else if bytes_eq name (codes "LAND") then Some (Operator Both)
    else if bytes_eq name (codes "LOR") then Some (Operator Either)
    else if bytes_eq name (codes "LEOR") then Some (Operator OneAlone)
    else if bytes_eq name (codes "LNOT") then Some LogicalNot
    else None

abbrev pub begins_number : List ℕ → Bool
begins_number [] = false
begins_number (b ∷ bs) = is_ascii_digit b

-- why a name stands for no number: it has an address with a base register, or no line sets it
abbrev pub no_number : Meanings → List ℕ → LineFault
no_number m run = if is_some (m.bases run) then NotANumber else NameMissing

-- the number that a run stands for: by its digits, or as the name of one
abbrev pub number_of : Meanings → List ℕ → Result ℕ LineFault
number_of m run =
    if begins_number run then ok_or (read_numeral run) BadNumber
    else ok_or (m.constants run) (no_number m run)

-- a symbol, if one is read to its end, and what has been read of the next
abbrev pub Step : Type 0
Step = Result (Option Symbol × Reading) LineFault

abbrev pub whole : Symbol → Step
whole s = Ok (Some s, Ready)

abbrev pub begun : Reading → Step
begun r = Ok (None, r)

abbrev pub quoted : List ℕ → Step
quoted (c ∷ []) = begun (Quoted c)
quoted _ = Err BadExpression

abbrev pub after_run : Meanings → Reading → List ℕ → Step
after_run m Ready run = and_then (λ n. whole (Number n)) (number_of m run)
after_run m Hex run = and_then (λ n. whole (Number n)) (ok_or (number_by 16 run) BadNumber)
after_run m Colon run = and_then (λ s. begun (Named s)) (ok_or (operator_named run) BadExpression)
after_run m Quote run = quoted run
after_run m _ run = Err BadExpression

-- the next part is one of these bytes
abbrev pub goes_on : List ℕ → List Part → Bool
goes_on bytes (Byte b ∷ ps) = list_any (λ x. x == b) bytes
goes_on bytes _ = false

-- a sign of one byte, where no byte after it makes it another
abbrev pub sign_or : Binary → Reading → Bool → Step
sign_or alone r is_begun = if is_begun then begun r else whole (Operator alone)

abbrev pub sign : ℕ → List Part → Step
sign b ps =
    if b == 32 || b == 9 then begun Ready
    else if b == 43 then whole (Operator Plus)
    else if b == 45 then whole (Operator Minus)
    else if b == 42 then whole (Operator Times)
    else if b == 47 then sign_or Over Slash (goes_on (codes "=") ps)
    else if b == 61 then whole (Operator Equal)
    else if b == 40 then whole Open
    else if b == 41 then whole Close
    else if b == 38 then begun Hex
    else if b == 60 then sign_or binary.Less Less (goes_on (codes "<=>") ps)
    else if b == 62 then sign_or binary.Greater Greater (goes_on (codes "=>") ps)
    else if b == 58 then begun Colon
    else if b == 39 then begun Quote
    else Err BadExpression

abbrev pub at_last : ℕ → ℕ → Symbol → Step
at_last b last s = if b == last then whole s else Err BadExpression

-- the signs of two bytes that begin with `<`, and those with `>`

abbrev pub after_less : ℕ → Step
after_less b =
    if b == 60 then whole (Operator Shl)
    else if b == 61 then whole (Operator AtMost)
    else if b == 62 then whole (Operator Unequal)
    else Err BadExpression

abbrev pub after_greater : ℕ → Step
after_greater b =
    if b == 62 then whole (Operator Shr) else if b == 61 then whole (Operator AtLeast) else Err BadExpression

abbrev pub after_byte : Reading → ℕ → List Part → Step
after_byte Ready b ps = sign b ps
after_byte Slash b ps = at_last b 61 (Operator Unequal)
after_byte Less b ps = after_less b
after_byte Greater b ps = after_greater b
after_byte (Named s) b ps = at_last b 58 s
after_byte Quote b ps = begun (Quoted b)
after_byte (Quoted c) b ps = at_last b 39 (Number c)
after_byte _ b ps = Err BadExpression

-- the first part of some, read
abbrev pub reading_step : Meanings → Reading → List Part → Step
reading_step m reading [] = Err BadExpression
reading_step m reading (Run r ∷ ps) = after_run m reading r
reading_step m reading (Byte b ∷ ps) = after_byte reading b ps

abbrev pub no_more : Reading → Result (List Symbol) LineFault
no_more Ready = Ok []
no_more _ = Err BadExpression

-- the symbols that parts are
unfoldable pub symbols_in : Meanings → Reading → List Part → Result (List Symbol) LineFault
symbols_in m reading [] = no_more reading
symbols_in m reading (p ∷ ps) =
    and_then (λ f. mapped (λ ss. cons_option f.0 ss) (symbols_in m f.1 ps)) (reading_step m reading (p ∷ ps))
