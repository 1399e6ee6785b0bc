-- Storage maps: names for places in memory that follow one another from a counter on (our reading of ObjAsm's
-- manual, storage maps; docs/DECISIONS.md).
use Rattle.std.specs.Prelude.{◌==◌, ℕ, List, [], ◌∷◌, codes, map, Option, Some, None, option_map, Result, Ok}
use Rattle.std.specs.Prelude.{Err}
use Rattle.std.specs.Prelude.{if◌then◌else◌}
use Rattle.std.specs.Option.{ok_or, option_and_then, option_or}
use Rattle.std.specs.Str.{bytes_eq}
use Rattle.arm2_decode.specs.Names.{register_number}
use Rattle.asm_text.specs.Registers.{register_of}
use Rattle.objasm.specs.Names.{Meanings, advanced, and_then, is_set, mapped, with_address, with_counter}
use Rattle.objasm.specs.Names.{with_meaning}
use Rattle.objasm.specs.Parts.{Part, Run, Byte, after_blanks, after_field, first_field, lone_run, part_of}
use Rattle.objasm.specs.Settings.{is_no_name, set_again, set_by, setting_of, value_of}
use Rattle.objasm.specs.declared.faults.LineFault.{LineFault}
use Rattle.objasm.specs.declared.faults.LineFault.TheVariants.{BadName, BadRegister, NameTwice}
use Rattle.objasm.specs.declared.maps.MapLine.{MapLine as CodeMapLine}
use Rattle.objasm.specs.declared.maps.MapLine.TheVariants as code
use Rattle.objasm.specs.declared.maps.Pass.{Pass}
use Rattle.objasm.specs.declared.maps.Pass.TheVariants.{First, Second}
use Rattle.objasm.specs.declared.names.Kind.TheVariants.{Constant}

-- where places begin, without or with a base register, or how many bytes one has, without or with a name
pub data MapLine : Type 0 where
  Start : (at : List Part) → MapLine
  Based : (at base : List Part) → MapLine
  Space : (size : List Part) → MapLine
  Named : (name : List ℕ) → (size : List Part) → MapLine

abbrev pub map_view : CodeMapLine → MapLine
map_view (code.Start at) = Start (map part_of at.now)
map_view (code.Based at base) = Based (map part_of at.now) (map part_of base.now)
map_view (code.Space size) = Space (map part_of size.now)
map_view (code.Named name size) = Named name.now (map part_of size.now)

abbrev pub start_with : (all behind : List Part) → MapLine
start_with all (Byte b ∷ base) = if b == 44 then Based (first_field all) base else Start all
start_with all _ = Start all

-- an expression, and behind a comma a base register
abbrev pub start_line : List Part → MapLine
start_line ps = start_with ps (after_field ps)

-- `^` or MAP, `#` or FIELD
abbrev pub lone_line : List Part → Option MapLine
lone_line (Byte b ∷ ps) =
    if b == 94 then Some (start_line ps) else if b == 35 then Some (Space ps) else None
lone_line (Run word ∷ ps) =
    if bytes_eq word (codes "MAP") then Some (start_line ps)
    else if bytes_eq word (codes "FIELD") then Some (Space ps)
    else None
lone_line [] = None

abbrev pub named_line : List ℕ → List Part → Option MapLine
named_line name (Byte b ∷ ps) = if b == 35 then Some (Named name ps) else None
named_line name (Run word ∷ ps) = if bytes_eq word (codes "FIELD") then Some (Named name ps) else None
named_line name [] = None

-- what a line says of a map: a name stands in the first column
abbrev pub map_line_of : List Part → Option MapLine
map_line_of (Run name ∷ ps) = named_line name (after_blanks ps)
map_line_of ps = lone_line (after_blanks ps)

-- the number of a register, by a name that a line sets or its own
abbrev pub register_named : Meanings → List ℕ → Option ℕ
register_named m run = option_or (m.registers run) (option_map register_number (register_of run))

abbrev pub register_in : Meanings → List Part → Result ℕ LineFault
register_in m ps = ok_or (option_and_then (register_named m) (lone_run (after_blanks ps))) BadRegister

-- a name stands for the counter: behind the base register, or else as a number
abbrev pub placed : List ℕ → Option ℕ → Meanings → Meanings
placed name (Some base) m = with_address name (record { base = base; offset = m.counter }) m
placed name None m = with_meaning name Constant m.counter m

-- the meanings after such a line: `^` sets the counter, and `#` names it and adds to it
abbrev pub map_set : Meanings → MapLine → Result Meanings LineFault
map_set m (Start at) = mapped (λ n. with_counter n None m) (value_of m at)
map_set m (Based at base) =
    and_then (λ n. mapped (λ r. with_counter n (Some r) m) (register_in m base)) (value_of m at)
map_set m (Space size) = mapped (λ n. advanced n m) (value_of m size)
map_set m (Named name size) =
    if is_no_name name then Err BadName
    else if is_set m name then Err NameTwice
    else mapped (λ n. advanced n (placed name m.base m)) (value_of m size)

-- ## Any line

abbrev pub settled_by : Meanings → Option MapLine → List Part → Result Meanings LineFault
settled_by m (Some line) ps = map_set m line
settled_by m None ps = set_by m (setting_of ps)

-- the meanings after a line, when it is read first
abbrev pub settled : Meanings → List Part → Result Meanings LineFault
settled m ps = settled_by m (map_line_of ps) ps

abbrev pub settled_again_by : Meanings → Option MapLine → List Part → Result Meanings LineFault
settled_again_by m (Some line) ps = Ok m
settled_again_by m None ps = set_again m (setting_of ps)

-- the meanings after a line that is read again: maps are as they were
abbrev pub settled_again : Meanings → List Part → Result Meanings LineFault
settled_again m ps = settled_again_by m (map_line_of ps) ps

-- by the time that the line is read for the names
abbrev pub set_in : Pass → Meanings → List Part → Result Meanings LineFault
set_in First m ps = settled m ps
set_in Second m ps = settled_again m ps
