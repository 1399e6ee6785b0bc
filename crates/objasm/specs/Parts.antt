-- The parts of a line: runs of letters, digits and `_`, and other bytes.
use Rattle.std.specs.Prelude.{◌==◌, ◌||◌, ℕ, Bool, true, false, not, List, [], ◌∷◌, take, drop}
use Rattle.std.specs.Prelude.{Option, Some, None, if◌then◌else◌}
use Rattle.std.specs.List.{prefix_len}
use Rattle.asm_text.specs.Pieces.{is_blank, is_name}
use Rattle.objasm.specs.declared.token.Token.{Token}
use Rattle.objasm.specs.declared.token.Token.TheVariants as code

pub data Part : Type 0 where
  Run : List ℕ → Part
  Byte : ℕ → Part

abbrev pub part_of : Token → Part
part_of (code.Run r) = Run r.now
part_of (code.Byte b) = Byte b

abbrev pub run_before : ℕ → List Part → List Part
run_before b (Run r ∷ ps) = Run (b ∷ r) ∷ ps
run_before b ps = Run (b ∷ []) ∷ ps

-- the parts of a text
unfoldable pub parts : List ℕ → List Part
parts [] = []
parts (b ∷ bs) = if is_name b then run_before b (parts bs) else Byte b ∷ parts bs

-- , # [ ] { } ! ^ stand between what is written in two places of the operands
abbrev pub is_stop : ℕ → Bool
is_stop b = b == 44 || b == 35 || b == 91 || b == 93 || b == 123 || b == 125 || b == 33 || b == 94

-- a space or a tab
abbrev pub is_blank_part : Part → Bool
is_blank_part (Run r) = false
is_blank_part (Byte b) = is_blank b

abbrev pub blank_len : List Part → ℕ
blank_len ps = prefix_len is_blank_part ps

abbrev pub after_blanks : List Part → List Part
after_blanks ps = drop (blank_len ps) ps

abbrev pub front_blanks : List Part → List Part
front_blanks ps = take (blank_len ps) ps

abbrev pub goes_on : Part → Bool
goes_on (Run r) = true
goes_on (Byte b) = not (is_stop b)

abbrev pub is_over : List Part → Bool
is_over [] = true
is_over (p ∷ ps) = false

-- the run that parts are, but for blanks behind it
abbrev pub lone_run : List Part → Option (List ℕ)
lone_run (Run r ∷ ps) = if is_over (after_blanks ps) then Some r else None
lone_run _ = None

-- the parts up to the next stop
abbrev pub field_len : List Part → ℕ
field_len ps = prefix_len goes_on ps

abbrev pub first_field : List Part → List Part
first_field ps = take (field_len ps) ps

-- the next stop and what follows it
abbrev pub after_field : List Part → List Part
after_field ps = drop (field_len ps) ps
