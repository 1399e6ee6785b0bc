-- Lines as they are shown: in upper case, without a label and a comment.
use Rattle.std.specs.Prelude.{ℕ, ◌&&◌, not, nat_le, Bool, true, List, [], ◌∷◌, length, Option, Some}
use Rattle.std.specs.Prelude.{None, Result, Ok, Err}
use Rattle.std.specs.Char.{is_ascii_lowercase}
use Rattle.std.specs.List.{list_all}
use Rattle.asm_text.specs.Pieces.{Piece, Run}
use Rattle.asm_text.specs.Said.{Number, Said, Codes, Refers}
use Rattle.asm_text.specs.Statements.{Parsed, is_in_body}
use Rattle.asm_text.specs.declared.statement.TextFault.{TextFault}
use Rattle.asm_text.specs.declared.printed_lines.Shown.{Shown}
use Rattle.asm_text.specs.declared.printed_lines.Shown.TheVariants as shown

-- 20 to 7E, but for `;`
abbrev pub is_shown : ℕ → Bool
is_shown b = (nat_le 32 b && nat_le b 126) && is_in_body b

-- no letter is in lower case
abbrev pub is_upper : List ℕ → Bool
is_upper text = list_all (λ b. not (is_ascii_lowercase b)) text

-- a line that is shown has at most 64 bytes
abbrev pub is_shown_text : List ℕ → Bool
is_shown_text text = (list_all is_shown text && is_upper text) && nat_le (length text) 64

abbrev pub shown_said : Shown → Said
shown_said (shown.Code c) = Codes c
shown_said (shown.Refer r n) = Refers r (Number n)

abbrev pub parsed_shown : Shown → Parsed
parsed_shown s = record { label = None; said = Some (shown_said s) }

-- an instruction whose target, where it has one, is a number
abbrev pub shown_in : Said → Option Shown
shown_in (Codes c) = Some (shown.Code c)
shown_in (Refers r (Number n)) = Some (shown.Refer r n)
shown_in _ = None

abbrev pub shown_result : Result Said TextFault → Option Shown
shown_result (Ok s) = shown_in s
shown_result (Err fault) = None

-- no run has a letter in lower case
abbrev pub upper_pieces : List Piece → Bool
upper_pieces [] = true
upper_pieces (Run r ∷ ps) = is_upper r && upper_pieces ps
upper_pieces (p ∷ ps) = upper_pieces ps
