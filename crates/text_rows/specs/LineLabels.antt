-- The labels of a source's lines.
use Rattle.std.specs.Prelude.{◌≡◌, ◌==◌, ◌&&◌, not, Bool, false, ℕ, if◌then◌else◌}
use Rattle.std.specs.Prelude.{List, [], length, take, Option, None, Some}
use Rattle.std.specs.BTreeMap.{BTreeMap, get}
use Rattle.std.specs.List.{prefix_len}
use Rattle.std.specs.Ordering.{nat_cmp}
use Rattle.asm_text.specs.Pieces.{is_blank}
use Rattle.asm_text.specs.Statements.{is_in_body}
use Rattle.image.specs.Labels.{NamedAddresses, address_of}
use Rattle.text_rows.specs.Addresses.{IsNamed}
use Rattle.text_rows.specs.declared.line_labels.SourceLine.{SourceLine}

-- neither a blank nor the start of a comment
abbrev pub is_in_word : ℕ → Bool
is_in_word b = is_in_body b && not (is_blank b)

-- what is in the first column, up to a blank or a comment
abbrev pub first_word : List ℕ → List ℕ
first_word text = take (prefix_len is_in_word text) text

abbrev pub is_at : Option ℕ → ℕ → Bool
is_at None at = false
is_at (Some address) at = address == at

-- a name, if it is that of the address, else none
abbrev pub name_of : NamedAddresses → List ℕ → ℕ → List ℕ
name_of names name at = if is_at (address_of names name) at then name else []

-- the label of an address: in the first column of a line, or else the one of a line before
abbrev pub label_of : NamedAddresses → (text before : List ℕ) → ℕ → List ℕ
label_of names text before at =
    if length (name_of names (first_word text) at) == 0 then name_of names before at
    else name_of names (first_word text) at

-- each line's label is none, or stands for the address
abbrev pub AreNamed : NamedAddresses → BTreeMap ℕ SourceLine → Type 0
AreNamed names lines =
    (at : ℕ) (line : SourceLine) → get nat_cmp lines at ≡ Some line → IsNamed names at line.label.now
