-- Rows of a draft: what a statement says, and beside it as a comment the line of the source.
use Rattle.std.specs.Prelude.{ℕ, ◌-◌, ◌&&◌, nat_le, if◌then◌else◌, List, [], ◌++◌, length, map}
use Rattle.std.specs.Prelude.{take}
use Rattle.std.specs.Prelude.{codes, decimal, Option, Some, None, option_map}
use Rattle.std.specs.Char.{is_ascii_whitespace}
use Rattle.std.specs.List.{suffix_len}
use Rattle.asm_text.specs.Statements.{body_len}
use Rattle.text_rows.specs.declared.text_columns.TheConstants.{ROW_COLUMNS}
use Rattle.text_rows.specs.declared.line_labels.SourceLine.{SourceLine}

-- the label of a line
abbrev pub line_label : Option SourceLine → Option (List ℕ)
line_label line = option_map (λ l. l.label.now) line

-- a text without the blanks at its end
abbrev pub trimmed : List ℕ → List ℕ
trimmed text = take (length text - suffix_len is_ascii_whitespace text) text

-- what a line has in front of its comment, without the blanks at its end
abbrev pub without_comment : List ℕ → List ℕ
without_comment line = trimmed (take (body_len line) line)

-- a byte in a comment: a full stop for what is no printed character of ASCII
abbrev pub shown : ℕ → ℕ
shown byte = if nat_le 32 byte && nat_le byte 126 then byte else 46

-- the comment of a line: its number, and its text without its own comment
abbrev pub remark : Option SourceLine → List ℕ
remark None = []
remark (Some line) =
    codes "  # line " ++ (decimal line.number ++ (codes ": " ++ map shown (without_comment line.text.now)))

-- a text, and as much of its line's comment as a row has room for
abbrev pub row : List ℕ → Option SourceLine → List ℕ
row text line = text ++ (take (ROW_COLUMNS - length text) (remark line) ++ codes "\n")
