-- Texts in ObjAsm's dialect, and what a text is in our grammar.
use Rattle.std.specs.Prelude.{◌==◌, ◌&&◌, ◌-◌, ℕ, Bool, true, false, List, [], codes, drop, length, take}
use Rattle.std.specs.Prelude.{Result, Ok, slice_index_or}
use Rattle.std.specs.List.{prefix_len}
use Rattle.std.specs.Str.{bytes_eq}
use Rattle.asm_text.specs.Pieces.{is_blank}
use Rattle.asm_text.specs.Source.{lines_of}
use Rattle.objasm.specs.Names.{mapped}
use Rattle.objasm.specs.Source.{Plain, plain_of, translated}
use Rattle.objasm.specs.declared.faults.LineFault.{LineFault}
use Rattle.sources.specs.File.{File}
use Rattle.sources.specs.Origins.{Stretch, gathered, stretches_of}
use Rattle.sources.specs.declared.file.Dialect.{Dialect}
use Rattle.sources.specs.declared.file.Dialect.TheVariants.{Plain as OwnGrammar, Objasm}
use Rattle.sources.specs.declared.dialect.PlainText.{PlainText}
use Rattle.sources.specs.declared.dialect.PlainText.TheVariants.{Same, Translated}

-- the line that says it
abbrev pub dialect_line : List ℕ
dialect_line = codes "; dialect: objasm"

-- a text is blanks alone
abbrev pub are_blanks : List ℕ → Bool
are_blanks text = length (drop (prefix_len is_blank text) text) == 0

-- a line is that one, with nothing behind it but blanks
abbrev pub says_objasm : List ℕ → Bool
says_objasm line =
    bytes_eq (take (length dialect_line) line) dialect_line && are_blanks (drop (length dialect_line) line)

-- the first line of a text is such a line
abbrev pub begins_as_objasm : List ℕ → Bool
begins_as_objasm text = says_objasm (slice_index_or (lines_of text) 0 [])

abbrev pub is_written_in : Dialect → List ℕ → Bool
is_written_in Objasm text = true
is_written_in OwnGrammar text = begins_as_objasm text

-- a text is in the dialect where that is said of the file, or its first line says so
abbrev pub is_objasm : File → Bool
is_objasm file = is_written_in file.dialect file.bytes

-- a text in our grammar: its author's, or what stands for one in the dialect
pub data InGrammar : Type 0 where
  Own : (text : List ℕ) → InGrammar
  From : Plain → InGrammar

abbrev pub own_or : Bool → List ℕ → Result Plain (LineFault × ℕ) → Result InGrammar (LineFault × ℕ)
own_or true text plain = mapped From plain
own_or false text plain = Ok (Own text)

-- what a text is in our grammar: itself, or what stands for the lines of the dialect
abbrev pub in_grammar : File → Result InGrammar (LineFault × ℕ)
in_grammar file = own_or (is_objasm file) file.bytes (translated file.bytes)

abbrev pub text_of : InGrammar → List ℕ
text_of (Own text) = text
text_of (From plain) = plain.text

-- the line that its line of a number comes from
abbrev pub origin_of : InGrammar → ℕ → ℕ
origin_of (Own text) number = number
origin_of (From plain) number = slice_index_or plain.origins (number - 1) number

-- the words of the author's lines, by those of the lines in our grammar
abbrev pub places_by : InGrammar → List Stretch → Result (List Stretch) ℕ
places_by (Own text) stretches = Ok stretches
places_by (From plain) stretches = gathered plain.origins stretches

-- where the author's lines are placed; or a line whose words do not lie side by side
abbrev pub places_of : InGrammar → Result (List Stretch) ℕ
places_of text = places_by text (stretches_of (text_of text))

abbrev pub plain_view : PlainText → InGrammar
plain_view (Same bytes) = Own bytes.now
plain_view (Translated plain) = From (plain_of plain)
