-- Where the lines of a text are placed, of which each has one line or several in our grammar. The rule is our
-- own.
use Rattle.std.specs.Prelude.{◌==◌, ◌+◌, ◌*◌, not, ℕ, Bool, false, List, [], ◌∷◌, drop, map, slice_index_or}
use Rattle.std.specs.Prelude.{Result, Ok, Err, if◌then◌else◌}
use Rattle.asm_text.specs.Source.{lines_of}
use Rattle.asm_text.specs.Statements.{Parsed, line_of}
use Rattle.asm_text.specs.declared.statement.TextFault.{TextFault}
use Rattle.assembler.specs.Assembles.{Laid, laid, word_count}
use Rattle.assembler.specs.declared.placed_line.PlacedLine.{PlacedLine}
use Rattle.objasm.specs.Names.{mapped}
use Rattle.objasm.specs.declared.faults.LineFault.{LineFault}
use Rattle.objasm.specs.declared.faults.LineFault.TheVariants.{Scattered}

-- so many words side by side, from an address on
pub record Stretch : Type 0 where
  pub at : ℕ
  pub words : ℕ

abbrev pub stretch_of : PlacedLine → Stretch
stretch_of p = record { at = p.at; words = p.words }

abbrev pub stretch_laid : Laid → Stretch
stretch_laid line = record { at = line.at; words = word_count line.said }

-- the lines that can be read
abbrev pub with_read : Result Parsed TextFault → List Parsed → List Parsed
with_read (Ok p) ps = p ∷ ps
with_read (Err fault) ps = ps

unfoldable pub read_of : List (List ℕ) → List Parsed
read_of [] = []
read_of (line ∷ lines) = with_read (line_of line) (read_of lines)

-- the words of each line of a text in our grammar
abbrev pub stretches_of : List ℕ → List Stretch
stretches_of text = map stretch_laid (laid (read_of (lines_of text)))

abbrev pub end_of : Stretch → ℕ
end_of s = s.at + 4 * s.words

-- two that lie side by side
abbrev pub together : Stretch → Stretch → Stretch
together s t = record { at = s.at; words = s.words + t.words }

-- the first two of some lines come from one
abbrev pub have_one_origin : List ℕ → Bool
have_one_origin (n ∷ k ∷ ns) = k == n
have_one_origin _ = false

abbrev pub first_origin : List ℕ → ℕ
first_origin ns = slice_index_or ns 0 0

-- of lines, and the numbers of those that they come from: the words of each of these; or a number whose words do
-- not lie side by side
unfoldable pub gathered_from : List ℕ → Stretch → List Stretch → Result (List Stretch) ℕ
gathered_from ns s [] = Ok (s ∷ [])
gathered_from ns s (t ∷ ss) =
    if not (have_one_origin ns) then mapped (λ more. s ∷ more) (gathered_from (drop 1 ns) t ss)
    else if t.at == end_of s then gathered_from (drop 1 ns) (together s t) ss
    else Err (first_origin ns)

abbrev pub gathered : List ℕ → List Stretch → Result (List Stretch) ℕ
gathered ns [] = Ok []
gathered ns (s ∷ ss) = gathered_from ns s ss

abbrev pub scattered_at : {A : Type 0} → Result A ℕ → Result A (LineFault × ℕ)
scattered_at (Ok a) = Ok a
scattered_at (Err number) = Err (Scattered, number)
