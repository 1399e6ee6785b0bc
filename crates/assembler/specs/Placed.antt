-- Where the lines of a source are placed.
use Rattle.std.specs.Prelude.{◌≡◌, ℕ, List, []}
use Rattle.std.specs.List.{AllZip}
use Rattle.asm_text.specs.Source.{lines_of}
use Rattle.asm_text.specs.Statements.{Parsed}
use Rattle.assembler.specs.Assembles.{Laid, laid, word_count}
use Rattle.assembler.specs.Refusals.{ArePassed, IsRefusedAtOnce}
use Rattle.assembler.specs.declared.fault.AsmFault.{AsmFault}
use Rattle.assembler.specs.declared.fault.AsmFault.TheVariants.{Memory, Line}
use Rattle.assembler.specs.declared.placed_line.PlacedLine.{PlacedLine}

-- a line's address, and how many words it has
abbrev pub IsPlaced : Laid → PlacedLine → Type 0
IsPlaced line p = (p.at ≡ line.at) × (p.words ≡ word_count line.said)

-- the places of all lines of a source; none has a fault that needs no label's address
pub record ArePlaced (source : List ℕ) (placed : List PlacedLine) : Type 0 where
  pub lines : List Parsed
  pub passed : ArePassed [] (lines_of source) lines
  pub places : AllZip IsPlaced (laid lines) placed

-- a refusal for memory, or that of the first line with a fault that needs no label's address
abbrev pub IsPlaceFault : List ℕ → AsmFault → Type 0
IsPlaceFault source Memory = Unit {0}
IsPlaceFault source (Line fault k) = IsRefusedAtOnce source fault k
