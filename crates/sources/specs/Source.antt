-- What a source says: an image where it begins as one, which names no addresses, else a text, by what it is in
-- our grammar.
use Rattle.std.specs.Prelude.{◌≡◌, ℕ, true, false, List, map, Result, Ok, Err, if◌then◌else◌}
use Rattle.image.specs.Image.{Words}
use Rattle.image.specs.ImageBytes.{image_read, is_image}
use Rattle.image.specs.Labels.{Names, address_of, no_names}
use Rattle.image.specs.declared.reading.ReadFault.{ReadFault}
use Rattle.image.specs.declared.reading.ReadFault.TheVariants as read_fault
use Rattle.assembler.specs.Sweeps.{assembled}
use Rattle.assembler.specs.declared.placed_line.PlacedLine.{PlacedLine}
use Rattle.assembler.specs.declared.fault.AsmFault.{AsmFault}
use Rattle.assembler.specs.declared.fault.AsmFault.TheVariants as asm_fault
use Rattle.assembler.specs.declared.fault.LineFault.{LineFault}
use Rattle.objasm.specs.declared.faults.LineFault.{LineFault as ObjasmFault}
use Rattle.objasm.specs.declared.faults.LineFault.TheVariants.{Scattered}
use Rattle.objasm.specs.declared.source.DialectFault.{DialectFault}
use Rattle.objasm.specs.declared.source.DialectFault.TheVariants as dialect_fault
use Rattle.sources.specs.Dialect.{InGrammar, in_grammar, origin_of, places_of, text_of}
use Rattle.sources.specs.File.{File}
use Rattle.sources.specs.Origins.{Stretch, stretch_of}
use Rattle.sources.specs.declared.fault.SourceFault.{SourceFault}
use Rattle.sources.specs.declared.fault.SourceFault.TheVariants.{Memory, Text, Image, Dialect}
use Rattle.sources.specs.declared.read.Source.{Source}
use Rattle.sources.specs.declared.read.SourceText.{SourceText}
use Rattle.sources.specs.declared.read.SourceText.TheVariants as text

-- ## Faults

-- lack of memory is one for all, and a line is the author's
abbrev pub of_text : InGrammar → AsmFault → SourceFault
of_text text asm_fault.Memory = Memory
of_text text (asm_fault.Line fault number) = Text (asm_fault.Line fault (origin_of text number))

abbrev pub of_image : ReadFault → SourceFault
of_image read_fault.Memory = Memory
of_image fault = Image fault

abbrev pub of_dialect : DialectFault → SourceFault
of_dialect dialect_fault.Memory = Memory
of_dialect fault = Dialect fault

-- ## What a source says

-- the words by their addresses, and the addresses of the labels
abbrev pub Said : Type 0
Said = Words × Names

abbrev pub said_by_image : Result Words ReadFault → Result Said SourceFault
said_by_image (Ok words) = Ok (words, no_names)
said_by_image (Err fault) = Err (Image fault)

-- the words of each of the author's lines lie side by side
abbrev pub if_side_by_side : Result (List Stretch) ℕ → Said → Result Said SourceFault
if_side_by_side (Ok places) said = Ok said
if_side_by_side (Err number) said = Err (Dialect (dialect_fault.Line Scattered number))

-- a fault with the author's line
abbrev pub said_by_text : InGrammar → Result Said (LineFault × ℕ) → Result Said SourceFault
said_by_text text (Ok said) = if_side_by_side (places_of text) said
said_by_text text (Err fault) = Err (Text (asm_fault.Line fault.0 (origin_of text fault.1)))

-- what the assembly says of a text in our grammar
abbrev pub said_by_plain : Result InGrammar (ObjasmFault × ℕ) → Result Said SourceFault
said_by_plain (Ok text) = said_by_text text (assembled (text_of text))
said_by_plain (Err fault) = Err (Dialect (dialect_fault.Line fault.0 fault.1))

-- what a source says, or its fault
unfoldable pub source_of : File → Result Said SourceFault
source_of file =
    if is_image file.bytes then said_by_image (image_read file.bytes) else said_by_plain (in_grammar file)

-- the places of the lines of a text
pub record AreItsPlaces (file : File) (placed : List PlacedLine) : Type 0 where
  pub text : InGrammar
  pub is : in_grammar file ≡ Ok text
  pub places : places_of text ≡ Ok (map stretch_of placed)

-- an image has no text, and of a text these are the file's bytes and the places of the lines
abbrev pub HasText : File → SourceText → Type 0
HasText file (text.Lines own placed) =
    (is_image file.bytes ≡ false) × (own.now ≡ file.bytes) × AreItsPlaces file placed.items
HasText file text.Image = is_image file.bytes ≡ true

-- the file says that the source has these words and labels
abbrev pub Says : File → Source → Type 0
Says file source = source_of file ≡ Ok (source.image, address_of source.labels)

-- the source has the words, the labels and the text of the file
pub record IsSource (file : File) (source : Source) : Type 0 where
  pub said : Says file source
  pub text : HasText file source.text

-- lack of memory, or the fault of what is said
abbrev pub IsFaultIn : Result Said SourceFault → SourceFault → Type 0
IsFaultIn said Memory = Unit {0}
IsFaultIn said fault = said ≡ Err fault

-- when each refusal of a source is answered; an allocation may fail whatever it says
abbrev pub IsFaultOf : File → SourceFault → Type 0
IsFaultOf file fault = IsFaultIn (source_of file) fault
