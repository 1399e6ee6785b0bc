-- What `import` makes of its files.
use Rattle.std.specs.Prelude.{◌≡◌, ◌++◌, ℕ, Bool, false, List, [], ◌∷◌, codes, drop, Option, Some, None}
use Rattle.std.specs.Prelude.{Result, Ok, if◌then◌else◌, is_none}
use Rattle.image.specs.Image.{Words}
use Rattle.image.specs.ImageBytes.{image_bytes, segments_of}
use Rattle.imports.specs.Elf.{elf_imported}
use Rattle.imports.specs.Imported.{Placed, imported}
use Rattle.imports.specs.declared.fault.ImportFault.{ImportFault}
use Rattle.imports.specs.declared.fault.ImportFault.TheVariants as import_fault
use Rattle.source_reports.specs.Assembly.{size_text}
use Rattle.command_line.specs.Line.{Asked}
use Rattle.arcwcet.specs.Files.{Texts, others_in}
use Rattle.handlers.specs.FaultText.{place_text}
use Rattle.handlers.specs.declared.refusal_line.FaultPlace.{FaultPlace}
use Rattle.handlers.specs.declared.refusal_line.FaultPlace.TheVariants.{Address, Nowhere}

-- ## The parts

-- the first of some addresses; 0 where there is none
abbrev pub first_place : List (Option ℕ) → ℕ
first_place (Some address ∷ rest) = address
first_place places = 0

-- files, each at its address
abbrev pub placed : List (Option ℕ) → Texts → List Placed
placed places [] = []
placed places (bytes ∷ rest) =
    record { address = first_place places; bytes = bytes } ∷ placed (drop 1 places) rest

-- ## The image

-- one file has no address: it is an ELF file, which says where its parts lie
abbrev pub is_elf : List (Option ℕ) → Bool
is_elf [] = false
is_elf (place ∷ []) = is_none place
is_elf (place ∷ next ∷ rest) = false

abbrev pub first_file : Texts → List ℕ
first_file [] = []
first_file (bytes ∷ rest) = bytes

-- the words of the image of files, or why there is none
abbrev pub image_at : List (Option ℕ) → Texts → Result Words ImportFault
image_at places files =
    if is_elf places then elf_imported (first_file files) else imported (placed places files)

-- of what is asked, by the bytes of its files
abbrev pub image_of : Asked → Texts → Result Words ImportFault
image_of asked files = image_at asked.places (others_in asked.profile files)

-- the bytes of the image's file and the report, of an image
pub record IsImported (image : Result Words ImportFault) (bytes text : List ℕ) : Type 0 where
  pub words : Words
  pub are : image ≡ Ok words
  pub bytes_are : bytes ≡ image_bytes (segments_of words)
  pub text_is : text ≡ size_text words

-- ## What is refused

abbrev pub import_fault_name : ImportFault → List ℕ
import_fault_name import_fault.Memory = codes "Memory"
import_fault_name import_fault.TooManyParts = codes "TooManyParts"
import_fault_name (import_fault.Misaligned address) = codes "Misaligned"
import_fault_name (import_fault.OutOfRange address) = codes "OutOfRange"
import_fault_name (import_fault.Overlap address) = codes "Overlap"
import_fault_name (import_fault.TooLong address) = codes "TooLong"
import_fault_name import_fault.NotElf = codes "NotElf"
import_fault_name import_fault.AcornObject = codes "AcornObject"
import_fault_name import_fault.HeaderCut = codes "HeaderCut"
import_fault_name import_fault.Not32Bit = codes "Not32Bit"
import_fault_name import_fault.NotLittleEndian = codes "NotLittleEndian"
import_fault_name import_fault.NotVersion1 = codes "NotVersion1"
import_fault_name import_fault.NotArm = codes "NotArm"
import_fault_name import_fault.NotExecutable = codes "NotExecutable"
import_fault_name import_fault.BadEntrySize = codes "BadEntrySize"
import_fault_name import_fault.TableOutside = codes "TableOutside"
import_fault_name import_fault.NoSegment = codes "NoSegment"
import_fault_name (import_fault.SegmentOutside address) = codes "SegmentOutside"

abbrev pub import_fault_place : ImportFault → FaultPlace
import_fault_place (import_fault.Misaligned address) = Address address
import_fault_place (import_fault.OutOfRange address) = Address address
import_fault_place (import_fault.Overlap address) = Address address
import_fault_place (import_fault.TooLong address) = Address address
import_fault_place (import_fault.SegmentOutside address) = Address address
import_fault_place fault = Nowhere

-- a fault's name, and its place, if it has one
abbrev pub import_fault_text : ImportFault → List ℕ
import_fault_text fault = import_fault_name fault ++ place_text (import_fault_place fault)

abbrev pub import_status : ImportFault → ℕ
import_status import_fault.Memory = 3
import_status fault = 1
