-- The parts of an ELF file: the bytes of its loadable segments, each from its virtual address on. The fields
-- are those of the Executable and Linking Format (ELF) specification of the Tool Interface Standard (TIS),
-- version 1.2, May 1995, book I: the ELF header (figure 1-3, 52 bytes) and the program headers (figure 2-1,
-- 32 bytes each). Its machine 40, ARM, is of the System V ABI; the word at the head of a chunk file is of
-- Acorn's ARM Object Format, AOF.
use Rattle.std.specs.Prelude.{ℕ, ◌+◌, ◌*◌, ◌==◌, Bool, ◌&&◌, not, nat_lt, nat_le, if◌then◌else◌, List, []}
use Rattle.std.specs.Prelude.{◌∷◌, drop, filter, find, length, map, take, Option, Some, None, option_map}
use Rattle.std.specs.Prelude.{Result, Ok, Err, zero, suc}
use Rattle.byteorder.specs.Endian.{little_number}
use Rattle.image.specs.Image.{Words}
use Rattle.imports.specs.Imported.{Placed, imported, unless}
use Rattle.imports.specs.declared.elf.Segment.{Segment}
use Rattle.imports.specs.declared.fault.ImportFault.{ImportFault}
use Rattle.imports.specs.declared.fault.ImportFault.TheVariants as import_fault

-- ## The header

-- the number in two bytes from an offset on, or in four, the lowest first; bytes that are missing count as 0
abbrev pub half_at : List ℕ → ℕ → ℕ
half_at bytes offset = little_number 2 (drop offset bytes)

abbrev pub word_at : List ℕ → ℕ → ℕ
word_at bytes offset = little_number 4 (drop offset bytes)

abbrev pub byte_at : List ℕ → ℕ → ℕ
byte_at bytes offset = little_number 1 (drop offset bytes)

-- what a file has to be, and why it is refused if it is not
pub record Wanted : Type 0 where
  pub holds : Bool
  pub fault : ImportFault

abbrev pub wanted : Bool → ImportFault → Wanted
wanted holds fault = record { holds = holds; fault = fault }

-- no chunk file; the bytes 7F 45 4C 46, and a whole header; of EI_CLASS 32 bits, of EI_DATA the lowest byte
-- first, of EI_VERSION and e_version 1; of e_machine ARM, of e_type executable; and of e_phentsize 32 bytes
abbrev pub wants : List ℕ → List Wanted
wants bytes =
    wanted (not (word_at bytes 0 == 0xC3CBC6C5)) import_fault.AcornObject
    ∷ wanted (word_at bytes 0 == 0x464C457F) import_fault.NotElf
    ∷ wanted (nat_le 52 (length bytes)) import_fault.HeaderCut
    ∷ wanted (byte_at bytes 4 == 1) import_fault.Not32Bit
    ∷ wanted (byte_at bytes 5 == 1) import_fault.NotLittleEndian
    ∷ wanted (byte_at bytes 6 == 1) import_fault.NotVersion1
    ∷ wanted (word_at bytes 20 == 1) import_fault.NotVersion1
    ∷ wanted (half_at bytes 18 == 40) import_fault.NotArm
    ∷ wanted (half_at bytes 16 == 2) import_fault.NotExecutable
    ∷ wanted (half_at bytes 42 == 32) import_fault.BadEntrySize
    ∷ []

-- the fault of the first that does not hold
abbrev pub first_fault : List Wanted → Option ImportFault
first_fault [] = None
first_fault (w ∷ rest) = if w.holds then first_fault rest else Some w.fault

abbrev pub header_fault : List ℕ → Option ImportFault
header_fault bytes = first_fault (wants bytes)

-- ## The program headers

-- where they begin, and how many there are: e_phoff and e_phnum
abbrev pub table_offset : List ℕ → ℕ
table_offset bytes = word_at bytes 28

abbrev pub table_length : List ℕ → ℕ
table_length bytes = half_at bytes 44

abbrev pub table_in : List ℕ → List ℕ
table_in bytes = drop (table_offset bytes) bytes

-- they are not all in the file
abbrev pub table_fault : List ℕ → Option ImportFault
table_fault bytes =
    if nat_lt (length bytes) (table_offset bytes + 32 * table_length bytes)
    then Some import_fault.TableOutside else None

-- ## The segments

-- what a program header says: p_type, p_offset, p_vaddr and p_filesz
abbrev pub segment_in : List ℕ → Segment
segment_in entry =
    record {
      kind = word_at entry 0;
      offset = word_at entry 4;
      address = word_at entry 8;
      size = word_at entry 16;
    }

-- so many program headers side by side
abbrev pub segments_in : ℕ → List ℕ → List Segment
segments_in zero table = []
segments_in (suc n) table = segment_in table ∷ segments_in n (drop 32 table)

-- PT_LOAD, with bytes in the file
abbrev pub is_loaded : Segment → Bool
is_loaded segment = segment.kind == 1 && not (segment.size == 0)

-- the loadable segments of a file, in the order of their headers
abbrev pub loaded : List ℕ → List Segment
loaded bytes = filter is_loaded (segments_in (table_length bytes) (table_in bytes))

-- its last byte is not in the file
abbrev pub is_outside : List ℕ → Segment → Bool
is_outside bytes segment = nat_lt (length bytes) (segment.offset + segment.size)

-- there are none, or the first that is not in the file
abbrev pub segments_fault : List ℕ → List Segment → Option ImportFault
segments_fault bytes [] = Some import_fault.NoSegment
segments_fault bytes (s ∷ rest) =
    option_map (λ segment. import_fault.SegmentOutside segment.address) (find (is_outside bytes) (s ∷ rest))

-- ## The parts

-- the bytes of a segment, from its address on; what its memory has more is not in the file
abbrev pub part_in : List ℕ → Segment → Placed
part_in bytes segment =
    record { address = segment.address; bytes = take segment.size (drop segment.offset bytes) }

-- the parts of a file, or the first fault
abbrev pub elf_parts : List ℕ → Result (List Placed) ImportFault
elf_parts bytes =
    unless (header_fault bytes)
    (unless (table_fault bytes)
    (unless (segments_fault bytes (loaded bytes)) (Ok (map (part_in bytes) (loaded bytes)))))

-- the words of the image of parts, where there are parts
abbrev pub imported_of : Result (List Placed) ImportFault → Result Words ImportFault
imported_of (Ok parts) = imported parts
imported_of (Err fault) = Err fault

-- the words of the image of an ELF file, or the first fault
abbrev pub elf_imported : List ℕ → Result Words ImportFault
elf_imported bytes = imported_of (elf_parts bytes)
