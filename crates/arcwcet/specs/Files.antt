-- Reading files from a store, one after another, and writing one; and reading an input.
use Rattle.std.specs.Prelude.{◌≡◌, ◌≤◌, ◌+◌, ◌⊎◌, ℕ, List, [], ◌∷◌, length, Option, None, Some, Result, Ok}
use Rattle.std.specs.Prelude.{Err, drop, slice_index_or}
use Rattle.std.specs.Io.KnownBytes.{Consumes}
use Rattle.std.specs.List.{cons_option}
use Rattle.outputs.specs.Output.{FailsSince}
use Rattle.command_line.specs.Line.{Asked}
use Rattle.sources.specs.File.{File}
use Rattle.sources.specs.declared.file.Dialect.{Dialect}
use Rattle.sources.specs.declared.file.Dialect.TheVariants.{Plain, Objasm}
use Rattle.arcwcet.specs.declared.fault.StoreFault.{StoreFault}
use Rattle.arcwcet.specs.declared.fault.StoreFault.TheVariants as store_fault
use Rattle.arcwcet.specs.declared.files.TheConstants.{MOST_INPUT_BYTES}

-- the names of files, or their bytes
abbrev pub Texts : Type 0
Texts = List (List ℕ)

-- the names of what a command reads: a cycle profile's file comes first, where one is named
abbrev pub names_of : Asked → Texts
names_of asked = cons_option asked.profile asked.files

-- The bytes of a command's files, a cycle profile's apart: a file that a command does not have is empty. The
-- first is read as a source, and the fourth is one of FIQ's in some commands. And the bytes of all files
-- behind the first two.
pub record Inputs : Type 0 where
  pub profile : Option (List ℕ)
  pub source : File
  pub second : List ℕ
  pub third : List ℕ
  pub fourth : List ℕ
  pub fiq_source : File
  pub rest : Texts

-- what sources are written in, where the words name it
abbrev pub dialect_of : Option (List ℕ) → Dialect
dialect_of None = Plain
dialect_of (Some name) = Objasm

-- the file in a place, from 0, as a source
abbrev pub source_at : Dialect → Texts → ℕ → File
source_at dialect files place = record { dialect = dialect; bytes = slice_index_or files place [] }

abbrev pub inputs : Dialect → Option (List ℕ) → Texts → Inputs
inputs dialect profile files =
    record {
      profile = profile;
      source = source_at dialect files 0;
      second = slice_index_or files 1 [];
      third = slice_index_or files 2 [];
      fourth = slice_index_or files 3 [];
      fiq_source = source_at dialect files 3;
      rest = drop 2 files;
    }

-- of the files that were read, with a cycle profile's in front where one is named
abbrev pub inputs_in : Dialect → (named : Option (List ℕ)) → Texts → Inputs
inputs_in dialect None files = inputs dialect None files
inputs_in dialect (Some name) [] = inputs dialect None []
inputs_in dialect (Some name) (profile ∷ files) = inputs dialect (Some profile) files

-- the files but for a cycle profile's, which is in front where one is named
abbrev pub others_in : (named : Option (List ℕ)) → Texts → Texts
others_in None files = files
others_in (Some name) files = drop 1 files

abbrev pub inputs_of : Asked → Texts → Inputs
inputs_of asked files = inputs_in (dialect_of asked.dialect) asked.profile files

-- how a store is read: what it was, a name, what the read returns, and the store after it
abbrev pub Reading : Type 0 → Type 1
Reading S = S → List ℕ → Result (List ℕ) StoreFault → S → Type 0

-- how a store is written: what it was, a name, bytes, what the write returns, and the store after it
abbrev pub Writing : Type 0 → Type 1
Writing S = S → List ℕ → List ℕ → Result (Unit {0}) StoreFault → S → Type 0

module _ {S : Type 0} (reads : Reading S) where
  -- the files of these names were read, one after another
  abbrev pub ReadsAll : S → Texts → Texts → S → Type 0
  ReadsAll old [] [] new = new ≡ old
  ReadsAll old (name ∷ names) (file ∷ files) new =
      (between : S) × reads old name (Ok file) between × ReadsAll between names files new
  ReadsAll old names files new = ⊥

  -- one of them could not be read, and those before it were
  abbrev pub FailsToRead : S → Texts → StoreFault → S → Type 0
  FailsToRead old [] fault new = ⊥
  FailsToRead old (name ∷ names) fault new =
      (reads old name (Err fault) new)
      ⊎ ((between : S) × (file : List ℕ) × reads old name (Ok file) between
      × FailsToRead between names fault new)

-- a front of what was left was read and nothing more: a byte more than the limit of what is too long, and
-- within the limit where the input failed
pub record StopsReading (fault : StoreFault) (old new : Option (List ℕ)) (before after : ℕ) : Type 0 where
  pub front : List ℕ
  pub consumed : Consumes old new front
  pub few : length front ≤ MOST_INPUT_BYTES + 1
  pub too_long : fault ≡ store_fault.InputTooLong → length front ≡ MOST_INPUT_BYTES + 1
  pub failed : fault ≡ store_fault.Device → (length front ≤ MOST_INPUT_BYTES) × FailsSince before after
