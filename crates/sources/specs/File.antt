-- Files that are read as sources.
use Rattle.std.specs.Prelude.{ℕ, List}
use Rattle.sources.specs.declared.file.Dialect.{Dialect}
use Rattle.sources.specs.declared.file.SourceFile.{SourceFile}

-- the dialect that a text is in, whatever it says, and the bytes
pub record File : Type 0 where
  pub dialect : Dialect
  pub bytes : List ℕ

abbrev pub file_of : SourceFile → File
file_of f = record { dialect = f.dialect; bytes = f.bytes.now }
