-- What the report of a listing prints.
use Rattle.std.specs.Prelude.{◌≡◌, ◌++◌, ℕ, List}
use Rattle.sources.specs.Source.{IsSource}
use Rattle.sources.specs.declared.read.Source.{Source}
use Rattle.text_listing.specs.Listing.{AreListed}
use Rattle.source_reports.specs.Assembly.{size_text}
use Rattle.sources.specs.File.{File}

-- the rows of the source, and then its size
pub record IsListReport (source : File) (text : List ℕ) : Type 0 where
  pub read : Source
  pub is : IsSource source read
  pub rows : List ℕ
  pub are_rows : AreListed read rows
  pub text_is : text ≡ rows ++ size_text read.image
