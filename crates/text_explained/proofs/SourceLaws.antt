-- The ticks of a source's rows, and its words, by its lines or by the words of an image.
use Rattle.std.proofs.Common.{◌≡◌, ◌^◌, ◌<◌, ℕ, List, Ok}
use Rattle.assembler.specs.Assembles.{IsAssembly}
use Rattle.assembler.specs.Sweeps.{assembled}
use Rattle.assembler.proofs.PlaceLemmas.{Reads}
use Rattle.control_flow.specs.Flow.{Flow, IsWellFormed}
use Rattle.image.specs.Image.{Words}
use Rattle.image.specs.Labels.{Names, address_of}
use Rattle.longest_walk.specs.Folded.{unfolded}
use Rattle.longest_walk.specs.Longest.{IsWalkOf}
use Rattle.longest_walk.specs.declared.folded.Item.{Item}
use Rattle.loop_bounds.specs.Tree.{Tree}
use Rattle.sources.specs.File.{File}
use Rattle.sources.specs.Source.{HasText, IsSource, source_of}
use Rattle.sources.specs.declared.read.Source.{Source}
use Rattle.sources.specs.declared.read.SourceText.{SourceText}
use Rattle.sources.specs.declared.read.SourceText.TheVariants.{Lines, Image}
use Rattle.sources.specs.Dialect.{text_of}
use Rattle.sources.proofs.OriginLaws.{all_listed}
use Rattle.sources.proofs.SourceLaws.{image_was_read, text_was_assembled}
use Rattle.text_explained.specs.Table.{all_ticks, listed_words}
use Rattle.text_explained.specs.Taken.{AreListedOnce, AreOnWords, taken_at}
use Rattle.text_explained.proofs.ListedOnceLaws.{image_stands, source_stands}
use Rattle.text_explained.proofs.TotalLaws.{image_sum, source_sum}

pub all_sum : (flow : Flow) (tree : Tree) (cost : ℕ) (items : List Item) (words : Words) (text : SourceText) → IsWellFormed flow → IsWalkOf flow tree cost items → cost < 2 ^ 64
    → AreListedOnce flow.places (listed_words words text) → all_ticks (taken_at flow (unfolded items)) words text ≡ cost
all_sum flow tree cost items words (Lines bytes placed) well walk fits once = source_sum flow tree cost items placed.items well walk fits once
all_sum flow tree cost items words Image well walk fits once = image_sum flow tree cost items words well walk fits once

abbrev AreOne : Type 0
AreOne = (source : List ℕ) (image : Words) (names : Names) → assembled source ≡ Ok (image, names) → IsAssembly source image names

module _ (reads : Reads) (are_one : AreOne) (file : File) where
  listed : (words : Words) (names : Names) (text : SourceText) (flow : Flow) → IsWellFormed flow → source_of file ≡ Ok (words, names) → HasText file text → AreOnWords words flow.places
      → AreListedOnce flow.places (listed_words words text)
  listed words names (Lines own placed) flow well said has on =
      let its = has.2 in
      let assembly = are_one (text_of its.text) words names (text_was_assembled file its.text words names has.0 its.is said) in
      source_stands (text_of its.text) words names flow.places placed.items assembly (all_listed reads its.text assembly.lines placed.items assembly.read its.places) well.no_exit on
  listed words names Image flow well said has on = image_stands file.bytes words flow.places (image_was_read file words names has said) well.no_exit on

  pub listed_once : (source : Source) (flow : Flow) → IsWellFormed flow → IsSource file source → AreOnWords source.image flow.places
      → AreListedOnce flow.places (listed_words source.image source.text)
  listed_once source flow well is on = listed source.image (address_of source.labels) source.text flow well is.said is.text on
