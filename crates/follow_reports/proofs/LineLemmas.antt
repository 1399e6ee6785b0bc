-- The number of the line of a source that has a word at an address.
use Rattle.std.proofs.Common.{◌≡◌, ◌∙◌, ℕ, List, Option, None, Some, ap, refl}
use Rattle.std.specs.Borrow.{Bor}
use Rattle.std.specs.BTreeMap.{BTreeMap}
use Rattle.std.specs.Prelude.{option_map}
use Rattle.follow_reports.specs.FollowText.{IsLineNumberAt}
use Rattle.sources.specs.Lines.{AreLines}
use Rattle.sources.specs.Source.{IsSource}
use Rattle.sources.specs.declared.read.Source.{Source}
use Rattle.text_rows.specs.WordLines.{line_at, numbered}
use Rattle.text_rows.specs.declared.line_labels.SourceLine.{SourceLine}
use Rattle.sources.specs.File.{File}

number_of : (found : Option (Bor SourceLine)) → option_map (λ l. l.now.number) found ≡ option_map (λ l. l.number) (option_map numbered (option_map (λ l. l.now) found))
number_of None = refl
number_of (Some line) = refl

-- by the source's lines
pub numbered_by : (source : File) (read : Source) → IsSource source read → (lines : BTreeMap ℕ SourceLine) → AreLines read lines → (at : ℕ) (found : Option (Bor SourceLine))
    → option_map (λ l. l.now) found ≡ line_at lines at → (number : Option ℕ) → number ≡ option_map (λ l. l.now.number) found → IsLineNumberAt source at number
numbered_by source read is_read lines are at found is number number_is = record {
  read = read;
  is_read = is_read;
  line_is = number_is ∙ number_of found ∙ ap (λ line. option_map (λ l. l.number) (option_map numbered line)) is ∙ ap (option_map (λ l. l.number)) (are.each at);
}
