-- What a draft is of a statement that is begun.
use Rattle.std.specs.Prelude.{◌≡◌, ℕ, List, Some}
use Rattle.std.specs.BTreeMap.{BTreeMap}
use Rattle.sources.specs.Lines.{AreLines}
use Rattle.sources.specs.declared.read.Source.{Source}
use Rattle.statement.specs.Stated.{Stated}
use Rattle.text_draft.specs.Draft.{HasFound, HasGrades}
use Rattle.text_draft.specs.DraftOnText.{draft_on_text}
use Rattle.text_draft.specs.Lacking.{lacking_of}
use Rattle.text_draft.specs.declared.drafts.DraftParts.{DraftParts}
use Rattle.text_draft.specs.declared.grounds.Claims.{Claims}
use Rattle.text_rows.specs.declared.line_labels.SourceLine.{SourceLine}

-- the begun text with such parts. Labels and comments in what is added are as in a draft
pub record IsDraftOnText (source : Source) (begun : List ℕ) (stated : Stated) (parts : DraftParts)
    (text : List ℕ) : Type 0 where
  pub lines : BTreeMap ℕ SourceLine
  pub are_lines : AreLines source lines
  pub text_is : text ≡ draft_on_text lines begun stated (lacking_of parts)

-- the begun text with what was found from the statement's entry on and is not stated, and with what of it is
-- claimed to be proved
pub record IsDraftOn (source : Source) (begun : List ℕ) (stated : Stated) (claims : Claims) (parts : DraftParts)
    (text : List ℕ) : Type 0 where
  pub found : HasFound source.image (Some stated) stated.entry parts
  pub graded : HasGrades source.image claims parts
  pub written : IsDraftOnText source begun stated parts text
