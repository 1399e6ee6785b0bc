-- Drafts of a source that was read. No part of what is proved of a report: they are here since clauses of
-- private functions cite them.
use Rattle.std.specs.Prelude.{ℕ, List}
use Rattle.sources.specs.declared.read.Source.{Source}
use Rattle.source_reports.specs.Proved.{IsProved}
use Rattle.statement.specs.Stated.{Stated}
use Rattle.text_draft.specs.Draft.{IsDraft}
use Rattle.text_draft.specs.DraftOn.{IsDraftOn}
use Rattle.text_draft.specs.declared.drafts.DraftParts.{DraftParts}
use Rattle.text_draft.specs.declared.grounds.Claims.{Claims}

-- a draft of the handler that begins there, of which what it writes as proved is
pub record IsProvedDraft (read : Source) (at : ℕ) (text : List ℕ) : Type 0 where
  pub claims : Claims
  pub parts : DraftParts
  pub is_draft : IsDraft read at claims parts text
  pub proved : IsProved read text parts

-- and one of a statement that is begun
pub record IsProvedDraftOn (read : Source) (begun : List ℕ) (stated : Stated) (text : List ℕ) : Type 0 where
  pub claims : Claims
  pub parts : DraftParts
  pub is_draft : IsDraftOn read begun stated claims parts text
  pub proved : IsProved read text parts
