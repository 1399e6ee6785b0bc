-- What a draft of a statement is.
use Rattle.std.specs.Prelude.{◌≡◌, ℕ, Bool, false, List, length, nat_le, All, Option, None}
use Rattle.std.specs.BTreeMap.{BTreeMap}
use Rattle.std.specs.List.Sorted.{IsStrictlySortedBy}
use Rattle.std.specs.Ordering.{nat_cmp}
use Rattle.image.specs.Image.{Words}
use Rattle.sources.specs.Lines.{AreLines}
use Rattle.sources.specs.declared.read.Source.{Source}
use Rattle.text_rows.specs.declared.line_labels.SourceLine.{SourceLine}
use Rattle.statement.specs.Stated.{Stated}
use Rattle.text_draft.specs.Accesses.{AreAccesses, AreUnclassed}
use Rattle.text_draft.specs.Begun.{has_loop}
use Rattle.text_draft.specs.Candidates.{AreCandidates}
use Rattle.text_draft.specs.DraftText.{draft_text}
use Rattle.text_draft.specs.Ends.{AreEnds}
use Rattle.text_draft.specs.Grounds.{AreGraded}
use Rattle.text_draft.specs.Reach.{AreReached}
use Rattle.text_draft.specs.Rules.{AreRules}
use Rattle.text_draft.specs.Targets.{ArePending, AreTargets, leaves_open}
use Rattle.text_draft.specs.declared.accesses.FoundAccess.{FoundAccess}
use Rattle.text_draft.specs.declared.drafts.DraftParts.{DraftParts}
use Rattle.text_draft.specs.declared.ends.End.{End}
use Rattle.text_draft.specs.declared.found_loop.FoundLoop.{FoundLoop}
use Rattle.text_draft.specs.declared.grounds.Claims.{Claims}
use Rattle.text_draft.specs.declared.pc_writers.FoundTarget.{FoundTarget}
use Rattle.text_draft.specs.declared.rules.FoundRule.{FoundRule}
use Rattle.control_flow.specs.declared.search.TheConstants.{MOST_PLACES}

-- as many as are looked at: more may be reached
abbrev pub is_full : List ℕ → Bool
is_full addresses = nat_le MOST_PLACES (length addresses)

-- what was found at the addresses that are reached from the entry, or at 16,384 of them, and is not stated:
-- those at which the handler cannot go on, those whose words load or store and have no class, and those whose
-- words write R15 and have no target, but for words under NV; the addresses that are named there; and loops
-- with other headers. Classes rest on the words in front only where all is looked at and it is left open of
-- no word where it leads. There are rules for many of the loads and stores
pub record AreFound (words : Words) (begun : Option Stated) (entry : ℕ) (full open_left : Bool)
    (ends : List (ℕ × End)) (rules : List FoundRule) (accesses : List FoundAccess) (loops : List FoundLoop)
    (candidates : List ℕ) (targets : List FoundTarget) : Type 0 where
  pub addresses : List ℕ
  pub writers : List FoundTarget
  pub transfers : List FoundAccess
  pub ascend : IsStrictlySortedBy nat_cmp addresses
  pub reached : AreReached words begun entry addresses
  pub full_is : full ≡ is_full addresses
  pub open_is : open_left ≡ leaves_open full begun targets
  pub ends_are : AreEnds words addresses ends
  pub writers_are : AreTargets words addresses writers
  pub targets_are : ArePending begun writers targets
  pub transfers_are : AreAccesses words addresses open_left transfers
  pub accesses_are : AreUnclassed begun transfers accesses
  pub rules_are : AreRules words open_left accesses begun rules
  pub loops_are : All (λ l. has_loop begun l ≡ false) loops
  pub candidates_are : AreCandidates words addresses candidates

-- these are such
abbrev pub HasFound : Words → Option Stated → (entry : ℕ) → DraftParts → Type 0
HasFound words begun entry parts =
    AreFound words begun entry parts.full parts.open_left parts.ends.items parts.shown.rules.items
    parts.shown.accesses.items parts.loops.loops.items parts.candidates.items parts.targets.items

-- and of them these are written, by what is claimed to be proved
abbrev pub HasGrades : Words → Claims → DraftParts → Type 0
HasGrades words claims parts =
    AreGraded words claims parts.shown.accesses.items parts.shown.rules.items parts.loops.loops.items
    parts.accesses.items parts.rules.items parts.entries.items parts.counted.items

-- the text of such parts. Each label and each comment in it is that of the source's line that has the word at
-- the address: the comment has the line's number and text, and the label is the one that the line or a line
-- before gives the address, if one does. An image has no lines
pub record IsDraftText (source : Source) (entry : ℕ) (parts : DraftParts) (text : List ℕ) : Type 0 where
  pub lines : BTreeMap ℕ SourceLine
  pub are_lines : AreLines source lines
  pub text_is : text
      ≡ draft_text lines entry parts.full parts.ends.items parts.loops.cycles.items parts.loops.apart.items
      parts.rules.items parts.entries.items parts.counted.items parts.candidates.items parts.targets.items

-- the text of what was found, with what is claimed to be proved
pub record IsDraft (source : Source) (entry : ℕ) (claims : Claims) (parts : DraftParts)
    (text : List ℕ) : Type 0 where
  pub found : HasFound source.image None entry parts
  pub graded : HasGrades source.image claims parts
  pub written : IsDraftText source entry parts text
