-- Words apart that mend an entry elsewhere than at a loop's header.
use Rattle.std.specs.Prelude.{◌≡◌, ◌⊎◌, ◌++◌, ℕ, List, [], codes}
use Rattle.std.specs.BTreeMap.{BTreeMap}
use Rattle.std.specs.List.{flat_map}
use Rattle.control_flow.specs.Flow.{Flow}
use Rattle.loop_bounds.specs.Nest.{HasCrossing, HasMidEntry}
use Rattle.statement.specs.Stated.{StatedLoops}
use Rattle.statement.specs.declared.apart.ApartStretch.{ApartStretch}
use Rattle.text_rows.specs.Addresses.{name_text}
use Rattle.text_rows.specs.WordLines.{label_at}
use Rattle.text_rows.specs.declared.line_labels.SourceLine.{SourceLine}
use Rattle.text_refusals.specs.Texts.{IsEntryText}
use Rattle.text_refusals.specs.declared.mid_entries.MidEntry.{MidEntry}
use Rattle.text_refusals.specs.declared.word_lines.WordLines.{WordLines}

-- the same loops, with more words apart
pub record SetsApart (old new : StatedLoops) : Type 0 where
  pub same : new.list ≡ old.list
  pub more : (stretches : List ApartStretch) × (new.apart ≡ old.apart ++ stretches)

-- with these each loop is entered at its header alone, and no two cross
pub record Mends (flow : Flow) (old new : StatedLoops) : Type 0 where
  pub sets : SetsApart old new
  pub entered : HasMidEntry flow new → ⊥
  pub crossing : HasCrossing flow new → ⊥

-- ## The text

abbrev pub stretch_text : BTreeMap ℕ SourceLine → ApartStretch → List ℕ
stretch_text lines s =
    codes "    ["
    ++ (name_text (label_at lines s.first) s.first
    ++ (codes ", " ++ (name_text (label_at lines s.last) s.last ++ codes "],\n")))

-- words apart as a statement has them
abbrev pub mend_text : BTreeMap ℕ SourceLine → List ApartStretch → List ℕ
mend_text lines stretches =
    codes "In front of the statement's tables, so that loops are entered at their headers alone:\n"
    ++ (codes "  apart = [\n" ++ (flat_map (stretch_text lines) stretches ++ codes "  ]\n"))

-- all words apart of loops that mend it; or nothing, where none were found
abbrev pub IsMendText : WordLines → Flow → StatedLoops → List ℕ → Type 0
IsMendText words flow loops text =
    (text ≡ [])
    ⊎ ((new : StatedLoops) × Mends flow loops new × (text ≡ mend_text words.lines new.apart))

-- where a loop is entered, and words apart that mend it
pub record IsEntryReason (words : WordLines) (flow : Flow) (loops : StatedLoops) (entry : MidEntry)
    (text : List ℕ) : Type 0 where
  pub shown : List ℕ
  pub mend : List ℕ
  pub is_shown : IsEntryText words entry shown
  pub is_mend : IsMendText words flow loops mend
  pub text_is : text ≡ shown ++ mend
