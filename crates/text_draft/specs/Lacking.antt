-- What was found, as the texts of drafts take it. No part of what a draft is: it is here since clauses of
-- private functions cite it.
use Rattle.std.specs.Prelude.{◌≡◌, List}
use Rattle.std.specs.BTreeMap.{BTreeMap}
use Rattle.std.specs.List.{flat_map}
use Rattle.statement.specs.Stated.{Stated}
use Rattle.std.specs.Prelude.{ℕ}
use Rattle.text_rows.specs.declared.line_labels.SourceLine.{SourceLine}
use Rattle.text_draft.specs.DraftOnText.{Lacking, apart_rows, entry_rows, loops_text, named_text, rule_rows}
use Rattle.text_draft.specs.DraftText.{target_text}
use Rattle.text_draft.specs.declared.additions.TableTexts.{TableTexts}
use Rattle.text_draft.specs.declared.drafts.DraftParts.{DraftParts}
use Rattle.text_draft.specs.declared.forms.RowTexts.{RowTexts}

abbrev pub lacking_of : DraftParts → Lacking
lacking_of found =
    record {
      full = found.full;
      ends = found.ends.items;
      cycles = found.loops.cycles.items;
      apart = found.loops.apart.items;
      rules = found.rules.items;
      entries = found.entries.items;
      loops = found.counted.items;
      candidates = found.candidates.items;
      targets = found.targets.items;
    }

-- these are the rows of what was found
pub record AreRows (lines : BTreeMap ℕ SourceLine) (l : Lacking) (rows : RowTexts) : Type 0 where
  pub apart : rows.apart.items ≡ apart_rows lines l.apart
  pub rules : rows.rules.items ≡ rule_rows lines l.rules
  pub entries : rows.entries.items ≡ entry_rows lines l.entries

-- and these its tables, and the candidates between them
pub record AreTables (lines : BTreeMap ℕ SourceLine) (st : Stated) (l : Lacking) (tables : TableTexts)
    : Type 0 where
  pub loops : tables.loops.items ≡ loops_text lines l
  pub candidates : tables.candidates.items ≡ named_text lines st l
  pub targets : tables.targets.items ≡ flat_map (target_text lines) l.targets
