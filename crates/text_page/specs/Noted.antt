-- What a page says of a word besides the figures of its row.
use Rattle.std.specs.Prelude.{◌≡◌, ℕ, ◌==◌, Bool, if◌then◌else◌, List, [], map, nat_eq}
use Rattle.std.specs.Prelude.{Option, Some, None}
use Rattle.std.specs.Map.{update_all}
use Rattle.std.specs.List.{list_any}
use Rattle.arm2_effect.specs.ProgramCounter.{branch_target}
use Rattle.control_flow.specs.Kinds.{IsAction}
use Rattle.control_flow.specs.declared.actions.Action.{Action}
use Rattle.control_flow.specs.declared.actions.Kind.{Kind}
use Rattle.control_flow.specs.declared.actions.Kind.TheVariants.{Branch, Call}
use Rattle.image.specs.Image.{Words, word_of}
use Rattle.sources.specs.Lines.{line_of}
use Rattle.sources.specs.declared.read.Source.{Source}
use Rattle.statement.specs.Stated.{Stated, Target, target_of}
use Rattle.statement.specs.declared.stated.Loop.{Loop}
use Rattle.text_rows.specs.WordLines.{Numbered}
use Rattle.text_explained.specs.declared.table_rows.TableRow.{TableRow}

-- by addresses: the words, their labels, the bound of the loop whose header is there, the target that is
-- stated there, and whether the page has a row there
pub record Noted : Type 0 where
  pub word : ℕ → Option ℕ
  pub label : ℕ → List ℕ
  pub bound : ℕ → Option ℕ
  pub target : ℕ → Option Target
  pub has_row : ℕ → Bool

-- the bound of the last stated loop with a header at the address (no two loops share one)
abbrev pub bound_at : List Loop → ℕ → Option ℕ
bound_at loops = update_all nat_eq (λ at. None) (map (λ l. (l.header, l.bound)) loops)

abbrev pub has_row : List TableRow → ℕ → Bool
has_row rows at = list_any (λ r. at == r.at) rows

-- the label of a word by its line, if that has one
abbrev pub label_of : Option Numbered → List ℕ
label_of None = []
label_of (Some line) = line.label

-- by a source, an image, a statement and the rows of a page
abbrev pub noted : Source → Words → Stated → List TableRow → Noted
noted source image st rows =
    record {
      word = word_of image;
      label = λ at. label_of (line_of source at);
      bound = bound_at st.loops.list;
      target = target_of st;
      has_row = has_row rows;
    }

-- ## Links

-- an address that has a row
abbrev pub row_at : (ℕ → Bool) → ℕ → Option ℕ
row_at has_row at = if has_row at then Some at else None

-- to which row a word at an address leads: a branch, also with link, to the row of its target
abbrev pub branch_row : (ℕ → Bool) → (at : ℕ) → Kind → Option ℕ
branch_row has_row at (Branch offset) = row_at has_row (branch_target at offset)
branch_row has_row at (Call offset) = row_at has_row (branch_target at offset)
branch_row has_row at kind = None

abbrev pub IsLinkOf : (ℕ → Bool) → (at : ℕ) → (word : Option ℕ) → Option ℕ → Type 0
IsLinkOf has_row at None link = link ≡ None
IsLinkOf has_row at (Some word) link =
    (action : Action) × IsAction word action × (link ≡ branch_row has_row at action.kind)

abbrev pub IsLink : Noted → (at : ℕ) → Option ℕ → Type 0
IsLink notes at = IsLinkOf notes.has_row at (notes.word at)
