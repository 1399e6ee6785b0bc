-- What a page says of words, by its tables.
use Rattle.std.proofs.Common.{◌≡◌, ℕ, List}
use Rattle.std.specs.BTreeMap.{BTreeMap, get}
use Rattle.std.specs.BTreeSet.{BTreeSet, contains}
use Rattle.std.specs.Ordering.{nat_cmp}
use Rattle.image.specs.Image.{Words, word_of}
use Rattle.sources.specs.Lines.{line_of}
use Rattle.sources.specs.declared.read.Source.{Source}
use Rattle.statement.specs.Stated.{Stated, target_of}
use Rattle.text_rows.specs.WordLines.{numbered_at}
use Rattle.text_rows.specs.declared.line_labels.SourceLine.{SourceLine}
use Rattle.text_explained.specs.declared.table_rows.TableRow.{TableRow}
use Rattle.text_page.specs.Noted.{Noted, bound_at, has_row, label_of, noted}

abbrev pub by_tables : Words → Stated → BTreeMap ℕ SourceLine → BTreeMap ℕ ℕ → BTreeSet ℕ → Noted
by_tables image st lines bounds found = record {
  word = word_of image;
  label = λ at. label_of (numbered_at lines at);
  bound = get nat_cmp bounds;
  target = target_of st;
  has_row = contains nat_cmp found;
}

pub noted_same : (image : Words) (st : Stated) (source : Source) (rows : List TableRow) (lines : BTreeMap ℕ SourceLine) (bounds : BTreeMap ℕ ℕ) (found : BTreeSet ℕ)
    → ((at : ℕ) → numbered_at lines at ≡ line_of source at) → ((at : ℕ) → get nat_cmp bounds at ≡ bound_at st.loops.list at) → ((at : ℕ) → contains nat_cmp found at ≡ has_row rows at)
    → by_tables image st lines bounds found ≡ noted source image st rows
noted_same image st source rows lines bounds found lines_are bounds_are found_are = λ i. record {
  word = word_of image;
  label = λ at. label_of (lines_are at i);
  bound = λ at. bounds_are at i;
  target = target_of st;
  has_row = λ at. found_are at i;
}
