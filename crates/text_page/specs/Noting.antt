-- What a page says of words, by the record that private functions are handed.
use Rattle.std.specs.BTreeMap.{get}
use Rattle.std.specs.BTreeSet.{contains}
use Rattle.std.specs.Ordering.{nat_cmp}
use Rattle.image.specs.Image.{word_of}
use Rattle.statement.specs.Stated.{target_of}
use Rattle.text_rows.specs.WordLines.{numbered_at}
use Rattle.text_page.specs.Noted.{Noted, label_of}
use Rattle.text_page.specs.declared.notes.Notes.{Notes}

abbrev pub noted_in : Notes → Noted
noted_in notes =
    record {
      word = word_of notes.image.now;
      label = λ at. label_of (numbered_at notes.lines.now at);
      bound = get nat_cmp notes.bounds;
      target = target_of notes.statement.now;
      has_row = contains nat_cmp notes.rows;
    }
