-- Files that are announced: a line with a file's name is shown when it is read.
use Rattle.std.specs.Prelude.{◌≡◌, ◌||◌, ℕ, Bool, List, Option}
use Rattle.progress.specs.Shown.{TakesLine, reading_line}
use Rattle.command_line.specs.Line.{Asked}
use Rattle.arcwcet.specs.Files.{Reading, Writing}
use Rattle.arcwcet.specs.declared.announced.AnnouncedStore.{AnnouncedStore}

-- lines are shown: the words ask for them, or nobody has to
abbrev pub shows_lines : {S L : Type 0} → Asked → AnnouncedStore S L → Bool
shows_lines asked store = asked.progress || store.unasked

-- the line was shown, and the file read as the store in it does: two effects, in no order
abbrev pub reads_announced : {S L : Type 0} → (L → Option (List ℕ)) → (L → ℕ) → Reading S
    → Reading (AnnouncedStore S L)
reads_announced taken failures reads old name answer new =
    reads old.store name answer new.store × TakesLine taken failures old.lines new.lines (reading_line name)

-- a file is written without a line
abbrev pub writes_announced : {S L : Type 0} → Writing S → Writing (AnnouncedStore S L)
writes_announced writes old name bytes answer new =
    writes old.store name bytes answer new.store × (new.lines ≡ old.lines)
