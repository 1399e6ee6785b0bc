use Rattle.std.proofs.Common.{◌≡◌, map, take}
use Rattle.text_explained.specs.Costing.{figures_of}
use Rattle.text_explained.specs.Table.{row_of, word_row}
use Rattle.text_explained.proofs.table_rows.rows_of_words.Given as goal

abbrev pub invariant-loop-at : goal.invariant-loop-at
invariant-loop-at l = map row_of l.rows.items ≡ map (word_row (figures_of l.costing)) (take l.at-index l.words)
