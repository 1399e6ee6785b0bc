use Rattle.text_explained.specs.Costing.{figures_of}
use Rattle.text_explained.proofs.TableRowLaws.{word_more}
use Rattle.text_explained.proofs.table_rows.rows_of_words.Goals as goal

pub loop-at-preserved : goal.loop-at-preserved
loop-at-preserved c =
    word_more (figures_of c.args.costing.now) c.args.words.now c.loop-at.at-index _ c.loop-at.rows.items c.push.new.self.items c.row_of_word.result
    c.loop-at-test.true c.loop-at.invariant c.in_ok-push.ensures.items c.row_of_word.ensures
