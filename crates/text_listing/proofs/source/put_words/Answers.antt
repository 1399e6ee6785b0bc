use Rattle.std.proofs.Common.{◌∙◌, ◌+◌, ◌-◌, ◌++◌, append_assoc, ap, arith, codes}
use Rattle.image.specs.Image.{word_of}
use Rattle.text_rows.proofs.LineLaws.{word_more}
use Rattle.text_listing.specs.Listing.{word_columns, word_rows}
use Rattle.text_listing.proofs.source.put_words.Goals as goal

pub loop-preserved : goal.loop-preserved
loop-preserved c =
    let image = c.args.image.now in
    let at = c.loop.at in
    let columns = word_columns at (word_of image at) in
    record {
      room = omega (arith, c.loop-test.true, c.loop.invariant.room);
      same =
          word_more (λ a. word_columns a (word_of image a) ++ codes "\n") at (c.args.count - c.loop.counter) (c.args.count - (c.loop.counter + 1))
          c.loop.out.items c.put.new.out.items (c.args.out.now.items ++ word_rows image c.args.from c.args.count) (omega (arith, c.loop-test.true))
          c.loop.invariant.same
          (c.in_ok-put.ensures
          ∙ ap (λ xs. xs ++ codes "\n") (c.in_ok-put_word_columns.ensures ∙ ap (λ w. c.loop.out.items ++ word_columns at w) c.word_at.ensures.value)
          ∙ append_assoc c.loop.out.items columns (codes "\n"));
    }
