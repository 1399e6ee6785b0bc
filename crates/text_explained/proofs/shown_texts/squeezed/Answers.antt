use Rattle.text_explained.specs.ShownTexts.{squeezed}
use Rattle.text_explained.proofs.ColumnLaws.{squeezed_end, squeezed_more}
use Rattle.text_explained.proofs.shown_texts.squeezed.Goals as goal

pub loop-byte-preserved : goal.loop-byte-preserved
loop-byte-preserved c =
    squeezed_more c.args.text.now c.loop-byte.byte-index _ c.loop-byte.after_blanks c.is_blank-after_blanks.result c.loop-byte.out.items c.put_byte.new.out.items (squeezed c.args.text.now)
    c.loop-byte-test.true c.loop-byte.invariant c.in_ok-put_byte.ensures c.is_blank-after_blanks.ensures

pub returns : goal.returns
returns c =
    squeezed_end c.args.text.now c.loop-byte.byte-index c.loop-byte.after_blanks c.loop-byte.out.items (squeezed c.args.text.now) c.loop-byte-test.false c.loop-byte.invariant
