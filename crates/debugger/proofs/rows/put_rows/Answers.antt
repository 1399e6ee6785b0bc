use Rattle.std.proofs.Common.{◌+◌, drop, arith}
use Rattle.std.proofs.lemmas.List.{drop_more}
use Rattle.std.proofs.Math.ListN.{drop_of_length-le}
use Rattle.debugger.proofs.RowLaws.{rows_end, rows_more}
use Rattle.debugger.proofs.rows.put_rows.Goals as goal

pub loop-word-preserved : goal.loop-word-preserved
loop-word-preserved c =
    let words = c.args.words.now in
    let index = c.loop-word.word-index in
    let left = drop index words in
    let more =
    rows_more c.args.row c.args.address words c.loop-word.at _ left
    (drop (index + 1) words) c.args.out.now.items c.loop-word.out.items c.put_row.new.out.items
    (drop_more words index 0 c.loop-word-test.true) c.loop-word.invariant.0 c.put_row.ensures.row in (
      more,
      omega (arith, c.loop-word.invariant.1),
      omega (
        arith,
        c.loop-word.invariant.2,
        c.put_row.ensures.len,
        c.put_row.ensures.room,
        c.loop-word-test.true,
      ),
    )

pub returns : goal.returns
returns c =
    let words = c.args.words.now in
    let left = drop c.loop-word.word-index words in
    rows_end c.args.row c.args.address words c.loop-word.at left c.args.out.now.items c.loop-word.out.items
    c.loop-word.invariant.0 (drop_of_length-le words c.loop-word-test.false)
