use Rattle.std.proofs.Common.{◌+◌, ◌-◌, ◌++◌, arith}
use Rattle.text_rows.specs.Lines.{rows_from}
use Rattle.text_rows.proofs.LineLaws.{word_more, words_end}
use Rattle.text_rows.proofs.rows_of_lines.ByWordLineRows.put.Goals as goal

pub loop-preserved : goal.loop-preserved
loop-preserved g c =
    let placed = c.args.placed in
    let row = g.R.WordRows.word_row c.args.self.now.rows.now c.args.line.number c.args.line.text.now in
    record {
      room = omega (arith, c.loop-test.true, c.loop.invariant.room);
      same =
          word_more row c.loop.at (placed.words - c.loop.counter) (placed.words - (c.loop.counter + 1)) c.loop.out.items c.put.new.out.items
          (c.args.out.now.items ++ rows_from row placed.at placed.words) (omega (arith, c.loop-test.true)) c.loop.invariant.same c.in_ok-put.ensures;
    }

pub returns : goal.returns
returns g c =
    let placed = c.args.placed in
    let row = g.R.WordRows.word_row c.args.self.now.rows.now c.args.line.number c.args.line.text.now in
    words_end row c.loop.at (placed.words - c.loop.counter) c.loop.out.items (c.args.out.now.items ++ rows_from row placed.at placed.words)
    (omega (arith, c.loop-test.false)) c.loop.invariant.same
