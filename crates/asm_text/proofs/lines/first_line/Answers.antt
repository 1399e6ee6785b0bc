use Rattle.std.proofs.Common.{◌<◌, ◌+◌, length, length-drop, arith}
use Rattle.std.proofs.lemmas.Bool.Decides.{nat_tests}
use Rattle.asm_text.proofs.SourceLaws.{line_empty, line_last, line_more}
use Rattle.asm_text.proofs.lines.first_line.Goals as goal

pub returns-then-is_empty : goal.returns-then-is_empty
returns-then-is_empty c = line_empty c.args.source.now (grind (arith, nat_tests))

pub returns-then-len-source : goal.returns-then-len-source
returns-then-len-source c =
    let source = c.args.source.now in
    let n = c.feed_len-len.result in
    let some : 0 < length source = grind (arith, nat_tests) in (
      rw c.after.ensures (line_last source n c.feed_len-len.ensures.len c.if-len-source.true some),
      rw c.after.ensures (omega (arith, length-drop n source, c.if-len-source.true, some)),
    )

pub returns : goal.returns
returns c =
    let source = c.args.source.now in
    let n = c.feed_len-len.result in
    let less : n < length source = omega (arith, c.feed_len-len.ensures.within, c.if-len-source.false) in (
      rw (c.without_return.ensures, c.after-2.ensures) (line_more source n c.feed_len-len.ensures.len less),
      rw c.after-2.ensures (omega (arith, length-drop (n + 1) source, less)),
    )
