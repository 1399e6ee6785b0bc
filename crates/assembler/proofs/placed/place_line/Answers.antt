use Rattle.std.proofs.Common.{arith}
use Rattle.asm_text.specs.Statements.{line_of}
use Rattle.assembler.proofs.PlaceLemmas.{words_within}
use Rattle.assembler.proofs.placed.place_line.Goals as goal

pub overflow_sub-result : goal.overflow_sub-result
overflow_sub-result c =
    let w = words_within c.args.sweep.now c.args.number (line_of c.args.text.now) c.read.new.self c.in_ok-read.ensures.ok c.requires c.in_ok-read.ensures.within in
    omega (arith, w.more, c.len-before.ensures, c.len.ensures)

pub invariant_of-result : goal.invariant_of-result
invariant_of-result c =
    let w = words_within c.args.sweep.now c.args.number (line_of c.args.text.now) c.read.new.self c.in_ok-read.ensures.ok c.requires c.in_ok-read.ensures.within in
    record { within = omega (arith, w.within, c.len-before.ensures, c.len.ensures) }

pub returns-clause-words : goal.returns-clause-words
returns-clause-words c =
    let w = words_within c.args.sweep.now c.args.number (line_of c.args.text.now) c.read.new.self c.in_ok-read.ensures.ok c.requires c.in_ok-read.ensures.within in
    omega (arith, w.more, c.len-before.ensures, c.len.ensures)
