use Rattle.std.proofs.Common.{map, rules}
use Rattle.imports.specs.Imported.{part_of, words_of}
use Rattle.imports.proofs.PutLemmas.{part_put, part_refused, put_holds, put_all}
use Rattle.imports.proofs.parts.import_parts.Goals as goal

pub returns-in_err-put_part-clause-fault : goal.returns-in_err-put_part-clause-fault
returns-in_err-put_part-clause-fault c =
    let known = part_refused part_of c.args.parts.now c.loop-part.part-index c.loop-part.image c.loop-part.invariant c.loop-part-test.true _ c.in_err-put_part.field-0.0 c.if-parts-gt-MOST_PARTS.false c.in_err-put_part.ensures.fault in
    search rules

pub loop-part-preserved : goal.loop-part-preserved
loop-part-preserved c =
    part_put part_of c.args.parts.now c.loop-part.part-index c.loop-part.image c.loop-part.invariant c.loop-part-test.true _ c.put_part.new.image c.in_ok-put_part.ensures.ok

pub returns-clause-words : goal.returns-clause-words
returns-clause-words c =
    put_holds c.loop-part.image (words_of (map part_of c.args.parts.now)) (put_all part_of c.args.parts.now c.loop-part.part-index c.loop-part.image c.loop-part.invariant c.loop-part-test.false)
