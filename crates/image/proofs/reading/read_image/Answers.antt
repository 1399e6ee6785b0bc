use Rattle.std.proofs.Common.{◌∙◌, sym, rules, arith, inr}
use Rattle.image.proofs.AcceptLemmas.{accepted}
use Rattle.image.proofs.ReadLemmas.{read_end, read_fault, read_rest, read_trailing, read_whole}
use Rattle.image.proofs.reading.read_image.Goals as goal

pub returns-in_err-rest-clause-fault : goal.returns-in_err-rest-clause-fault
returns-in_err-rest-clause-fault c =
    let known = read_fault c.args.bytes.now c.loop-done.rest.now c.loop-done.image c.in_ok-count.count c.loop-done.done c.in_err-rest.field-0.0 c.loop-done.invariant.0 c.loop-done-test.true _ (omega arith) c.in_err-rest.ensures.fault in
    search rules

pub loop-done-preserved : goal.loop-done-preserved
loop-done-preserved c =
    let lt = c.loop-done-test.true in
    let few = c.in_ok-rest.ensures.few in
    let runs = c.loop-done.invariant.1 in
    (read_rest c.args.bytes.now c.loop-done.rest.now c.in_ok-rest.rest.now c.loop-done.image c.read_segment.new.image c.in_ok-count.count c.loop-done.done c.loop-done.invariant.0 lt _ (omega arith) c.in_ok-rest.ensures.rest, omega (arith, few, runs), omega (arith, lt))

pub returns-then-not-is_empty-clause-fault : goal.returns-then-not-is_empty-clause-fault
returns-then-not-is_empty-clause-fault c =
    inr (read_end c.args.bytes.now c.loop-done.rest.now c.loop-done.image c.in_ok-count.count c.loop-done.done c.loop-done.invariant.0 c.loop-done.invariant.2 (search rules) ∙ read_trailing c.loop-done.image c.loop-done.rest.now (sym c.if-not-is_empty.ensures))

pub returns-clause-image : goal.returns-clause-image
returns-clause-image c =
    read_end c.args.bytes.now c.loop-done.rest.now c.loop-done.image c.in_ok-count.count c.loop-done.done c.loop-done.invariant.0 c.loop-done.invariant.2 (search rules) ∙ read_whole c.loop-done.image c.loop-done.rest.now (sym c.is_empty.ensures ∙ c.if-not-is_empty.false)

pub returns-clause-spelled : goal.returns-clause-spelled
returns-clause-spelled c = accepted c.args.bytes.now c.loop-done.image (λ k. search (rules, c.type_inv.bytes k)) (returns-clause-image c)
