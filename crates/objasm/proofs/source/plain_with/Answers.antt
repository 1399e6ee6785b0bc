use Rattle.std.proofs.Common.{arith, false, []}
use Rattle.asm_text.specs.Source.{lines_of}
use Rattle.objasm.specs.Conditions.{open_in}
use Rattle.objasm.specs.Literals.{no_pool, pool_of}
use Rattle.objasm.specs.Names.{meanings_of}
use Rattle.objasm.specs.Source.{plain_lines, plain_of, state_in}
use Rattle.objasm.proofs.SourceLaws.{after_start, given_fault, given_ok, lines_end, lines_go, lines_stop}
use Rattle.objasm.proofs.source.plain_with.Goals as goal

pub loop-line-init : goal.loop-line-init
loop-line-init c =
    let names = meanings_of c.args.names.now in
    record {
      count = omega arith;
      same = rw (c.no_conditions-conditions.ensures, c.no_pool.ensures) (after_start (plain_of record { text = c.in_ok-with_capacity.field-0; origins = c.new.result }) (plain_lines false names (state_in [] no_pool) 1 (lines_of c.args.source.now)) c.in_ok-with_capacity.ensures.items c.new.ensures.items);
    }

pub returns-in-Err-clause-fault : goal.returns-in-Err-clause-fault
returns-in-Err-clause-fault c =
    rw c.fault_at.ensures (lines_stop c.loop-line.ended c.is_below-ended.result (meanings_of c.args.names.now) (state_in (open_in c.loop-line.conditions) (pool_of c.loop-line.out.pool)) c.loop-line.number (plain_of c.loop-line.out.plain) c.loop-line.rest.now c.in-Some.line.now c.in-Some.after.now c.in-Err.fault _ c.in-Some.ensures.0 c.is_below-ended.ensures c.in-Err.ensures.fault c.loop-line.invariant.same)

pub loop-line-preserved : goal.loop-line-preserved
loop-line-preserved c =
    record {
      count = omega (arith, c.in-Some.ensures.1, c.loop-line.invariant.count);
      same = lines_go c.loop-line.ended c.is_below-ended.result (meanings_of c.args.names.now) (state_in (open_in c.loop-line.conditions) (pool_of c.loop-line.out.pool)) (state_in (open_in c.put_line.new.conditions) (pool_of c.put_line.new.out.pool)) c.loop-line.number (plain_of c.loop-line.out.plain) (plain_of c.put_line.new.out.plain) c.loop-line.rest.now c.in-Some.line.now c.in-Some.after.now _ c.in-Some.ensures.0 c.is_below-ended.ensures c.in_default-put_line.ensures.ok c.loop-line.invariant.same;
    }

pub returns-clause-ok : goal.returns-clause-ok
returns-clause-ok c = given_ok c.given.result (plain_of c.loop-line.out.plain) _ _ c.given.ensures.ok (lines_end c.loop-line.ended (meanings_of c.args.names.now) (state_in (open_in c.loop-line.conditions) (pool_of c.loop-line.out.pool)) c.loop-line.number (plain_of c.loop-line.out.plain) c.loop-line.rest.now _ c.in_default.ensures c.loop-line.invariant.same)

pub returns-clause-fault : goal.returns-clause-fault
returns-clause-fault c = given_fault c.given.result (plain_of c.loop-line.out.plain) _ _ c.given.ensures.fault (lines_end c.loop-line.ended (meanings_of c.args.names.now) (state_in (open_in c.loop-line.conditions) (pool_of c.loop-line.out.pool)) c.loop-line.number (plain_of c.loop-line.out.plain) c.loop-line.rest.now _ c.in_default.ensures c.loop-line.invariant.same)
