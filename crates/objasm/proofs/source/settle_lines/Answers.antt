use Rattle.std.proofs.Common.{arith, refl, sym, ◌∙◌}
use Rattle.objasm.specs.Conditions.{open_in}
use Rattle.objasm.specs.Names.{meanings_of}
use Rattle.objasm.specs.Source.{flow_in}
use Rattle.objasm.proofs.SourceLaws.{ended_fault, ended_ok, settings_at_end, settings_end, settings_go, settings_stop}
use Rattle.objasm.proofs.source.settle_lines.Goals as goal

pub loop-line-init : goal.loop-line-init
loop-line-init c =
    record {
      count = omega arith;
      same = rw c.no_conditions-conditions.ensures refl;
    }

pub returns-then-ends-clause-ok : goal.returns-then-ends-clause-ok
returns-then-ends-clause-ok c =
    let m = meanings_of c.loop-line.names in
    let cs = open_in c.loop-line.conditions in
    ended_ok c.all_closed.result cs m _ c.all_closed.ensures.ok (settings_at_end c.args.pass (flow_in m cs) c.loop-line.number c.loop-line.rest.now c.in-Some.line.now c.in-Some.after.now _ c.in-Some.ensures.0 (sym c.ends.ensures ∙ c.if-ends.true) c.loop-line.invariant.same)

pub returns-then-ends-clause-fault : goal.returns-then-ends-clause-fault
returns-then-ends-clause-fault c =
    let m = meanings_of c.loop-line.names in
    let cs = open_in c.loop-line.conditions in
    ended_fault c.all_closed.result cs m _ c.all_closed.ensures.fault (settings_at_end c.args.pass (flow_in m cs) c.loop-line.number c.loop-line.rest.now c.in-Some.line.now c.in-Some.after.now _ c.in-Some.ensures.0 (sym c.ends.ensures ∙ c.if-ends.true) c.loop-line.invariant.same)

pub returns-in-Err-clause-fault : goal.returns-in-Err-clause-fault
returns-in-Err-clause-fault c =
    rw c.fault_at.ensures (settings_stop c.args.pass (flow_in (meanings_of c.loop-line.names) (open_in c.loop-line.conditions)) c.loop-line.number c.loop-line.rest.now c.in-Some.line.now c.in-Some.after.now c.in-Err.fault _ c.in-Some.ensures.0 (sym c.ends.ensures ∙ c.if-ends.false) c.in-Err.ensures.fault c.loop-line.invariant.same)

pub loop-line-preserved : goal.loop-line-preserved
loop-line-preserved c =
    record {
      count = omega (arith, c.in-Some.ensures.1, c.loop-line.invariant.count);
      same = settings_go c.args.pass (flow_in (meanings_of c.loop-line.names) (open_in c.loop-line.conditions)) (flow_in (meanings_of c.settle_line.new.names) (open_in c.settle_line.new.conditions)) c.loop-line.number c.loop-line.rest.now c.in-Some.line.now c.in-Some.after.now _ c.in-Some.ensures.0 (sym c.ends.ensures ∙ c.if-ends.false) c.in_default-settle_line.ensures.ok c.loop-line.invariant.same;
    }

pub returns-clause-ok : goal.returns-clause-ok
returns-clause-ok c =
    let m = meanings_of c.loop-line.names in
    let cs = open_in c.loop-line.conditions in
    ended_ok c.all_closed-2.result cs m _ c.all_closed-2.ensures.ok (settings_end c.args.pass (flow_in m cs) c.loop-line.number c.loop-line.rest.now _ c.in_default.ensures c.loop-line.invariant.same)

pub returns-clause-fault : goal.returns-clause-fault
returns-clause-fault c =
    let m = meanings_of c.loop-line.names in
    let cs = open_in c.loop-line.conditions in
    ended_fault c.all_closed-2.result cs m _ c.all_closed-2.ensures.fault (settings_end c.args.pass (flow_in m cs) c.loop-line.number c.loop-line.rest.now _ c.in_default.ensures c.loop-line.invariant.same)
