use Rattle.std.proofs.Common.{refl}
use Rattle.handlers.specs.FiqHandler.{IsFiqRefused}
use Rattle.handlers.specs.Report.{BeforeOutput}
use Rattle.handlers.proofs.FiqLemmas.{enters_there, fiq_refusal}
use Rattle.handlers.proofs.RefusalLemmas.{stop_carries, stop_err}
use Rattle.handlers.proofs.ReportLemmas.{accepted, bounded}
use Rattle.response_reports.proofs.visits.fiq_bound.Goals as goal

pub returns-in_err-longest-clause-fault : goal.returns-in_err-longest-clause-fault
returns-in_err-longest-clause-fault c = λ source is.
    let h = c.in_ok-handler.handler in
    let e = c.in_err-longest.field-0.0 in
    let loops = c.in_ok-handler.ensures.is.loops source is in
    let g = loops.graph in
    stop_err c.from_residual-in_err-longest.result e (BeforeOutput (IsFiqRefused source c.args.statement.now c.args.profile.now)) c.from_residual-in_err-longest.ensures.1
    (fiq_refusal source c.args.statement.now c.args.profile.now e
    (enters_there source c.args.statement.now c.args.profile.now g.words g.names g.source_is h.statement g.statement_is c.in_ok-handler.ensures.entry)
    (c.in_err-longest.ensures.fault source c.args.statement.now c.args.profile.now loops))

pub returns-in_err-longest-clause-carries : goal.returns-in_err-longest-clause-carries
returns-in_err-longest-clause-carries c =
    stop_carries c.args.said.now c.args.statement.now c.args.profile.now c.from_residual-in_err-longest.result c.in_err-longest.field-0.0 c.from_residual-in_err-longest.ensures.1 c.in_err-longest.ensures.alone

pub returns-clause-bound : goal.returns-clause-bound
unfolding accepted bounded
returns-clause-bound c = λ source is.
    let h = c.in_ok-handler.handler in
    let has = c.in_ok-handler.ensures.is in
    let l = c.in_ok-longest.ensures in
    record {
      bounded = bounded source c.args.statement.now c.args.profile.now h.statement h.graph h.tree (has.loops source is) has.tree c.in_ok-longest.longest l.longest l.allowed;
      entry_is = c.in_ok-handler.ensures.entry;
      bound_is = refl;
    }
