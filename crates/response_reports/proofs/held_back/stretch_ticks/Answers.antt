use Rattle.std.proofs.Common.{refl}
use Rattle.handlers.specs.Report.{BeforeOutput, IsRefused}
use Rattle.handlers.proofs.RefusalLemmas.{stop_carries, stop_err}
use Rattle.handlers.proofs.ReportLemmas.{accepted, bounded}
use Rattle.response_reports.proofs.held_back.stretch_ticks.Goals as goal

pub returns-in_err-longest-clause-fault : goal.returns-in_err-longest-clause-fault
returns-in_err-longest-clause-fault c = λ source is.
    stop_err c.from_residual-in_err-longest.result c.in_err-longest.field-0.0 (BeforeOutput (IsRefused source c.args.statement.now c.args.profile.now)) c.from_residual-in_err-longest.ensures.1
    (c.in_err-longest.ensures.fault source c.args.statement.now c.args.profile.now (c.in_ok-handler.ensures.is.loops source is))

pub returns-in_err-longest-clause-carries : goal.returns-in_err-longest-clause-carries
returns-in_err-longest-clause-carries c =
    stop_carries c.args.said.now c.args.statement.now c.args.profile.now c.from_residual-in_err-longest.result c.in_err-longest.field-0.0 c.from_residual-in_err-longest.ensures.1 c.in_err-longest.ensures.alone

pub returns-clause-bound : goal.returns-clause-bound
unfolding accepted bounded
returns-clause-bound c = λ source is.
    let h = c.in_ok-handler.handler in
    let has = c.in_ok-handler.ensures.is in
    let l = c.in_ok-longest.ensures in
    record {
      bounded = bounded source c.args.statement.now c.args.profile.now h.statement h.graph h.tree (has.loops source is) has.tree c.in_ok-longest.longest l.longest l.allowed;
      bound_is = refl;
    }
