use Rattle.std.proofs.Common.{◌≡◌, refl}
use Rattle.explain_reports.specs.Check.{IsCheckRefused}
use Rattle.handlers.specs.Faults.{of_cert}
use Rattle.handlers.specs.declared.fault.ReportFault.TheVariants.{Memory}
use Rattle.explain_reports.proofs.CheckLemmas.{cert_refusal, readable_refusal}
use Rattle.handlers.specs.Report.{BeforeOutput}
use Rattle.handlers.proofs.HandlerLemmas.{refused_as}
use Rattle.explain_reports.proofs.finding.found_on.Goals as goal

pub returns-in_err-read-clause-fault : goal.returns-in_err-read-clause-fault
returns-in_err-read-clause-fault g c = λ source statement profile loops.
    let h = c.args.handler.now in
    let f = c.in_err-read.field-0.0 in
    refused_as c.from_residual.result (of_cert f) (BeforeOutput (IsCheckRefused source statement c.args.cert.now profile)) c.from_residual.ensures.1
    (cert_refusal source statement c.args.cert.now profile h.statement h.graph f loops
    c.in_err-read.ensures.bad_line c.in_err-read.ensures.truncated c.in_err-read.ensures.trailing)

pub returns-in_err-read-clause-only : goal.returns-in_err-read-clause-only
returns-in_err-read-clause-only g c = λ source statement profile able.
    let f = c.in_err-read.field-0.0 in
    refused_as c.from_residual.result (of_cert f) (λ e. e ≡ Memory) c.from_residual.ensures.1
    (readable_refusal source statement c.args.cert.now profile f c.in_err-read.ensures.only able)

pub returns-in_err-found-clause-only : goal.returns-in_err-found-clause-only
returns-in_err-found-clause-only g c = λ source statement profile able.
    refused_as c.from_residual-in_err-found.result Memory (λ e. e ≡ Memory) c.from_residual-in_err-found.ensures.1 refl

pub returns-clause-found : goal.returns-clause-found
returns-clause-found g c = λ source statement profile loops.
    let h = c.args.handler.now in
    let found = c.in_ok-read.ensures.found in
    record {
      stated = h.statement;
      flow = h.graph;
      tree = h.tree;
      cert = c.in_ok-read.read;
      loops = loops;
      formed = c.graphs_are_well_formed.ensures;
      tree_of = c.requires;
      can_spell = found.0;
      spelled = found.1;
      says = c.in_ok-found.ensures;
    }
