use Rattle.std.proofs.Common.{◌∙◌, refl}
use Rattle.image.specs.Labels.{address_of}
use Rattle.handlers.specs.Refusal.{stop_fault}
use Rattle.handlers.specs.Report.{BeforeOutput, IsRefused}
use Rattle.handlers.proofs.HandlerLemmas.{refused_as, same_words}
use Rattle.handlers.proofs.RefusalLemmas.{stop_carries, stop_err}
use Rattle.handlers.proofs.ReportLemmas.{report_refusal}
use Rattle.follow_reports.proofs.follow_visits.irq_bounded.Goals as goal

pub returns-in_err-handler-clause-fault : goal.returns-in_err-handler-clause-fault
returns-in_err-handler-clause-fault c = λ source is.
    let s = c.in_err-handler.field-0.0 in
    refused_as c.from_residual.result s (λ s. BeforeOutput (IsRefused source c.args.statement.now c.args.profile.now) (stop_fault s)) c.from_residual.ensures.1
    (report_refusal source c.args.statement.now c.args.profile.now (stop_fault s) (c.in_err-handler.ensures.fault source is))

pub returns-in_err-longest-clause-fault : goal.returns-in_err-longest-clause-fault
returns-in_err-longest-clause-fault c = λ source is.
    let e = c.in_err-longest.field-0.0 in
    stop_err c.from_residual-in_err-longest.result e (BeforeOutput (IsRefused source c.args.statement.now c.args.profile.now)) c.from_residual-in_err-longest.ensures.1
    (c.in_err-longest.ensures.fault source c.args.statement.now c.args.profile.now (c.in_ok-handler.ensures.is.loops source is))

pub returns-clause-is : goal.returns-clause-is
returns-clause-is c = λ source is. record {
  loops = c.in_ok-handler.ensures.is.loops source is;
  image =
      let said = c.args.said.now in
      let h = c.in_ok-handler.handler in
      c.in_ok-handler.ensures.is.image
      ∙ same_words source c.args.statement.now c.args.profile.now said.image (address_of said.labels) h.statement h.graph is (c.in_ok-handler.ensures.is.loops source is);
  tree = c.in_ok-handler.ensures.is.tree;
  longest = c.in_ok-longest.longest;
  longest_is = c.in_ok-longest.ensures.longest;
  allowed = c.in_ok-longest.ensures.allowed;
  bound_is = refl;
}

pub returns-in_err-longest-clause-carries : goal.returns-in_err-longest-clause-carries
returns-in_err-longest-clause-carries c =
    stop_carries c.args.said.now c.args.statement.now c.args.profile.now c.from_residual-in_err-longest.result c.in_err-longest.field-0.0 c.from_residual-in_err-longest.ensures.1 c.in_err-longest.ensures.alone
