use Rattle.std.proofs.Common.{◌≡◌, ◌∙◌, ap, subst, sym}
use Rattle.std.proofs.lemmas.Result.{IfErr-weaker}
use Rattle.handlers.proofs.HandlerLemmas.{refused_as}
use Rattle.handlers.specs.Report.{BeforeOutput}
use Rattle.handlers.specs.declared.fault.ReportFault.{ReportFault}
use Rattle.handlers.specs.declared.fault.ReportFault.TheVariants.{Memory}
use Rattle.image.specs.Labels.{Names, address_of}
use Rattle.machine_reports.specs.RunTo.{HasEnd, IsRunToRefused, end_of}
use Rattle.machine_reports.proofs.MachineLemmas.{same_names}
use Rattle.machine_reports.proofs.RunToReportLemmas.{refused_to}
use Rattle.machine_reports.proofs.run_to.source_report.Goals as goal
use Rattle.sources.specs.File.{file_of}

pub returns-in_default-clause-fault : goal.returns-in_default-clause-fault
returns-in_default-clause-fault g c = λ says. (
  λ e. cc e,
  record {
    words = c.args.said.now.image;
    names = address_of c.args.said.now.labels;
    source_is = says;
    to_is = sym c.in_default.ensures;
  },
)

pub returns-in_err-placed-clause-fault : goal.returns-in_err-placed-clause-fault
returns-in_err-placed-clause-fault g c = λ says.
    let asked = c.args.asked in
    let end : HasEnd (file_of asked.source) asked.to.now =
    record {
      words = c.args.said.now.image;
      names = address_of c.args.said.now.labels;
      source_is = says;
      to = c.in-Some.to;
      to_is = sym c.in-Some.ensures;
    } in
    let e = c.in_err-placed.field-0.0 in
    refused_as c.from_residual.result e
    (BeforeOutput (IsRunToRefused (file_of asked.source) asked.machine.now asked.to.now c.args.profile))
    c.from_residual.ensures.1
    (refused_to (file_of asked.source) asked.machine.now asked.to.now c.args.profile end e
    (c.in_err-placed.ensures.fault (file_of asked.source) says))

pub returns-clause-shown : goal.returns-clause-shown
returns-clause-shown g c = λ says.
    let asked = c.args.asked in
    let said = c.args.said.now in
    let is = c.in_ok-placed.ensures.placed (file_of asked.source) says in
    let names : address_of said.labels ≡ is.stated.names =
    same_names (file_of asked.source) said.image is.words (address_of said.labels) is.stated.names says
    is.stated.source_is in
    c.placed_report.ensures.shown (file_of asked.source) asked.machine.now asked.to.now c.args.profile is
    (ap (λ (n : Names). end_of n asked.to.now) (sym names) ∙ sym c.in-Some.ensures)

pub returns-clause-fault : goal.returns-clause-fault
returns-clause-fault g c = λ says.
    let asked = c.args.asked in
    let refused =
    BeforeOutput (IsRunToRefused (file_of asked.source) asked.machine.now asked.to.now c.args.profile) in
    IfErr-weaker c.placed_report.result _ _
    (λ (e : ReportFault) (is : e ≡ Memory). subst refused (sym is) (λ e. cc e, tt))
    c.placed_report.ensures.memory
