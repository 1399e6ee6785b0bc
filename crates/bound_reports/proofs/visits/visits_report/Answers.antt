use Rattle.std.proofs.Common.{inl, sym, subst, option_map}
use Rattle.handlers.proofs.PricedLemmas.{by_profile}
use Rattle.handlers.proofs.RefusalLemmas.{device_by, ends_refused, ends_told, refused_by}
use Rattle.handlers.specs.Refusal.{CarriesReadOf, fault_only}
use Rattle.handlers.specs.Priced.{given}
use Rattle.bound_reports.specs.VisitsReport.{IsVisitsReport, parts_of}
use Rattle.bound_reports.proofs.VisitsReportLemmas.{only_memory_or_device, report_accepted}
use Rattle.bound_reports.proofs.visits.visits_report.Goals as goal
use Rattle.sources.specs.File.{file_of}

pub returns-in_err-found-clause-answers : goal.returns-in_err-found-clause-answers
returns-in_err-found-clause-answers g c =
    let asked = c.args.asked in
    let profile = c.in_ok-profile.profile in
    let q = c.from_residual-in_err-found.result in
    by_profile profile c.in_ok-profile.ensures.is
    (ends_refused _ _ _ _ _ c.args.out.now q c.in_err-found.field-0.0 c.from_residual-in_err-found.ensures.1 c.in_err-found.ensures.fault
    (only_memory_or_device (file_of asked.source) (option_map file_of asked.fiq_source) asked.irq.now asked.fiq.now asked.rate profile (fault_only q)))

pub returns-in_err-found-clause-carries : goal.returns-in_err-found-clause-carries
returns-in_err-found-clause-carries g c =
    let asked = c.args.asked in
    refused_by (given c.args.profile) (CarriesReadOf (parts_of (file_of asked.source) (option_map file_of asked.fiq_source) asked.irq.now asked.fiq.now)) c.from_residual-in_err-found.result c.in_ok-profile.profile c.in_ok-profile.ensures.is
    c.in_err-found.field-0.0 c.from_residual-in_err-found.ensures.1 c.in_err-found.ensures.carries

pub returns-clause-answers : goal.returns-clause-answers
returns-clause-answers g c =
    let asked = c.args.asked in
    let profile = c.in_ok-profile.profile in
    let found = c.in_ok-found.found in
    let report = subst (IsVisitsReport (file_of asked.source) (option_map file_of asked.fiq_source) asked.irq.now asked.fiq.now asked.rate profile found.ends) (sym c.deref.ensures.value) c.in_ok-found.ensures.report in
    by_profile profile c.in_ok-profile.ensures.is
    (ends_told _ _ _ _ _ c.args.out.now c.print_or_refuse.new.out found.ends c.deref.result.now c.print_or_refuse.result
    report (report_accepted (file_of asked.source) (option_map file_of asked.fiq_source) asked.irq.now asked.fiq.now asked.rate profile found.ends c.deref.result.now report) (inl tt) c.print_or_refuse.ensures.printed c.print_or_refuse.ensures.device)

pub returns-clause-carries : goal.returns-clause-carries
returns-clause-carries g c =
    let asked = c.args.asked in
    device_by (given c.args.profile) (CarriesReadOf (parts_of (file_of asked.source) (option_map file_of asked.fiq_source) asked.irq.now asked.fiq.now)) c.print_or_refuse.result c.in_ok-profile.profile c.in_ok-profile.ensures.is _ tt c.print_or_refuse.ensures.device
