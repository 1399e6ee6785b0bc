use Rattle.std.proofs.Common.{option_map}
use Rattle.handlers.specs.Refusal.{CarriesReadOf, refusal_fault}
use Rattle.handlers.specs.Report.{BeforeOutput}
use Rattle.handlers.proofs.ApartLemmas.{fault_of, placed_err, placed_ok}
use Rattle.handlers.specs.Priced.{given}
use Rattle.bound_reports.specs.VisitsReport.{AreRefused, parts_of}
use Rattle.bound_reports.proofs.visits.read_visits.Goals as goal
use Rattle.sources.specs.File.{file_of}

pub returns-clause-report : goal.returns-clause-report
returns-clause-report c =
    placed_ok c.in_ok-said.said c.source_visits-text.result c.refused_on.result c.refused_on.ensures _ (c.source_visits-text.ensures.report (file_of c.args.asked.source) c.in_ok-said.ensures.is.said)

pub returns-clause-carries : goal.returns-clause-carries
returns-clause-carries c =
    let asked = c.args.asked in
    placed_err c.in_ok-said.said c.source_visits-text.result c.refused_on.result c.refused_on.ensures
    (CarriesReadOf (parts_of (file_of asked.source) (option_map file_of asked.fiq_source) asked.irq.now asked.fiq.now) c.args.profile.now)
    (c.source_visits-text.ensures.carries (file_of asked.source) c.in_ok-said.ensures.is)

pub returns-clause-fault : goal.returns-clause-fault
returns-clause-fault c =
    let asked = c.args.asked in
    let refused = BeforeOutput (AreRefused (file_of asked.source) (option_map file_of asked.fiq_source) asked.irq.now asked.fiq.now asked.rate c.args.profile.now) in
    fault_of c.refused_on.result refused
    (placed_err c.in_ok-said.said c.source_visits-text.result c.refused_on.result c.refused_on.ensures (λ e. refused (refusal_fault e))
    (c.source_visits-text.ensures.fault (file_of asked.source) c.in_ok-said.ensures.is.said))
