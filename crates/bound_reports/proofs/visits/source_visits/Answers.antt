use Rattle.std.proofs.Common.{◌∷◌, [], inl, inr, option_map}
use Rattle.handlers.specs.Refusal.{CarriesReadOf, refusal_fault}
use Rattle.handlers.specs.Report.{BeforeOutput}
use Rattle.handlers.specs.declared.refusal.Stop.TheVariants.{Alone}
use Rattle.handlers.proofs.HandlerLemmas.{refused_as}
use Rattle.handlers.proofs.RefusalLemmas.{then_of}
use Rattle.handlers.specs.FiqHandler.{fiq_bytes}
use Rattle.handlers.specs.VisitStops.{refusal_on}
use Rattle.handlers.specs.declared.apart.VisitStop.TheVariants.{OnRead}
use Rattle.handlers.specs.Priced.{given}
use Rattle.bound_reports.specs.VisitsReport.{AreRefused, parts_of}
use Rattle.bound_reports.proofs.VisitsReportLemmas.{joined_alone, joined_refusal, visits_reported}
use Rattle.bound_reports.proofs.visits.source_visits.Goals as goal
use Rattle.sources.specs.File.{file_of}

pub returns-in_err-irq-clause-fault : goal.returns-in_err-irq-clause-fault
returns-in_err-irq-clause-fault c = λ source is.
    let asked = c.args.asked in
    let h = c.in_err-irq.ensures.fault source is in
    refused_as c.from_residual.result (OnRead c.in_err-irq.field-0.0)
    (λ v. BeforeOutput (AreRefused source (option_map file_of asked.fiq_source) asked.irq.now asked.fiq.now asked.rate c.args.profile.now) (refusal_fault (refusal_on c.args.said.now v)))
    c.from_residual.ensures.1 (h.0, inl h.1)

pub returns-in_err-irq-clause-carries : goal.returns-in_err-irq-clause-carries
returns-in_err-irq-clause-carries c = λ source is.
    let asked = c.args.asked in
    refused_as c.from_residual.result (OnRead c.in_err-irq.field-0.0)
    (λ v. CarriesReadOf (parts_of source (option_map file_of asked.fiq_source) asked.irq.now asked.fiq.now) c.args.profile.now (refusal_on c.args.said.now v))
    c.from_residual.ensures.1 (inl (is, c.in_err-irq.ensures.carries))

pub returns-in_err-fiq-clause-fault : goal.returns-in_err-fiq-clause-fault
returns-in_err-fiq-clause-fault c = λ source is.
    let asked = c.args.asked in
    let h = c.in_err-fiq.ensures.fault source is in
    let report = c.in_ok-irq.ensures.report source is in
    refused_as c.from_residual-in_err-fiq.result c.in_err-fiq.field-0.0
    (λ v. BeforeOutput (AreRefused source (option_map file_of asked.fiq_source) asked.irq.now asked.fiq.now asked.rate c.args.profile.now) (refusal_fault (refusal_on c.args.said.now v)))
    c.from_residual-in_err-fiq.ensures.1 (h.0, inr (inl (report.1.report.bounded.accepted, h.1)))

pub returns-in_err-fiq-clause-carries : goal.returns-in_err-fiq-clause-carries
returns-in_err-fiq-clause-carries c = λ source is.
    let asked = c.args.asked in
    let v = c.in_err-fiq.field-0.0 in
    let report = c.in_ok-irq.ensures.report source is.said in
    refused_as c.from_residual-in_err-fiq.result v
    (λ v. CarriesReadOf (parts_of source (option_map file_of asked.fiq_source) asked.irq.now asked.fiq.now) c.args.profile.now (refusal_on c.args.said.now v))
    c.from_residual-in_err-fiq.ensures.1
    (then_of c.args.profile.now source asked.irq.now ((fiq_bytes source (option_map file_of asked.fiq_source), asked.fiq.now) ∷ []) report.1.report.bounded.accepted
    (refusal_on c.args.said.now v) (c.in_err-fiq.ensures.carries source is))

pub returns-in_err-joined_text-clause-fault : goal.returns-in_err-joined_text-clause-fault
returns-in_err-joined_text-clause-fault c = λ source is.
    let asked = c.args.asked in
    let first = c.in_ok-irq.irq in
    let second = c.in_ok-fiq.fiq in
    let e = c.in_err-joined_text.field-0.0 in
    refused_as c.from_residual-in_err-joined_text.result (OnRead (Alone e))
    (λ v. BeforeOutput (AreRefused source (option_map file_of asked.fiq_source) asked.irq.now asked.fiq.now asked.rate c.args.profile.now) (refusal_fault (refusal_on c.args.said.now v)))
    c.from_residual-in_err-joined_text.ensures.1
    (joined_refusal source (option_map file_of asked.fiq_source) asked.irq.now asked.fiq.now asked.rate c.args.profile.now first.bound second.bound first.text.items second.text.items
    (c.in_ok-irq.ensures.report source is) (c.in_ok-fiq.ensures.report source is) (c.in_ok-fiq.ensures.apart source is) e c.in_err-joined_text.ensures.fault)

pub returns-in_err-joined_text-clause-carries : goal.returns-in_err-joined_text-clause-carries
returns-in_err-joined_text-clause-carries c = λ source is.
    let asked = c.args.asked in
    let e = c.in_err-joined_text.field-0.0 in
    refused_as c.from_residual-in_err-joined_text.result (OnRead (Alone e))
    (λ v. CarriesReadOf (parts_of source (option_map file_of asked.fiq_source) asked.irq.now asked.fiq.now) c.args.profile.now (refusal_on c.args.said.now v))
    c.from_residual-in_err-joined_text.ensures.1
    (inl (is, joined_alone asked.rate c.args.profile.now c.in_ok-irq.irq.bound c.in_ok-fiq.fiq.bound e c.in_err-joined_text.ensures.fault))

pub returns-clause-report : goal.returns-clause-report
returns-clause-report c = λ source is.
    let asked = c.args.asked in
    let first = c.in_ok-irq.irq in
    let second = c.in_ok-fiq.fiq in
    let found = c.in_ok-joined_text.field-0 in
    visits_reported source (option_map file_of asked.fiq_source) asked.irq.now asked.fiq.now asked.rate c.args.profile.now first.bound second.bound first.text.items second.text.items
    (c.in_ok-irq.ensures.report source is) (c.in_ok-fiq.ensures.report source is) (c.in_ok-fiq.ensures.apart source is) found.ends found.text.items c.in_ok-joined_text.ensures.text
