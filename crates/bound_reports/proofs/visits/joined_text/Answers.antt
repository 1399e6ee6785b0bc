use Rattle.std.proofs.Common.{◌∙◌, ◌++◌, List, ℕ, ap}
use Rattle.bound_reports.proofs.VisitsReportLemmas.{joins}
use Rattle.bound_reports.proofs.visits.joined_text.Goals as goal

pub returns-clause-text : goal.returns-clause-text
returns-clause-text c =
    let irq = c.args.irq.now in
    let fiq = c.args.fiq.now in
    let front = c.put_summary.new.out.items in
    let second = c.extend_from_slice.new.self.items in
    joins c.args.rate c.args.profile.now irq.bound fiq.bound irq.text.items fiq.text.items c.is_some.result front c.extend_from_slice-2.new.self.items
    c.in_ok-most.most c.in_ok-most.ensures.visits c.in_ok-most.ensures.total c.is_some.ensures
    c.new-text.result.items c.new-text.ensures.items c.in_ok-put_summary.ensures second
    (c.in_ok-extend_from_slice.ensures.items ∙ ap (λ (text : List ℕ). front ++ text) c.deref.ensures.value)
    (c.in_ok-extend_from_slice-2.ensures.items ∙ ap (λ (text : List ℕ). second ++ text) c.deref-2.ensures.value)
