use Rattle.std.proofs.Common.{◌∙◌, ap}
use Rattle.std.proofs.lemmas.Result.{IfOk-weaker}
use Rattle.follow_reports.proofs.VisitedLemmas.{kept_answer}
use Rattle.follow_reports.proofs.follow_visits.run_answer.Goals as goal
use Rattle.follow_reports.specs.VisitedText.{kept_visits_text}
use Rattle.sources.specs.File.{file_of}

pub returns-in_ok-line-in-Kept : goal.returns-in_ok-line-in-Kept
returns-in_ok-line-in-Kept c =
    IfOk-weaker c.kept_run.result _ _
    (λ j h. kept_answer (file_of c.args.both.source) c.args.both.read.now.image c.args.profile.now c.args.both.irq.now c.args.both.fiq.now c.args.outcome.before
    c.args.outcome.after c.args.outcome.run _ _ _ c.as_str.result.now j.kept j.text.items c.in-Kept.is
    (c.as_str.ensures.value ∙ c.in_ok-line-in-Kept.ensures ∙ ap (λ n. kept_visits_text c.in-Kept.ticks c.in-Kept.visits n) c.visits_total-total.ensures) h)
    c.kept_run.ensures
