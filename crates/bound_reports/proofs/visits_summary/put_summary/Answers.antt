use Rattle.std.proofs.Common.{ℕ, List, option_map, codes}
use Rattle.std.proofs.lemmas.Result.{on_ok_weaker}
use Rattle.bound_reports.specs.VisitsReport.{bounds_text, rate_text, total_text, visits_text}
use Rattle.bound_reports.proofs.SummaryLemmas.{five_more}
use Rattle.bound_reports.proofs.visits_summary.put_summary.Goals as goal

pub returns : goal.returns
returns c =
    let bound = c.args.bound in
    on_ok_weaker c.put_total.result
    (five_more c.args.out.now.items (codes "arcwcet visits\n") (rate_text c.args.profile.now c.args.rate) (visits_text (option_map (λ m. m.visits) c.args.most)) (bounds_text c.args.profile.now bound.irq bound.fiq) (total_text (option_map (λ m. m.total) c.args.most))
    c.put.new.out.items c.put_rate.new.out.items c.put_visits.new.out.items c.put_bounds.new.out.items c.put_total.new.out.items
    c.in_ok-put.ensures c.in_ok-put_rate.ensures c.in_ok-put_visits.ensures c.in_ok-put_bounds.ensures)
    c.put_total.ensures
