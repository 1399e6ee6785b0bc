use Rattle.std.proofs.lemmas.Result.{IfOk-weaker}
use Rattle.longest_walk.specs.Folded.{unfolded}
use Rattle.follow_reports.proofs.DifferenceLemmas.{listed_capped}
use Rattle.follow_reports.proofs.differences.differences.Goals as goal

pub returns : goal.returns
returns c = λ passes tally.
    let h = c.args.handler.now in
    IfOk-weaker c.listed_by.result _ _
    (λ list listed. listed_capped h.image.now h.statement h.graph (unfolded c.args.walk.now) c.args.by_place.now
    c.in_ok-run_tally.run_tally c.in_ok-walk_tally.walk_tally list.items c.in_ok-run_tally.ensures c.in_ok-walk_tally.ensures listed passes tally)
    c.listed_by.ensures
