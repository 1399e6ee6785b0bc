use Rattle.std.proofs.Common.{rules}
use Rattle.explain_reports.proofs.ExplainLemmas.{full_with}
use Rattle.explain_reports.proofs.explain.with_each.Goals as goal

pub returns : goal.returns
returns c = λ source text flow bursts form is_read graph explains.
    full_with source text bursts form c.args.profile.now c.args.found.bound c.args.found.text.items c.in_ok-each.each.items _ c.args.read.now c.args.statement.now flow is_read graph explains c.in_ok-each.ensures (search rules)
