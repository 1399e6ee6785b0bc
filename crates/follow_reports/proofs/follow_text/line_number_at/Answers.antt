use Rattle.std.proofs.Common.{rules}
use Rattle.follow_reports.proofs.LineLemmas.{numbered_by}
use Rattle.follow_reports.proofs.follow_text.line_number_at.Goals as goal

pub returns : goal.returns
returns c = λ source is_read.
    numbered_by source c.args.read.now is_read c.in_ok-lines.lines c.in_ok-lines.ensures c.args.address c.get.result (search rules) c.map.result (search rules)
