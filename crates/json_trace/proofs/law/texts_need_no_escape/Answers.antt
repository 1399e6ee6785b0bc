use Rattle.json_trace.proofs.PlainLaws.{line_plain}
use Rattle.json_trace.proofs.law.texts_need_no_escape.Goals as goal

pub returns : goal.returns
returns c = line_plain
