use Rattle.text_trace.proofs.LatelyLaws.{none_right}
use Rattle.text_trace.proofs.shown.ShownLately.new.Goals as goal

pub returns : goal.returns
returns c = none_right 64
