use Rattle.std.proofs.Common.{length}
use Rattle.certificate.proofs.line_end.LineEnd.+put_inner.Given as goal

abbrev pub decreases-put_inner : goal.decreases-put_inner
decreases-put_inner l = length l.calls.now
