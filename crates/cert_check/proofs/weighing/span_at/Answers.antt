use Rattle.std.proofs.Common.{get_or, None, refl}
use Rattle.cert_check.proofs.SpanLemmas.{header_found}
use Rattle.cert_check.proofs.weighing.span_at.Goals as goal

pub returns : goal.returns
returns c = header_found c.args.spans.now c.requires.differ c.args.headers.now c.args.number (get_or c.args.headers.now c.args.number None) c.requires.headers refl
