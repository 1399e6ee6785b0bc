use Rattle.std.proofs.Common.{ap, length}
use Rattle.walk_counts.proofs.StayLemmas.{spans_end}
use Rattle.cert_check.proofs.explaining.failing_row.Goals as goal

pub of-requires-clause-ended : goal.of-requires-clause-ended
of-requires-clause-ended c = spans_end c.args.graph.now c.args.tree.now c.requires.tree c.spans.result.now (length c.places-exit.result.now) c.spans.ensures (ap length c.places-exit.ensures.value)
