use Rattle.std.proofs.Common.{◌+◌, arith}
use Rattle.std.proofs.lemmas.List.{length-drop}
use Rattle.image.proofs.RunLemmas.{written_turn}
use Rattle.image.proofs.writing.push_segments.Goals as goal

pub loop-rest-preserved : goal.loop-rest-preserved
loop-rest-preserved c =
    let less = length-drop (1 + c.run_after-length.result) c.loop-rest.rest.now in
    record {
      same = written_turn _ _ _ c.loop-rest.rest.now c.split_at.result.0.now c.split_at.result.1.now c.run_after-length.result c.in-len1-up.len_at_least c.loop-rest.invariant.same c.run_after-length.ensures.count c.split_at.ensures.front c.split_at.ensures.back c.in_ok-push_segment.ensures;
      few = omega (arith, less);
    }
