use Rattle.std.proofs.Common.{◌≡◌, ◌≤◌, ◌++◌, flat_map, length}
use Rattle.image.specs.ImageBytes.{segment_bytes, segments_of}
use Rattle.image.proofs.writing.push_segments.Given as goal

abbrev pub invariant-loop-rest : goal.invariant-loop-rest
invariant-loop-rest l = record {
  same : l.bytes.items ++ flat_map segment_bytes (segments_of l.rest) ≡ l.initial.bytes.items ++ flat_map segment_bytes (segments_of l.words);
  few : length l.rest ≤ 65536;
}

abbrev pub decreases-loop-rest : goal.decreases-loop-rest
decreases-loop-rest l = length l.rest
