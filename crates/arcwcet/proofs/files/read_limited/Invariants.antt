use Rattle.std.proofs.Common.{◌≡◌, ◌≤◌, ◌-◌, vec_len}
use Rattle.std.specs.Io.KnownBytes.{Consumes}
use Rattle.arcwcet.proofs.files.read_limited.Given as goal

abbrev pub invariant-loop-chunk : goal.invariant-loop-chunk
invariant-loop-chunk g l = record {
  within : vec_len l.bytes ≤ 16777217;
  so_far : Consumes (g.I.Input.remaining l.fn.input) (g.I.Input.remaining l.input) l.bytes.items;
  quiet : g.I.Input.failures l.input ≡ g.I.Input.failures l.fn.input;
}

abbrev pub decreases-loop-chunk : goal.decreases-loop-chunk
decreases-loop-chunk g l = 16777217 - vec_len l.bytes
