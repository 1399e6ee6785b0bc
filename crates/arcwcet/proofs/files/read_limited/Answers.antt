use Rattle.std.proofs.Common.{◌++◌, take, arith}
use Rattle.std.proofs.KnownBytes.{Consumes-trans}
use Rattle.std.proofs.lemmas.List.{length-append, length-take}
use Rattle.arcwcet.proofs.files.read_limited.Goals as goal

pub returns-then-is_err-clause-stops : goal.returns-then-is_err-clause-stops
returns-then-is_err-clause-stops g c =
    let bytes = c.loop-chunk.bytes.items in
    let part = take c.in-Ok.n c.read.new.part in
    record {
      front = bytes ++ part;
      consumed = Consumes-trans _ _ _ bytes part c.loop-chunk.invariant.so_far c.in-Ok.ensures.bytes.0;
      few = omega (arith, length-append bytes part, length-take c.in-Ok.n c.read.new.part, length-take c.min-want.result c.loop-chunk.chunk, c.read.auto.part, c.in-Ok.ensures.bound, c.loop-chunk.bytes.ok.0);
      too_long = λ e. cc e;
      failed = λ e. cc e;
    }
