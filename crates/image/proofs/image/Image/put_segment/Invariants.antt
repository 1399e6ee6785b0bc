use Rattle.image.specs.Inside.{IsPartly}
use Rattle.image.proofs.image.Image.put_segment.Given as goal

abbrev pub invariant-loop-next : goal.invariant-loop-next
invariant-loop-next l = IsPartly l.fn.self l.head.address l.head.count l.bytes l.next l.self
