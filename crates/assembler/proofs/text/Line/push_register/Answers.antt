use Rattle.std.proofs.Common.{◌∙◌, ap, length, length-append, arith}
use Rattle.assembler.specs.ShownLines.{numbered}
use Rattle.assembler.proofs.ShownLaws.{numbered_short}
use Rattle.assembler.proofs.text.Line.push_register.Goals as goal

pub push_numbered-requires : goal.push_numbered-requires
push_numbered-requires c = omega (arith, numbered_short c.number.result c.number.ensures.fits)

pub returns-clause-room : goal.returns-clause-room
returns-clause-room c =
    omega (arith, numbered_short c.number.result c.number.ensures.fits, ap length c.push_numbered.ensures ∙ length-append c.args.self.now (numbered c.number.result))
