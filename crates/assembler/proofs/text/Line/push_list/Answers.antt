use Rattle.std.proofs.Common.{◌∙◌, ap, length, length-append, codes, arith}
use Rattle.assembler.specs.ShownLines.{listed_below}
use Rattle.assembler.proofs.PutLaws.{three}
use Rattle.assembler.proofs.text.Line.push_list.Goals as goal

pub push_registers-requires : goal.push_registers-requires
push_registers-requires c = omega (arith, c.requires, ap length c.put_all.ensures ∙ length-append c.args.self.now (codes "{"))

pub put_all-requires-2 : goal.put_all-requires-2
put_all-requires-2 c =
    omega (arith, c.requires, ap length c.put_all.ensures ∙ length-append c.args.self.now (codes "{"), c.push_registers.ensures.room)

pub returns-clause-text : goal.returns-clause-text
returns-clause-text c =
    three c.args.self.now (codes "{") (listed_below c.args.list 16) (codes "}") c.put_all.ensures c.push_registers.ensures.text c.put_all-2.ensures

pub returns-clause-room : goal.returns-clause-room
returns-clause-room c =
    omega (arith, ap length c.put_all.ensures ∙ length-append c.args.self.now (codes "{"), c.push_registers.ensures.room, ap length c.put_all-2.ensures ∙ length-append c.push_registers.new.self (codes "}"))
