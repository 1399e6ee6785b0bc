use Rattle.std.proofs.Common.{◌∙◌, ap, length, length-append, codes, arith}
use Rattle.assembler.specs.ShownLines.{list_text, mark_if}
use Rattle.assembler.proofs.PutLaws.{three}
use Rattle.assembler.proofs.text.Line.push_last_operand.Goals as goal

pub push_list-requires : goal.push_list-requires
push_list-requires c = omega (arith, c.requires, ap length c.put_all.ensures ∙ length-append c.args.self.now (codes ","))

pub push_mark-requires : goal.push_mark-requires
push_mark-requires c =
    omega (arith, c.requires, ap length c.put_all.ensures ∙ length-append c.args.self.now (codes ","), c.push_list.ensures.room)

pub returns-clause-text : goal.returns-clause-text
returns-clause-text c =
    three c.args.self.now (codes ",") (list_text c.args.list) (mark_if c.args.user (codes "^")) c.put_all.ensures c.push_list.ensures.text c.push_mark.ensures.text

pub returns-clause-room : goal.returns-clause-room
returns-clause-room c =
    omega (arith, ap length c.put_all.ensures ∙ length-append c.args.self.now (codes ","), c.push_list.ensures.room, c.push_mark.ensures.room)
