use Rattle.std.proofs.Common.{rules}
use Rattle.arm2_decode.specs.Writers.{is_transfer}
use Rattle.word_shapes.proofs.ShapeLaws.{may_decides}
use Rattle.word_shapes.proofs.words.may_transfer_at.Goals as goal

pub returns : goal.returns
returns c =
    may_decides is_transfer c.args.image.now c.args.at c.instr_at.result c.is_some_and.result c.instr_at.ensures.some
    c.instr_at.ensures.only (search rules)
