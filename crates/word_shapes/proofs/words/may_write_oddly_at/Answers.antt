use Rattle.std.proofs.Common.{rules}
use Rattle.word_shapes.specs.Shapes.{is_odd_writer}
use Rattle.word_shapes.proofs.ShapeLaws.{may_decides}
use Rattle.word_shapes.proofs.words.may_write_oddly_at.Goals as goal

pub returns : goal.returns
returns c =
    may_decides is_odd_writer c.args.image.now c.args.at c.instr_at.result c.is_some_and.result c.instr_at.ensures.some
    c.instr_at.ensures.only (search rules)
