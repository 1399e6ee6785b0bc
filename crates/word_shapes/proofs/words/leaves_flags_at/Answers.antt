use Rattle.std.proofs.Common.{rules}
use Rattle.word_shapes.specs.Shapes.{leaves_flags}
use Rattle.word_shapes.proofs.ShapeLaws.{shape_decides}
use Rattle.word_shapes.proofs.words.leaves_flags_at.Goals as goal

pub returns : goal.returns
returns c =
    shape_decides leaves_flags c.args.image.now c.args.at c.instr_at.result c.is_some_and.result c.instr_at.ensures.some
    c.instr_at.ensures.only (search rules)
