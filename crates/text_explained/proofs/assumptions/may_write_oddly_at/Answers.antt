use Rattle.word_shapes.specs.Shapes.{is_odd_writer}
use Rattle.text_explained.specs.Doing.{may_do_shape}
use Rattle.text_explained.proofs.InstrLaws.{none_shaped, word_decides}
use Rattle.text_explained.proofs.assumptions.may_write_oddly_at.Goals as goal

pub returns-in-Some : goal.returns-in-Some
returns-in-Some c =
    word_decides (may_do_shape is_odd_writer c.args.statement.now c.args.at) c.args.image.now c.args.at c.in-Some.instr c.may_write_oddly.result c.in-Some.ensures.some c.in-Some.ensures.only
    c.may_write_oddly.ensures

pub returns-in-None : goal.returns-in-None
returns-in-None c = none_shaped (may_do_shape is_odd_writer c.args.statement.now c.args.at) c.args.image.now c.args.at c.in-None.ensures.only
