use Rattle.control_flow.specs.Kinds.{is_multiply}
use Rattle.text_explained.proofs.InstrLaws.{none_shaped, word_decides}
use Rattle.text_explained.proofs.idle.is_multiply_at.Goals as goal

pub returns-in-Some : goal.returns-in-Some
returns-in-Some c =
    word_decides (λ i. is_multiply i.operation) c.args.image.now c.args.at c.in-Some.instr c.is_multiply.result c.in-Some.ensures.some c.in-Some.ensures.only c.is_multiply.ensures

pub returns-in-None : goal.returns-in-None
returns-in-None c = none_shaped (λ i. is_multiply i.operation) c.args.image.now c.args.at c.in-None.ensures.only
