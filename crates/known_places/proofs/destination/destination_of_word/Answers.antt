use Rattle.std.proofs.Common.{◌∙◌, ap}
use Rattle.arm2_decode.specs.declared.names.Register.TheVariants.{R14}
use Rattle.arm2_effect.specs.Operands.{current_in}
use Rattle.arm2_effect.specs.ProgramCounter.{address_of}
use Rattle.known_places.proofs.destination.destination_of_word.Goals as goal

pub returns-then-is_from_link : goal.returns-then-is_from_link
returns-then-is_from_link c = λ entry turns word known.
    ap address_of
    (c.is_from_link.ensures c.if-is_from_link.true entry turns word known.0 ∙ c.negated.ensures (current_in R14 entry))
