use Rattle.std.proofs.Common.{◌∙◌}
use Rattle.objasm.specs.Parts.{goes_on, part_of}
use Rattle.objasm.proofs.PartLaws.{prefix_of_map}
use Rattle.objasm.proofs.token.field_len.Goals as goal

pub returns-clause-len : goal.returns-clause-len
returns-clause-len c = c.places.ensures.len ∙ prefix_of_map goes_on part_of c.args.tokens.now
