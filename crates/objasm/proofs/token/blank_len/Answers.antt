use Rattle.std.proofs.Common.{◌∙◌}
use Rattle.objasm.specs.Parts.{is_blank_part, part_of}
use Rattle.objasm.proofs.PartLaws.{prefix_of_map}
use Rattle.objasm.proofs.token.blank_len.Goals as goal

pub returns-clause-len : goal.returns-clause-len
returns-clause-len c = c.blanks.ensures.len ∙ prefix_of_map is_blank_part part_of c.args.tokens.now
