use Rattle.objasm.specs.Parts.{part_of}
use Rattle.objasm.proofs.PartLaws.{rest_mapped}
use Rattle.objasm.proofs.token.after_blanks.Goals as goal

pub returns : goal.returns
returns c = rest_mapped part_of c.args.tokens.now c.blank_len.result _ c.blank_len.ensures.len
