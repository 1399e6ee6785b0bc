use Rattle.objasm.specs.Parts.{part_of}
use Rattle.objasm.proofs.PartLaws.{front_mapped}
use Rattle.objasm.proofs.token.front_blanks.Goals as goal

pub returns : goal.returns
returns c = front_mapped part_of c.args.tokens.now c.blank_len.result _ c.blank_len.ensures.len
