use Rattle.objasm.specs.Parts.{part_of}
use Rattle.objasm.proofs.PartLaws.{front_mapped}
use Rattle.objasm.proofs.token.first_field.Goals as goal

pub returns : goal.returns
returns c = front_mapped part_of c.args.tokens.now c.field_len.result _ c.field_len.ensures.len
