use Rattle.objasm.specs.Parts.{part_of}
use Rattle.objasm.proofs.PartLaws.{rest_mapped}
use Rattle.objasm.proofs.token.after_field.Goals as goal

pub returns : goal.returns
returns c = rest_mapped part_of c.args.tokens.now c.field_len.result _ c.field_len.ensures.len
