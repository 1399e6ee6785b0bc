use Rattle.std.proofs.Common.{ap, ◌∙◌}
use Rattle.arm2_decode.specs.Names.{is_compare_number}
use Rattle.arm2_decode.proofs.NameLemmas.{compare_numbered}
use Rattle.arm2_decode.proofs.names.Opcode.is_compare.Goals as goal

pub returns : goal.returns
returns c = c.is_compare_number.ensures ∙ ap is_compare_number c.number.ensures.number ∙ compare_numbered c.args.self
