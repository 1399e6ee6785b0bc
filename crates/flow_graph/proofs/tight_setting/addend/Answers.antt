use Rattle.std.proofs.Common.{rules}
use Rattle.flow_graph.proofs.SettingSets.{added, subtracted}
use Rattle.flow_graph.proofs.tight_setting.addend.Goals as goal

pub returns-then-eq : goal.returns-then-eq
returns-then-eq c = added c.args.x.now c.args.target c.rotate_imm-operand.result c.ranges.target.fits (search rules) c.rotate_imm-operand.ensures (search rules)

pub returns-else-eq : goal.returns-else-eq
returns-else-eq c = subtracted c.args.x.now c.args.target c.rotate_imm-operand.result c.ranges.target.fits (search rules) c.rotate_imm-operand.ensures c.requires (search rules)
