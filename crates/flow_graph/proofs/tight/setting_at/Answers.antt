use Rattle.flow_graph.proofs.TightSetUp.{set_by}
use Rattle.flow_graph.proofs.tight.setting_at.Goals as goal

pub returns-in-Do-Ok : goal.returns-in-Do-Ok
returns-in-Do-Ok c = set_by c.args.aim.now c.args.word c.args.label c.in-Do-Ok.instr c.setting_for.result c.in-Do-Ok.ensures.found c.setting_for.ensures
