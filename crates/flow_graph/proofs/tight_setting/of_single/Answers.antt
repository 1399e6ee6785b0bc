use Rattle.flow_graph.proofs.SettingSets.{single_sets_at}
use Rattle.flow_graph.proofs.tight_setting.of_single.Goals as goal

pub returns : goal.returns
returns c =
    rw (c.transfer_setting.ensures, c.is_pc.ensures)
    (single_sets_at c.args.aim.now c.args.x.now c.start-first.result c.base_of_single.result c.requires.free c.start-first.ensures c.base_of_single.ensures)
