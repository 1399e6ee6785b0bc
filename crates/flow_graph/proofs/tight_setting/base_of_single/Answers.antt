use Rattle.std.proofs.Common.{◌∙◌, ap, rules}
use Rattle.arm2_transfer.specs.Single.{address_for, of_immediate}
use Rattle.flow_graph.proofs.SettingSets.{moved_back}
use Rattle.flow_graph.proofs.tight_setting.base_of_single.Goals as goal

pub returns : goal.returns
returns c =
    let x = c.args.x.now in
    ap (address_for (of_immediate x)) c.address_by.ensures ∙ moved_back x.before x.up c.args.address x.offset c.ranges.address.fits (search rules)
