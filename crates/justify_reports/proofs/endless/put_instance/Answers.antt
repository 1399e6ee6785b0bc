use Rattle.std.proofs.Common.{ap, arith, length, sym}
use Rattle.std.proofs.lemmas.List.{length-map}
use Rattle.std.proofs.lemmas.Result.{on_ok_weaker}
use Rattle.std.specs.BTreeMap.{get}
use Rattle.std.specs.Ordering.{nat_cmp}
use Rattle.loop_bounds.specs.Extents.{found_instance}
use Rattle.justify_reports.proofs.EndlessLemmas.{header_at, put}
use Rattle.justify_reports.proofs.endless.put_instance.Goals as goal

pub returns : goal.returns
returns c = λ found.
    let tree = c.args.handler.now.tree in
    let all = c.instances.result.now in
    let instance = c.index-instances-number.result in
    let whole = ap length c.instances.ensures in
    let same = length-map all (found_instance tree.apart) in
    on_ok_weaker c.put_header.result
    (λ puts. put tree c.args.endless.now c.args.number (get nat_cmp c.args.found.now) (get nat_cmp c.put_header.new.found) instance.stated.header
    c.endless_at-said.result
    (header_at tree tree.apart all c.args.number instance c.instances.ensures (let lt = c.requires in omega (arith, lt, whole, same)) c.index-instances-number.is)
    (sym c.endless_at-said.ensures) puts found)
    c.put_header.ensures
