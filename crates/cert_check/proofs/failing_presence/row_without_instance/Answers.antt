use Rattle.std.proofs.Common.{◌∙◌, ap, map}
use Rattle.longest_walk.specs.Rows.{header_of, header_of_row}
use Rattle.cert_check.proofs.FailingLemmas.{found_listed, found_over}
use Rattle.cert_check.proofs.failing_presence.row_without_instance.Goals as goal

pub returns : goal.returns
returns c =
    let wanted = c.deref.ensures.value ∙ c.in_ok-rows.ensures ∙ ap (map header_of_row) c.items.ensures in
    let rows = map header_of_row c.args.cert.now.instances in
    let listed = c.in_ok-instances.instances.items in
    found_listed c.first_without.result rows (map header_of c.args.tree.now.instances) listed c.in_ok-instances.ensures
    (found_over c.first_without.result c.deref.result.now c.deref-2.result.now rows listed wanted c.deref-2.ensures.value c.first_without.ensures)
