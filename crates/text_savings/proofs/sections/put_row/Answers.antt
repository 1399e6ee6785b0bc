use Rattle.std.proofs.Common.{◌≡◌, ◌-◌, length, arith}
use Rattle.std.proofs.lemmas.Result.{on_ok_weaker}
use Rattle.text_savings.proofs.RowLaws.{whole_row}
use Rattle.text_savings.proofs.sections.put_row.Goals as goal

pub returns : goal.returns
returns g c =
    let old = c.args.out.now in
    let mid = c.put_front.new.out in
    let used : c.len.result - c.len-begun.result ≡ length mid.items - length old.items = omega (arith, c.len.ensures, c.len-begun.ensures, mid.ok, old.ok) in
    on_ok_weaker c.put.result
    (whole_row (g.E.RowEnds.is_end c.args.ends.now) c.args.saving.now (c.len.result - c.len-begun.result) old.items mid.items c.put.new.out.items c.in_ok-put_front.ensures used)
    c.put.ensures
