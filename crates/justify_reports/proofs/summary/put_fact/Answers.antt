use Rattle.std.proofs.Common.{◌++◌, codes}
use Rattle.std.proofs.lemmas.Result.{on_ok_weaker}
use Rattle.text_explained.specs.Rules.{register_text}
use Rattle.justify_reports.specs.Summary.{range_text}
use Rattle.justify_reports.proofs.TextLemmas.{after}
use Rattle.justify_reports.proofs.summary.put_fact.Goals as goal

pub returns : goal.returns
returns c =
    let g = c.args.given in
    let name = register_text g.register in
    let range = range_text g.low g.high in
    let end = codes "\n" in
    let a = c.put.new.out.items in
    let b = c.put_register.new.out.items in
    let d = c.put_range.new.out.items in
    let e = c.put-2.new.out.items in
    on_ok_weaker c.put-2.result
    (λ is. after c.args.out.now.items (codes "given ") (name ++ (range ++ end)) a e c.in_ok-put.ensures
    (after a name (range ++ end) b e c.in_ok-put_register.ensures (after b range end d e c.in_ok-put_range.ensures is)))
    c.put-2.ensures
