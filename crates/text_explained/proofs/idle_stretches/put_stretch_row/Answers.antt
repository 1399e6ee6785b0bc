use Rattle.std.proofs.Common.{◌++◌, codes}
use Rattle.std.proofs.lemmas.Result.{on_ok_weaker}
use Rattle.text_explained.specs.Idle.{ends_text}
use Rattle.text_explained.proofs.RuleLaws.{after}
use Rattle.text_explained.proofs.idle_stretches.put_stretch_row.Goals as goal

pub returns : goal.returns
returns c =
    let ends = ends_text c.args.stretch.now in
    let end = codes "  lies among no loop's addresses\n" in
    let a = c.put.new.out.items in
    let b = c.put_ends.new.out.items in
    let d = c.put-2.new.out.items in
    on_ok_weaker c.put-2.result
    (λ is. after c.args.out.now.items (codes "  apart   ") (ends ++ end) a d c.in_ok-put.ensures (after a ends end b d c.in_ok-put_ends.ensures is))
    c.put-2.ensures
