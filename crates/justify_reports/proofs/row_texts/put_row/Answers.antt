use Rattle.std.proofs.Common.{◌∙◌, ◌++◌, List, ℕ, ap, length}
use Rattle.std.proofs.lemmas.Result.{on_ok_weaker}
use Rattle.justify_reports.proofs.RowLemmas.{row_put}
use Rattle.justify_reports.proofs.row_texts.put_row.Goals as goal

pub returns : goal.returns
returns c =
    let sight = c.args.sight in
    let front = c.in_ok-front.front.items in
    on_ok_weaker c.put_end.result
    (row_put sight.read.now sight.read.now.image c.args.row sight.lines.now front c.args.out.now.items c.put.new.out.items c.put_end.new.out.items (length c.deref-2.result.now) c.requires c.in_ok-front.ensures
    (ap (λ (xs : List ℕ). length xs) c.deref-2.ensures.value) (c.in_ok-put.ensures ∙ ap (λ (xs : List ℕ). c.args.out.now.items ++ xs) c.deref.ensures.value))
    c.put_end.ensures
