use Rattle.std.proofs.Common.{◌∙◌, ◌++◌, ℕ, List, ap, codes}
use Rattle.std.proofs.lemmas.Result.{on_ok_weaker}
use Rattle.text_rows.specs.Columns.{in_columns}
use Rattle.explain_reports.specs.Each.{answer_text, labelled_end, way_text}
use Rattle.explain_reports.proofs.EachLemmas.{after}
use Rattle.explain_reports.proofs.each.put_row.Goals as goal

pub returns : goal.returns
returns c =
    let old = c.args.out.now.items in
    let a = c.put_way.new.out.items in
    let b = c.put.new.out.items in
    let d = c.put_right.new.out.items in
    let e = c.put_labelled_end.new.out.items in
    let answer = answer_text c.args.answer in
    let end = labelled_end c.args.label.now in
    let text = c.deref.ensures.value ∙ c.in_ok-put_answer.ensures ∙ ap (λ (xs : List ℕ). xs ++ answer) c.new-text.ensures.items in
    on_ok_weaker c.put_labelled_end.result
    (λ is. after old (way_text c.args.at c.args.to) (codes "  " ++ (in_columns 15 answer ++ end)) a e c.in_ok-put_way.ensures
    (after a (codes "  ") (in_columns 15 answer ++ end) b e c.in_ok-put.ensures
    (after b (in_columns 15 answer) end d e (c.in_ok-put_right.ensures ∙ ap (λ (xs : List ℕ). b ++ in_columns 15 xs) text) is)))
    c.put_labelled_end.ensures
