use Rattle.justify_reports.proofs.RowLemmas.{whole_text}
use Rattle.justify_reports.proofs.justify.text_of.Goals as goal

pub returns : goal.returns
returns c =
    let s = c.args.summary in
    whole_text c.args.read.now s.given.now s.left.now s.rows.now s.bound s.price c.new-text.result.items c.put_facts.new.out.items c.put_row_texts.new.out.items c.put_summary.new.out.items
    c.new-text.ensures.items c.in_ok-put_facts.ensures c.in_ok-put_row_texts.ensures c.in_ok-put_summary.ensures
