use Rattle.std.proofs.Common.{◌∙◌, ◌++◌, ap, codes}
use Rattle.std.proofs.lemmas.Result.{on_ok_weaker}
use Rattle.text_explained.specs.Columns.{time_text}
use Rattle.text_page.proofs.RowLaws.{ten}
use Rattle.text_page.specs.Page.{label_text, style}
use Rattle.text_page.specs.Rows.{address_link}
use Rattle.text_page.proofs.heading.put_heading.Goals as goal

pub returns : goal.returns
returns c =
    let time = time_text c.args.bound in
    let first = c.in_ok-put_time.ensures ∙ ap (λ n. c.put.new.out.items ++ time_text n) c.from.ensures in
    let second = c.in_ok-put_time-2.ensures ∙ ap (λ n. c.put-3.new.out.items ++ time_text n) c.from-2.ensures in
    on_ok_weaker c.put-5.result
    (ten c.args.out.now.items (codes "<!DOCTYPE html>\n<html lang=\"en\">\n<head>\n<meta charset=\"utf-8\">\n<title>") time (codes "</title>\n") style (codes "</head>\n<body>\n<h1>") time
    (codes "</h1>\n<p>at most, from the entry at ") (address_link c.args.entry) (label_text c.args.label.now) (codes "</p>\n")
    c.in_ok-put.ensures first c.in_ok-put-2.ensures c.in_ok-put_style.ensures c.in_ok-put-3.ensures second c.in_ok-put-4.ensures c.in_ok-put_address_link.ensures c.in_ok-put_label.ensures)
    c.put-5.ensures
