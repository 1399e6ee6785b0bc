use Rattle.std.proofs.Common.{◌∙◌, ◌++◌, ℕ, ap, codes, decimal, length}
use Rattle.std.proofs.lemmas.Result.{on_ok_weaker}
use Rattle.justify_reports.specs.Summary.{facts_text, false_count, false_text, follows_count}
use Rattle.justify_reports.proofs.TextLemmas.{after}
use Rattle.justify_reports.proofs.summary.put_counts.Goals as goal

pub returns : goal.returns
returns c =
    let rows = c.args.rows.now in
    let few = decimal (follows_count rows) in
    let all = decimal (length rows) in
    let wrong = false_text (false_count rows) in
    let facts = facts_text c.args.given.now in
    let end = codes ".\n" in
    let fourth = wrong ++ (facts ++ end) in
    let third = codes " entries follow, " ++ fourth in
    let old = c.args.out.now.items in
    let a = c.put_decimal.new.out.items in
    let b = c.put.new.out.items in
    let d = c.put_decimal-2.new.out.items in
    let e = c.put-2.new.out.items in
    let f = c.put_false.new.out.items in
    let g = c.put_facts_text.new.out.items in
    let h = c.put-3.new.out.items in
    on_ok_weaker c.put-3.result
    (λ is. after old few (codes " of " ++ (all ++ third)) a h (c.in_ok-put_decimal.ensures ∙ ap (λ (n : ℕ). old ++ decimal n) c.follows_count.ensures)
    (after a (codes " of ") (all ++ third) b h c.in_ok-put.ensures
    (after b all third d h c.in_ok-put_decimal-2.ensures
    (after d (codes " entries follow, ") fourth e h c.in_ok-put-2.ensures
    (after e wrong (facts ++ end) f h (c.in_ok-put_false.ensures ∙ ap (λ (n : ℕ). e ++ false_text n) c.false_count.ensures)
    (after f facts end g h c.in_ok-put_facts_text.ensures is))))))
    c.put-3.ensures
