use Rattle.std.proofs.Common.{◌∙◌, ◌++◌, ℕ, List, ap, codes, decimal, rules}
use Rattle.std.proofs.lemmas.Result.{on_ok_weaker}
use Rattle.justify_reports.specs.Summary.{runs_text}
use Rattle.justify_reports.proofs.TextLemmas.{after}
use Rattle.justify_reports.proofs.summary.put_theorem.Goals as goal

pub returns : goal.returns
returns c =
    let runs = runs_text c.args.given.now in
    let bound = decimal c.args.bound in
    let price = decimal c.args.price in
    let end = codes " more for each DMA burst.\n" in
    let third = codes " ticks, and " ++ (price ++ end) in
    let old = c.args.out.now.items in
    let a = c.put.new.out.items in
    let b = c.put-2.new.out.items in
    let d = c.put_decimal.new.out.items in
    let e = c.put-3.new.out.items in
    let f = c.put_decimal-2.new.out.items in
    let g = c.put-4.new.out.items in
    on_ok_weaker c.put-4.result
    (λ is. after old runs (codes ", without visits, takes at most\n" ++ (bound ++ third)) a g (c.in_ok-put.ensures ∙ ap (λ (xs : List ℕ). old ++ xs) c.runs_text.ensures)
    (after a (codes ", without visits, takes at most\n") (bound ++ third) b g c.in_ok-put-2.ensures
    (after b bound third d g c.in_ok-put_decimal.ensures
    (after d (codes " ticks, and ") (price ++ end) e g c.in_ok-put-3.ensures (after e price end f g (search rules) is)))))
    c.put-4.ensures
