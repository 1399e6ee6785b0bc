use Rattle.std.proofs.Common.{◌∙◌, ◌++◌, ℕ, List, ap, codes}
use Rattle.std.proofs.lemmas.Result.{on_ok_weaker}
use Rattle.asm_text.specs.Hex.{hex8}
use Rattle.justify_reports.proofs.TextLemmas.{after}
use Rattle.justify_reports.proofs.summary.put_ends.Goals as goal

pub returns : goal.returns
returns c =
    let low = hex8 c.args.low in
    let high = hex8 c.args.high in
    let a = c.put.new.out.items in
    let b = c.put-2.new.out.items in
    let d = c.put-3.new.out.items in
    let e = c.put-4.new.out.items in
    on_ok_weaker c.put-4.result
    (λ is. after c.args.out.now.items (codes " from ") (low ++ (codes " to " ++ high)) a e c.in_ok-put.ensures
    (after a low (codes " to " ++ high) b e (c.in_ok-put-2.ensures ∙ ap (λ (xs : List ℕ). a ++ xs) c.hex8.ensures)
    (after b (codes " to ") high d e c.in_ok-put-3.ensures (is ∙ ap (λ (xs : List ℕ). d ++ xs) c.hex8-2.ensures))))
    c.put-4.ensures
