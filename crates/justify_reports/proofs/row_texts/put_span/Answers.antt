use Rattle.std.proofs.Common.{◌∙◌, ◌++◌, ℕ, List, ap, codes}
use Rattle.std.proofs.lemmas.Result.{on_ok_weaker}
use Rattle.asm_text.specs.Hex.{hex8}
use Rattle.justify_reports.proofs.TextLemmas.{after}
use Rattle.justify_reports.proofs.row_texts.put_span.Goals as goal

pub returns : goal.returns
returns c =
    let low = hex8 c.args.low in
    let high = hex8 c.args.high in
    let old = c.args.out.now.items in
    let a = c.put.new.out.items in
    let b = c.put-2.new.out.items in
    on_ok_weaker c.put-3.result
    (λ is. after old low (codes "-" ++ high) a c.put-3.new.out.items
    (c.in_ok-put.ensures ∙ ap (λ (xs : List ℕ). old ++ xs) c.hex8.ensures)
    (after a (codes "-") high b c.put-3.new.out.items c.in_ok-put-2.ensures (is ∙ ap (λ (xs : List ℕ). b ++ xs) c.hex8-2.ensures)))
    c.put-3.ensures
